-- What a drawing gives, at each of its tests, and that the walk of the axiom's letter fills the buffer with it.
use mathlib.Core.Path.{◌≡◌, refl, sym, ap, ◌∙◌}
use mathlib.Core.Bool.{Bool, false}
use mathlib.Core.List.{List, [], ◌∷◌, ◌++◌}
use Prim.Native.Nat.{ℕ, zero, suc, ◌+◌, ◌*◌, ◌^◌, ◌≤◌, ◌<◌}
use native.Mathlib.Nat as N
use native.Mathlib.Numerals.{add-one}
use native.Mathlib.Omega.{arith}
use borrow.Author.Tests.{le-ltb, lt-ltb, eq-eqb, ne_eqb}
use lib.IntN.{ℤ}
use lib.ListN.{length, drop}
use mir.Syntax.{w8, w64}
use mir.Val.{Fits}
use Rattle.triple.specs.declared.orientation.Recipe.{Recipe}
use Rattle.triple.specs.declared.refusal.Refusal.TheVariants as Is
use Rattle.triple.specs.Refusals.{told, refused, number_of}
use Rattle.triple.specs.Domain.{position_count}
use Rattle.triple.specs.Lent.{count_of, after_call}
use Rattle.triple.specs.Orientations.{axiom_motif, axiom_of, is_backward, is_shifted, recipe_of}
use Rattle.triple.proofs.DomainLaws.{positions_are}
use Rattle.triple.proofs.LentLaws.{refused_count, refused_kept, short_count, short_kept, whole_count, whole_stored}
use Rattle.triple.proofs.OrientationLaws.{motif_small}
use Rattle.turtle.specs.declared.AB.{AB}
use Rattle.turtle.specs.Walk.{turtle}
use Rattle.turtle.proofs.WordLaws.{placed}
use Rattle.grammar.specs.Curves.{letter_count, strokes}
use Rattle.tables.specs.Children.{no_cell}
use Rattle.a5.specs.A5.{a5}
use Rattle.lsystem.specs.Cells.{cell_of}
use Rattle.sketch.specs.declared.pen.Pen.{Pen}
use Rattle.sketch.specs.Drawings.{cells_from, draw_call}
use Rattle.sketch.specs.Inside.Marks.{marks}
use Rattle.sketch.specs.Inside.Pens.{start_of, inked, Room, Drawable}
use Rattle.sketch.proofs.MarkLaws.{marks_strokes}
use Rattle.sketch.proofs.StartLaws.{start_small}
use Rattle.sketch.proofs.FillLaws.{listed, length_listed, walk_fills}
use Rattle.sketch.proofs.CellLaws.{entries, cell_told, entries_four, axiom_cells, drawn_entries}

-- ---- the cells of all positions
unfoldable pub sketch : ℕ → ℕ → List ℤ
sketch o r = listed (λ s. entries (cell_of o r s)) (4 ^ r) 0

module _ (o r : ℕ) (h : o ≤ 5) (z : r ≡ 0 → ⊥) (k : r ≤ 6) where
  pub fours : (s : ℕ) → s < 4 ^ r → length (entries (cell_of o r s)) ≡ 4
  fours = go r z k
    where
      go : (r : ℕ) → (r ≡ 0 → ⊥) → r ≤ 6 → (s : ℕ) → s < 4 ^ r → length (entries (cell_of o r s)) ≡ 4
      go zero z k = absurd (z refl)
      go (suc n) z k = entries_four o n h (omega arith)

  pub sketch_length : length (sketch o r) ≡ 4 * 4 ^ r
  unfolding sketch
  sketch_length = length_listed (λ s. entries (cell_of o r s)) (4 ^ r) fours (4 ^ r) 0 (omega arith)

  pub cells_told : cells_from o r (4 ^ r) 0 ≡ told (sketch o r)
  unfolding cells_from sketch listed
  cells_told = go r z k (4 ^ r) 0 (omega arith)
    where
      go : (r : ℕ) → (r ≡ 0 → ⊥) → r ≤ 6 → (m s : ℕ) → s + m ≤ 4 ^ r → cells_from o r m s ≡ told (listed (λ s. entries (cell_of o r s)) m s)
      go zero z k m s l = absurd (z refl)
      go (suc n) z k zero s l = refl
      go (suc n) z k (suc m) s l =
          let c = cell_told o n h (omega arith) s (omega arith) in
          rw (go (suc n) z k m (suc s) (omega arith), c) refl

-- ---- the tests in order
module _ (o r : ℕ) where
  none_gives : r ≡ 0 → refused (number_of Is.Passes) ≡ draw_call o r
  unfolding draw_call
  none_gives e = simp (eq-eqb r 0 e)

  deep_gives : 6 < r → refused (number_of Is.Passes) ≡ draw_call o r
  unfolding draw_call
  deep_gives h = simp (ne_eqb r 0 (λ e. omega arith), lt-ltb 6 r h)

  module _ (z : r ≡ 0 → ⊥) (k : r ≤ 6) where
    turned_gives : 5 < o → refused (number_of Is.Orientation) ≡ draw_call o r
    unfolding draw_call
    turned_gives h = simp (ne_eqb r 0 z, le-ltb 6 r k, lt-ltb 5 o h)

    pub draw_gives : o ≤ 5 → told (sketch o r) ≡ draw_call o r
    unfolding draw_call
    draw_gives h = simp (ne_eqb r 0 z, le-ltb 6 r k, le-ltb 5 o h) (sym (cells_told o r h z k))

-- in the form of what the code has in hand
module _ (o r : ℕ) (out : List ℤ) where
  pub none_count : r ≡ 0 → refused (number_of Is.Passes) ≡ count_of (draw_call o r) out
  none_count e = refused_count out (none_gives o r e)

  pub none_kept : r ≡ 0 → out ≡ after_call (draw_call o r) out
  none_kept e = refused_kept out (none_gives o r e)

  pub deep_count : 6 < r → refused (number_of Is.Passes) ≡ count_of (draw_call o r) out
  deep_count h = refused_count out (deep_gives o r h)

  pub deep_kept : 6 < r → out ≡ after_call (draw_call o r) out
  deep_kept h = refused_kept out (deep_gives o r h)

  module _ (z : r ≡ 0 → ⊥) (k : r ≤ 6) where
    pub turned_count : 5 < o → refused (number_of Is.Orientation) ≡ count_of (draw_call o r) out
    turned_count h = refused_count out (turned_gives o r z k h)

    pub turned_kept : 5 < o → out ≡ after_call (draw_call o r) out
    turned_kept h = refused_kept out (turned_gives o r z k h)

    module _ (h : o ≤ 5) {cells : ℕ} (counted : cells ≡ position_count r) where
      many : cells ≡ 4 ^ r
      many = positions_are r (omega arith) counted

      long : length (sketch o r) ≡ 4 * cells
      long = sketch_length o r h z k ∙ ap (λ n. 4 * n) (sym many)

      pub cells_fit : Fits w64 (4 * cells)
      cells_fit = record { fits = omega (arith, many, N.pow-le-pow_right {n = 4} (omega arith) {i = r} {j = 6} k) }

      pub few_count : length out < 4 * cells → refused (number_of Is.Room) ≡ count_of (draw_call o r) out
      few_count l = short_count out (draw_gives o r z k h) long l

      pub few_kept : length out < 4 * cells → out ≡ after_call (draw_call o r) out
      few_kept l = short_kept out (draw_gives o r z k h) long l

      pub all_count : 4 * cells ≤ length out → told (4 * cells) ≡ count_of (draw_call o r) out
      all_count l = whole_count out (draw_gives o r z k h) long l

      pub all_room : 4 * cells ≤ length out → 4 * 4 ^ r ≤ length out
      all_room l = rw many at l

pub ruleset drawing = (none_count, none_kept, deep_count, deep_kept, turned_count, turned_kept, cells_fit, few_count, few_kept, all_count, all_room)

-- ---- the walk of the whole curve
-- the pen that the code starts with
abbrev pen_from : AB → ℕ → Bool → Pen
pen_from at cells back = record { turtle = turtle at 0; drawn = 0; cells = cells; backward = back }

fills : (o : ℕ) → o ≤ 5 → (out : List ℤ) (r : ℕ) → (r ≡ 0 → ⊥) → r ≤ 6 → 4 * 4 ^ r ≤ length out
    → inked (strokes a5 r (axiom_of o)) (pen_from (start_of (is_shifted o) r) (4 ^ r) (is_backward o)) out ≡ sketch o r ++ drop (4 * 4 ^ r) out
unfolding sketch
fills o h out zero z k l = absurd (z refl)
fills o h out (suc n) z k l =
    walk_fills (λ s. entries (cell_of o (suc n) s)) (4 ^ suc n) (entries_four o n h (omega arith)) out l (placed (start_of (is_shifted o) (suc n)) false no_cell)
    (strokes a5 (suc n) (axiom_of o)) (pen_from (start_of (is_shifted o) (suc n)) (4 ^ suc n) (is_backward o)) refl refl (axiom_cells o (suc n) h) (drawn_entries o n h (omega arith))

-- the axiom's letter
module _ (o : ℕ) {w : Recipe} (recipe : w ≡ recipe_of o) where
  motif_is : w.motif ≡ axiom_motif o
  unfolding recipe_of
  motif_is = ap (λ (w : Recipe). w.motif) recipe

  pub motif_byte : Fits w8 w.motif
  motif_byte = record { fits = omega (arith, motif_is, motif_small o) }

  pub letter_byte : Fits w8 (65 + w.motif)
  letter_byte = record { fits = omega (arith, motif_is, motif_small o) }

  letter_is : 65 + w.motif ≡ axiom_of o
  unfolding axiom_of
  letter_is = ap (λ m. 65 + m) motif_is

  module _ (r : ℕ) (ask : Drawable o r) (out : List ℤ) (room : 4 * 4 ^ r ≤ length out) {at : AB} (home : at ≡ start_of w.shifted r) {cells : ℕ} (counted : cells ≡ position_count r) where
    strokes_are : marks (r + 1) ((65 + w.motif) ∷ []) ≡ strokes a5 r (axiom_of o)
    strokes_are = ap (λ k. marks k ((65 + w.motif) ∷ [])) (add-one r) ∙ marks_strokes r (65 + w.motif) ∙ ap (strokes a5 r) letter_is

    cells_are : cells ≡ 4 ^ r
    cells_are = positions_are r (omega (arith, ask.shallow)) counted

    pub fill_room : Room (marks (r + 1) ((65 + w.motif) ∷ [])) (pen_from at cells w.backward) out
    fill_room =
        let many : cells ≡ 4 ^ r = cells_are in
        record {
          fits = omega (arith, ap letter_count strokes_are, axiom_cells o r ask.oriented);
          few = omega (arith, N.pow-le-pow_right {n = 4} (omega arith) {i = r} {j = 6} ask.shallow);
          room = omega arith;
          small = rw home (start_small r ask.shallow w.shifted);
          faces = omega arith;
        }

    pub fill_all : {last : List ℤ} → last ≡ inked (marks (r + 1) ((65 + w.motif) ∷ [])) (pen_from at cells w.backward) out → last ≡ after_call (draw_call o r) out
    unfolding recipe_of
    fill_all f =
        let z : r ≡ 0 → ⊥ = λ e. omega (arith, ask.some) in
        whole_stored out (draw_gives o r z ask.shallow ask.oriented) (sketch_length o r ask.oriented z ask.shallow) room
        (f ∙ (rw (strokes_are, home, cells_are, recipe) (fills o ask.oriented out r z ask.shallow room)))

pub ruleset filling = (motif_byte, letter_byte, fill_room, fill_all)
