-- A SECOND OPINION: entries 4 s to 4 s + 3 are the cell that s names, which is what the descent over A5's table, as the compiler leaves it in any
-- part of a lent table, gives at s; and no entry past the last cell is touched.
use mathlib.Core.Path.{◌≡◌, refl, sym, ap, ◌∙◌, subst}
use mathlib.Core.List.{List, ◌++◌, append_assoc}
use Prim.Native.Nat.{ℕ, zero, suc, ◌+◌, ◌-◌, ◌*◌, ◌^◌, ◌≤◌, ◌<◌}
use native.Mathlib.Nat.{add-zero, zero-add}
use native.Mathlib.Omega.{arith}
use lib.IntN.{ℤ, pos}
use lib.ListN.{length, take, drop, get_or}
use lib.Seq.{take_at, drop_at}
use Rattle.triple.specs.Refusals.{told}
use Rattle.triple.specs.Lent.{count_of, after_call}
use Rattle.triple.specs.Triples.{closed_flavor}
use Rattle.triple.specs.Orientations.{axiom_motif, curve_place}
use Rattle.triple.proofs.LentLaws.{whole_count, whole_stored}
use Rattle.triple.proofs.OrientationLaws.{six, place_small}
use Rattle.grammar.specs.Curves.{drawing}
use Rattle.tables.specs.Children.{no_cell}
use Rattle.tables.specs.Compiler.{state_count, after_compile}
use Rattle.tables.specs.Descent.{descent_in}
use Rattle.tables.specs.Table.{leaf_of, flavor_number}
use Rattle.tables.proofs.CompileDetermined.{compiled_draws}
use Rattle.a5.specs.A5.{a5_text, a5}
use Rattle.a5.proofs.A5Compiled.{a5_accepted}
use Rattle.a5.proofs.Axioms.{token}
use Rattle.a5.proofs.Once.{cell_flavor}
use Rattle.lsystem.specs.declared.cell.Cell.{Cell}
use Rattle.lsystem.specs.Cells.{drawn_cell, cell_of, cell_values}
use Rattle.lsystem.proofs.CellLaws.{axiom_in, axiom_letter, tokens, token_small, cell_in, drawn_follow, drawn_triple_lem, moved_back}
use Rattle.lsystem.proofs.Numbering.{cell_on}
use Rattle.sketch.specs.Drawings.{draw_call, descended}
use Rattle.sketch.specs.Inside.Pens.{Drawable}
use Rattle.sketch.proofs.CellLaws.{entries, cell_told}
use Rattle.sketch.proofs.FillLaws.{listed, length_listed}
use Rattle.sketch.proofs.DrawLaws.{sketch, fours, sketch_length, draw_gives}

-- ---- a place's own entries in a list
listed_parts : (f : ℕ → List ℤ) (k m s : ℕ) → listed f (k + m) s ≡ listed f k s ++ listed f m (s + k)
unfolding listed
listed_parts f zero m s = ap (λ j. listed f j s) (zero-add m) ∙ ap (listed f m) (sym (add-zero s))
listed_parts f (suc k) m s =
    let e : suc k + m ≡ suc (k + m) = omega arith in
    let g : suc s + k ≡ s + suc k = omega arith in
    ap (λ j. listed f j s) e ∙ ap (λ l. f s ++ l) (listed_parts f k m (suc s) ∙ ap (λ j. listed f k (suc s) ++ listed f m j) g) ∙ sym (append_assoc (f s) (listed f k (suc s)) (listed f m (s + suc k)))

module _ (f : ℕ → List ℤ) (n : ℕ) (each : (s : ℕ) → s < n → length (f s) ≡ 4) where
  listed_at : (rest : List ℤ) (s : ℕ) → s < n → take 4 (drop (4 * s) (listed f n 0 ++ rest)) ≡ f s
  unfolding listed
  listed_at rest s h =
      let m = n - suc s in
      let whole : n ≡ s + suc m = omega arith in
      let a = listed f s 0 in
      let b = listed f m (suc s) in
      let parts : listed f n 0 ≡ a ++ (f s ++ b) = ap (λ j. listed f j 0) whole ∙ listed_parts f s (suc m) 0 ∙ ap (λ j. a ++ listed f (suc m) j) (zero-add s) in
      ap (λ l. take 4 (drop (4 * s) (l ++ rest))) parts
      ∙ ap (λ l. take 4 (drop (4 * s) l)) (append_assoc a (f s ++ b) rest)
      ∙ ap (take 4) (drop_at a (f s ++ b ++ rest) (4 * s) (length_listed f n each s 0 (omega arith)) ∙ append_assoc (f s) b rest)
      ∙ take_at (f s) (b ++ rest) 4 (each s h)

-- ---- a drawing into a buffer that has room
module _ (o r : ℕ) (ask : Drawable o r) (out : List ℤ) (room : 4 * 4 ^ r ≤ length out) where
  some_passes : r ≡ 0 → ⊥
  some_passes e = omega (arith, ask.some)

  gives : told (sketch o r) ≡ draw_call o r
  gives = draw_gives o r some_passes ask.shallow ask.oriented

  long : length (sketch o r) ≡ 4 * 4 ^ r
  long = sketch_length o r ask.oriented some_passes ask.shallow

  pub draw_count : count_of (draw_call o r) out ≡ told (4 * 4 ^ r)
  draw_count = sym (whole_count out gives long room)

  stored : after_call (draw_call o r) out ≡ sketch o r ++ drop (4 * 4 ^ r) out
  stored = sym (whole_stored out gives long room refl)

  place_entries : (s : ℕ) → s < 4 ^ r → take 4 (drop (4 * s) (after_call (draw_call o r) out)) ≡ entries (cell_of o r s)
  unfolding sketch
  place_entries s l =
      ap (λ b. take 4 (drop (4 * s) b)) stored ∙ listed_at (λ s. entries (cell_of o r s)) (4 ^ r) (fours o r ask.oriented some_passes ask.shallow) (drop (4 * 4 ^ r) out) s l

  -- entries 4 s to 4 s + 3 are the triple and the flavor of the cell that s names
  pub draw_cells : (s : ℕ) (c : Cell) → s < 4 ^ r → cell_of o r s ≡ told c → take 4 (drop (4 * s) (after_call (draw_call o r) out)) ≡ cell_values c
  draw_cells s c l e = place_entries s l ∙ ap entries e

  -- the rest is as it was
  pub draw_past : drop (4 * 4 ^ r) (after_call (draw_call o r) out) ≡ drop (4 * 4 ^ r) out
  draw_past = ap (drop (4 * 4 ^ r)) stored ∙ drop_at (sketch o r) (drop (4 * 4 ^ r) out) (4 * 4 ^ r) long

-- ---- the descent over what the compiler wrote
token_is : (o : ℕ) → o ≤ 5 → axiom_motif o ≡ token (axiom_in o)
unfolding axiom_motif axiom_in
token_is = six (λ o. axiom_motif o ≡ token (axiom_in o)) refl refl refl refl refl refl

module _ (table : List ℤ) (start : ℕ) (holds : start + 1148 ≤ length table) (o n : ℕ) (h : o ≤ 5) (k : n ≤ 29) (s : ℕ) (l : s < 4 ^ suc n) where
  fits : start + 41 * state_count a5_text ≤ length table
  unfolding a5
  fits = omega (arith, tokens)

  leaf_told : descent_in (after_compile a5_text table start) start 28 (suc n) (axiom_motif o) (curve_place o (suc n) s) ≡ told (leaf_of (drawn_cell o (suc n) s))
  unfolding a5 drawn_cell
  leaf_told =
      ap (λ m. descent_in (after_compile a5_text table start) start 28 (suc n) m (curve_place o (suc n) s)) (token_is o h)
      ∙ ap (λ m. descent_in (after_compile a5_text table start) start (2 * m) (suc n) (token (axiom_in o)) (curve_place o (suc n) s)) (sym tokens)
      ∙ compiled_draws a5_text a5_accepted table start fits (suc n) (token (axiom_in o)) (curve_place o (suc n) s) (omega arith) (omega arith) (subst (λ m. token (axiom_in o) < m) (sym tokens) (token_small (axiom_in o))) (place_small o (suc n) s l)
      ∙ ap (λ b. told (leaf_of (get_or (drawing a5 (suc n) b) (curve_place o (suc n) s) no_cell))) (axiom_letter o h)

  flavor_is : flavor_number (drawn_cell o (suc n) s).flavor ≡ pos (closed_flavor (suc n) (cell_in o n s h l))
  flavor_is = sym (ap (λ c. c.flavor) (drawn_follow o n s h l)) ∙ cell_flavor (axiom_in o) n (curve_place o (suc n) s)

  descended_told : descended (after_compile a5_text table start) start o (suc n) s ≡ told (cell_values (cell_on (suc n) (cell_in o n s h l)))
  unfolding descended
  descended_told = rw (leaf_told, drawn_triple_lem o n s h k l, moved_back o h (suc n) (cell_in o n s h l), flavor_is) refl

-- place by place
pub draw_is_descent : (o r : ℕ) → Drawable o r → (out : List ℤ) → 4 * 4 ^ r ≤ length out → (table : List ℤ) (start : ℕ) → start + 1148 ≤ length table → (s : ℕ) → s < 4 ^ r
    → descended (after_compile a5_text table start) start o r s ≡ told (take 4 (drop (4 * s) (after_call (draw_call o r) out)))
draw_is_descent o zero ask out room table start holds s l = absurd (omega (arith, ask.some))
draw_is_descent o (suc n) ask out room table start holds s l =
    let h = ask.oriented in
    let k : n ≤ 29 = omega (arith, ask.shallow) in
    descended_told table start holds o n h k s l ∙ ap told (sym (draw_cells o (suc n) ask out room s (cell_on (suc n) (cell_in o n s h l)) l (cell_told o n h k s l)))
