-- The cells that the walk draws from where it starts are those of the positions, entry by entry.
use mathlib.Core.Path.{◌≡◌, refl, sym, ap, ◌∙◌, subst}
use mathlib.Core.Bool.{false}
use mathlib.Core.List.{List, []}
use Prim.Native.Nat.{ℕ, suc, ◌*◌, ◌^◌, ◌≤◌, ◌<◌}
use native.Mathlib.Omega.{arith}
use lib.IntN.{ℤ, pos, neg_ℤ, ◌+ℤ◌, ◌-ℤ◌}
use lib.ListN.{length, get_or, get_or-map}
use Rattle.std.specs.Prelude.{Option, Some, None}
use Rattle.whole.proofs.View.{view, v_var, eq_by}
use Rattle.triple.specs.declared.Triple.{Triple}
use Rattle.triple.specs.Refusals.{Told, told, refused}
use Rattle.triple.specs.Orientations.{axiom_of, is_backward, is_shifted, place_from, curve_place}
use Rattle.triple.proofs.OrientationLaws.{six, place_small, place_place}
use Rattle.turtle.specs.declared.AB.{AB}
use Rattle.turtle.specs.Plane.{ab, origin, ◌⊕◌, thrice, signed, facing}
use Rattle.turtle.specs.Corners.{corner_sum, triple_of}
use Rattle.turtle.specs.Letters.{toggled}
use Rattle.turtle.specs.Walk.{turtle, start, cells, turned_flavor}
use Rattle.turtle.proofs.PlaneLaws.{⊕_idl, thrice_origin}
use Rattle.turtle.proofs.CornerLaws.{pair_is, corner_sum_near, triple_of_corner_sum}
use Rattle.turtle.proofs.WordLaws.{placed, cells_from}
use Rattle.grammar.specs.Curves.{strokes, drawing, letter_count}
use Rattle.tables.specs.Children.{no_cell}
use Rattle.tables.proofs.SizeLaws.{strokes_many}
use Rattle.a5.specs.A5.{a5_text, a5}
use Rattle.a5.proofs.A5Compiled.{a5_accepted}
use Rattle.a5.proofs.Axioms.{token, drawn}
use Rattle.a5.proofs.Once.{cell_bounds}
use Rattle.lsystem.specs.declared.cell.Cell.{Cell}
use Rattle.lsystem.specs.Cells.{drawn_cell, flavor_in, cell_of, cell_values}
use Rattle.lsystem.proofs.CellLaws.{axiom_in, axiom_letter, tokens, token_small, cell_in, drawn_sum, drawn_flavor, in_bounds_good, in_bounds_spread, fits_within, cell_at_lem}
use Rattle.lsystem.proofs.Numbering.{cell_on, cell_good}
use Rattle.sketch.specs.Inside.Pens.{start_of, triple_in, entries_of}

-- the four entries of a cell that is told
abbrev pub entries : Told Cell → List ℤ
entries (told c) = cell_values c
entries (refused n) = []

-- ---- what the start adds to a corner sum is what the triple is moved by
moved_sum : (m : ℕ) (t : Triple) → thrice (ab (pos (4 * m)) (neg_ℤ (pos (4 * m)))) ⊕ corner_sum (record { x = t.x +ℤ pos m; y = t.y -ℤ pos m; z = t.z }) ≡ corner_sum t
unfolding thrice ◌⊕◌ corner_sum
moved_sum m t =
    let vx = v_var t.x in
    let vy = v_var t.y in
    let vz = v_var t.z in
    pair_is (eq_by (search view depth 12) (search view depth 12) tt (omega arith)) (eq_by (search view depth 12) (search view depth 12) tt (omega arith))

unmoved_sum : (p : AB) → thrice origin ⊕ p ≡ p
unmoved_sum p = ap (λ q. q ⊕ p) thrice_origin ∙ ⊕_idl p

start_sum : (o : ℕ) → o ≤ 5 → (r : ℕ) (t : Triple) → thrice (start_of (is_shifted o) r) ⊕ corner_sum (drawn (axiom_in o) r t) ≡ corner_sum t
unfolding start_of is_shifted axiom_in
start_sum o h r t =
    let c = corner_sum t in
    six (λ o. thrice (start_of (is_shifted o) r) ⊕ corner_sum (drawn (axiom_in o) r t) ≡ corner_sum t) (unmoved_sum c) (unmoved_sum c) (unmoved_sum c) (unmoved_sum c) (moved_sum (2 ^ r) t) (moved_sum (2 ^ r) t) o h

flavor_still : (f : Option ℕ) → flavor_in (turned_flavor 0 f) ≡ flavor_in f
unfolding turned_flavor toggled
flavor_still (Some f) = omega arith
flavor_still None = refl

-- ---- an axiom's word draws 4 ^ r cells
pub axiom_cells : (o r : ℕ) → o ≤ 5 → letter_count (strokes a5 r (axiom_of o)) ≡ 4 ^ r
unfolding a5
axiom_cells o r h =
    ap (λ b. letter_count (strokes a5 r b)) (sym (axiom_letter o h)) ∙ strokes_many a5_text a5_accepted r (token (axiom_in o)) (subst (λ m. token (axiom_in o) < m) (sym tokens) (token_small (axiom_in o)))

module _ (o n : ℕ) (h : o ≤ 5) (k : n ≤ 29) where
  abbrev pub r : ℕ
  r = suc n

  -- the cell of the position s
  module _ (s : ℕ) (l : s < 4 ^ suc n) where
    abbrev pub t : Triple
    t = cell_in o n s h l

    triple_back : triple_of (corner_sum t) ≡ told t
    triple_back =
        let b = cell_bounds (axiom_in o) n (curve_place o r s) in
        let w = in_bounds_spread n k t b in
        let g = in_bounds_good n t b in
        triple_of_corner_sum t (record { x = fits_within _ w.x; y = fits_within _ w.y; z = fits_within _ w.z }) g (corner_sum_near t w.x w.y g)

    pub cell_told : cell_of o r s ≡ told (cell_on r t)
    cell_told = cell_good o r h (omega arith) s l ∙ cell_at_lem o n s h k l

    pub entries_four : length (entries (cell_of o r s)) ≡ 4
    entries_four = ap (λ c. length (entries c)) cell_told

    moved_entries : entries_of (placed (start_of (is_shifted o) r) false (drawn_cell o r s)) ≡ entries (cell_of o r s)
    unfolding entries_of placed signed facing
    moved_entries =
        let c = drawn_cell o r s in
        let v = start_of (is_shifted o) r in
        let sum : thrice v ⊕ c.sum ≡ corner_sum t = ap (λ p. thrice v ⊕ p) (drawn_sum o n s h l) ∙ start_sum o h r t in
        let triple : triple_in (triple_of (thrice v ⊕ c.sum)) ≡ t = ap (λ p. triple_in (triple_of p)) sum ∙ ap triple_in triple_back in
        ap (λ t. cell_values (record { triple = t; flavor = flavor_in (turned_flavor 0 c.flavor) })) triple
        ∙ ap (λ f. cell_values (record { triple = t; flavor = f })) (flavor_still c.flavor ∙ drawn_flavor o n s h l)
        ∙ ap entries (sym cell_told)

  -- cell j of the walk, from where it starts
  pub drawn_entries : (j : ℕ) → j < 4 ^ r
      → entries_of (get_or (cells (strokes a5 r (axiom_of o)) (turtle (start_of (is_shifted o) r) 0)) j (placed (start_of (is_shifted o) r) false no_cell)) ≡ entries (cell_of o r (place_from (is_backward o) (4 ^ r) j))
  unfolding curve_place drawn_cell drawing facing
  drawn_entries j l =
      let v = start_of (is_shifted o) r in
      let word = strokes a5 r (axiom_of o) in
      ap (λ cs. entries_of (get_or cs j (placed v false no_cell))) (cells_from word v 0 false refl)
      ∙ ap entries_of (get_or-map (placed v false) (cells word start) j no_cell)
      ∙ ap (λ i. entries_of (placed v false (get_or (cells word start) i no_cell))) (sym (place_place o r j l))
      ∙ moved_entries (curve_place o r j) (place_small o r j l)
