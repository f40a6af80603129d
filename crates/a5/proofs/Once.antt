-- THE CLAIM, for each forward axiom at each resolution from 1: the cells of A5 are the triples in bounds, each at one position, and the flavors are the closed formula's.
-- A triple in bounds is a spot of the axiom's footprint, where the walk and the lookup undo each other.
use mathlib.Core.Path.{◌≡◌, sym, ap, ◌∙◌}
use mathlib.Core.Bool.{true}
use Prim.Native.Nat.{ℕ, suc, ◌^◌, ◌<◌}
use native.Mathlib.Nat as N
use lib.IntN.{pos}
use Rattle.triple.specs.declared.Triple.{Triple}
use Rattle.triple.specs.Triples.{good_sum, is_in_bounds, closed_flavor}
use Rattle.turtle.specs.declared.AB.{AB}
use Rattle.turtle.specs.Plane.{origin, ◌⊕◌}
use Rattle.turtle.specs.Corners.{corner_sum}
use Rattle.turtle.proofs.PlaneLaws.{⊕_idl, thrice_origin}
use Rattle.turtle.proofs.CornerLaws.{corner_sum_unique}
use Rattle.tables.specs.Descent.{follow}
use Rattle.a5.specs.A5Table.{a5_table}
use Rattle.a5.specs.Lookup.{◌⊖◌}
use Rattle.a5.specs.Inside.Spots.{walk, triple_at, spot_at}
use Rattle.a5.proofs.Finds.{find}
use Rattle.a5.proofs.Places.{place, follow_sum, follow_flavor}
use Rattle.a5.proofs.Axioms.{⊖_right, Axiom, first, shift, drawn, drawn_corner, shape, in_wedge, wedge_bounds, triple_spot, spot_triple, bounds_good, corner_place, axiom_in}
use Rattle.a5.proofs.FootprintLaws.{walk_in, find_walk, walk_find}
use Rattle.a5.proofs.Flavors.{flavor_closed}

module _ (x : Axiom) (n : ℕ) where
  -- the corner sum of the cell s as the table's descent has it, moved to the wedge
  abbrev pub sum_after : ℕ → AB
  sum_after s = (follow a5_table n origin (first x) s).sum ⊕ shift x (suc n)

  -- its triple, and the position of a triple
  unfoldable pub cell_triple : ℕ → Triple
  cell_triple s = triple_at n (walk n (first x) s)

  unfoldable pub position : Triple → ℕ
  position t = find n (first x) (spot_at n t)

  -- ---- every cell is in bounds, with its corner sum and its flavor
  pub cell_bounds : (s : ℕ) → is_in_bounds (suc n) (cell_triple s) ≡ true
  unfolding cell_triple
  cell_bounds s = wedge_bounds n _ (in_wedge x (2 ^ n) _ (walk_in n (first x) s (shape x).is_state))

  pub cell_sum : (s : ℕ) → corner_sum (cell_triple s) ≡ sum_after s
  unfolding cell_triple
  cell_sum s =
      corner_place n _ x
      ∙ ap (λ p. p ⊕ shift x (suc n)) (sym (follow_sum n origin (first x) s (shape x).is_state ∙ ap (λ v. v ⊕ place n (first x) (walk n (first x) s)) thrice_origin ∙ ⊕_idl _))

  pub cell_drawn : (s : ℕ) → corner_sum (drawn x (suc n) (cell_triple s)) ≡ (follow a5_table n origin (first x) s).sum
  cell_drawn s = drawn_corner (suc n) (cell_triple s) x ∙ ap (λ p. p ⊖ shift x (suc n)) (cell_sum s) ∙ ⊖_right _ _

  pub cell_flavor : (s : ℕ) → (follow a5_table n origin (first x) s).flavor ≡ pos (closed_flavor (suc n) (cell_triple s))
  unfolding cell_triple
  cell_flavor s = follow_flavor n origin (first x) s (shape x).is_state ∙ ap pos (flavor_closed x n s)

  -- no other triple has that corner sum
  pub cell_only : (s : ℕ) (t : Triple) → good_sum t ≡ true → corner_sum t ≡ sum_after s → t ≡ cell_triple s
  cell_only s t g e = corner_sum_unique t (cell_triple s) g (bounds_good n (cell_triple s) (cell_bounds s)) (e ∙ sym (cell_sum s))

  -- ---- every triple in bounds is the cell at its position
  pub position_small : (t : Triple) → is_in_bounds (suc n) t ≡ true → position t < 4 ^ suc n
  unfolding position
  position_small t b = (walk_find n (first x) (spot_at n t) (shape x).is_state (axiom_in x n t b)).0

  pub cell_position : (t : Triple) → is_in_bounds (suc n) t ≡ true → cell_triple (position t) ≡ t
  unfolding position cell_triple
  cell_position t b = ap (triple_at n) (walk_find n (first x) (spot_at n t) (shape x).is_state (axiom_in x n t b)).1 ∙ triple_spot n t b

  -- ---- and at no other
  pub position_cell : (s : ℕ) → s < 4 ^ suc n → position (cell_triple s) ≡ s
  unfolding position cell_triple
  position_cell s l =
      ap (find n (first x)) (spot_triple n _ (in_wedge x (2 ^ n) _ (walk_in n (first x) s (shape x).is_state))) ∙ find_walk n (first x) s (shape x).is_state ∙ N.mod-eq_of_lt l

  pub cell_once : (s u : ℕ) → s < 4 ^ suc n → u < 4 ^ suc n → cell_triple s ≡ cell_triple u → s ≡ u
  cell_once s u h k e = sym (position_cell s h) ∙ ap position e ∙ position_cell u k

  -- ---- the same, of the descent alone
  pub descent_in : (s : ℕ) → (t : Triple) × (is_in_bounds (suc n) t ≡ true) × (corner_sum t ≡ sum_after s) × ((follow a5_table n origin (first x) s).flavor ≡ pos (closed_flavor (suc n) t))
  descent_in s = (cell_triple s, cell_bounds s, cell_sum s, cell_flavor s)

  pub descent_onto : (t : Triple) → is_in_bounds (suc n) t ≡ true → (s : ℕ) × (s < 4 ^ suc n) × (corner_sum t ≡ sum_after s) × ((follow a5_table n origin (first x) s).flavor ≡ pos (closed_flavor (suc n) t))
  descent_onto t b =
      let e = cell_position t b in
      let s = position t in
      (s, position_small t b, ap corner_sum (sym e) ∙ cell_sum s, cell_flavor s ∙ ap (λ t. pos (closed_flavor (suc n) t)) e)

  pub descent_once : (s u : ℕ) → s < 4 ^ suc n → u < 4 ^ suc n → sum_after s ≡ sum_after u → s ≡ u
  descent_once s u h k e = cell_once s u h k (cell_only u (cell_triple s) (bounds_good n (cell_triple s) (cell_bounds s)) (cell_sum s ∙ e))
