-- A POINT BY EXACT FRACTIONS: its cell is in bounds, marked exactly when it was moved, and else holds the point.
use mathlib.Core.Path.{◌≡◌, sym, subst}
use mathlib.Core.Logic.{◌↔◌}
use mathlib.Core.Bool.{true, false}
use Prim.Native.Nat.{ℕ, ◌-◌, ◌^◌}
use lib.Ieee.{Float}
use Rattle.triple.specs.declared.Triple.{Triple}
use Rattle.triple.specs.Refusals.{told}
use Rattle.triple.specs.Triples.{is_in_bounds}
use Rattle.curve.specs.declared.PointCell.{PointCell}
use Rattle.curve.specs.Points.{floor, own_triple, point_cell}
use Rattle.curve.specs.ExactPoints.{exact_parity, exact_point_of, LiesIn}
use Rattle.curve.proofs.PointLaws.{exact_small, by_is, by_in_bounds}
use Rattle.curve.proofs.MoveLaws.{by_moved_exactly, by_unmoved_own}
use Rattle.curve.proofs.FractionLaws.{own_holds}

module _ (r : ℕ) (i j : Float) (p : PointCell) where
  pub exact_is : exact_point_of r i j ≡ told p → p ≡ point_cell (2 ^ r - 1) (floor i) (floor j) (exact_parity i j)
  unfolding exact_point_of
  exact_is = by_is exact_parity r i j p

  pub exact_in_bounds : exact_point_of r i j ≡ told p → is_in_bounds r p.triple ≡ true
  unfolding exact_point_of
  exact_in_bounds e = by_in_bounds exact_parity r i j p e (exact_small i j)

  pub exact_moved : exact_point_of r i j ≡ told p → (p.moved ≡ true) ↔ (is_in_bounds r (own_triple (floor i) (floor j) (exact_parity i j)) ≡ false)
  unfolding exact_point_of
  exact_moved e = by_moved_exactly exact_parity r i j p e (exact_small i j)

  pub exact_unmoved : exact_point_of r i j ≡ told p → p.moved ≡ false → p.triple ≡ own_triple (floor i) (floor j) (exact_parity i j)
  unfolding exact_point_of
  exact_unmoved = by_unmoved_own exact_parity r i j p

  pub exact_holds : exact_point_of r i j ≡ told p → p.moved ≡ false → LiesIn p.triple i j
  exact_holds e f = subst (λ (t : Triple). LiesIn t i j) (sym (exact_unmoved e f)) (own_holds i j)
