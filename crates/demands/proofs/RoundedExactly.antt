-- A POINT's cell by exact fractions, beside the rounded one: `curve`'s laws.
use mathlib.Core.Path.{◌≡◌, refl, ap}
use mathlib.Core.Logic.{◌↔◌}
use mathlib.Core.Bool.{Bool, true, false, not, ◌&&◌}
use Prim.Native.Nat.{ℕ}
use lib.Dec.{ltb}
use lib.Ieee.{Float}
use Rattle.triple.specs.declared.refusal.Refusal.{Refusal}
use Rattle.triple.specs.declared.refusal.Refusal.TheVariants as Is
use Rattle.triple.specs.Refusals.{told, refused, refuse}
use Rattle.triple.specs.Domain.{greatest_resolution}
use Rattle.curve.specs.declared.PointCell.{PointCell}
use Rattle.curve.specs.Points.{near, point_by, point_of, parity}
use Rattle.curve.specs.ExactPoints.{exact_parity, exact_point_of}
use Rattle.curve.proofs.TwoParities.{differ}
use Rattle.curve.proofs.ExactLaws.{exact_is, exact_in_bounds, exact_moved, exact_unmoved, exact_holds}
use Rattle.curve.proofs.Examples.{left_of_the_edge}
use Rattle.demands.specs.Demands.{ExactPoints}
use Rattle.demands.proofs.ToldLaws.{told_refused}

-- the tests alone refuse, whoever tells the parity
by_tests : {A : Type 0} (a b : Bool) (e f : Refusal) (x y : A) (n : ℕ) → refuse a e (refuse b f (told x)) ≡ refused n → refuse a e (refuse b f (told y)) ≡ refused n
by_tests true b e f x y n h = h
by_tests false true e f x y n h = h
by_tests false false e f x y n h = absurd (told_refused refl h)

as_refused : (tell other : Float → Float → ℕ) (r : ℕ) (i j : Float) (n : ℕ) → point_by tell r i j ≡ refused n → point_by other r i j ≡ refused n
as_refused tell other r i j n = by_tests (ltb greatest_resolution r) (not (near i && near j)) Is.Resolution Is.Point _ _ n

same_refusals : (r : ℕ) (i j : Float) (n : ℕ) → (point_of r i j ≡ refused n) ↔ (exact_point_of r i j ≡ refused n)
unfolding point_of exact_point_of
same_refusals r i j n = (as_refused parity exact_parity r i j n, as_refused exact_parity parity r i j n)

pub exact_points : ExactPoints
exact_points = record {
  differ = λ i j fi fj n apart. differ i j n fi fj apart;
  same_refusals = same_refusals;
  triple = λ r i j p e. ap (λ (p : PointCell). p.triple) (exact_is r i j p e);
  in_bounds = exact_in_bounds;
  moved = exact_moved;
  unmoved = exact_unmoved;
  lies_in = exact_holds;
  edge_rounded = left_of_the_edge.0;
  edge_exact = left_of_the_edge.1;
}
