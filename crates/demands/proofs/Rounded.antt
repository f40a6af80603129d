-- A POINT's cell is in bounds, and it is marked exactly when it was moved there: `curve`'s laws.
use mathlib.Core.Path.{ap}
use Rattle.curve.specs.declared.PointCell.{PointCell}
use Rattle.curve.proofs.PointLaws.{point_is, point_in_bounds}
use Rattle.curve.proofs.MoveLaws.{moved_exactly, unmoved_own}
use Rattle.demands.specs.Demands.{Points}

pub points : Points
points = record {
  triple = λ r i j p e. ap (λ (p : PointCell). p.triple) (point_is r i j p e);
  in_bounds = point_in_bounds;
  moved = moved_exactly;
  unmoved = unmoved_own;
}
