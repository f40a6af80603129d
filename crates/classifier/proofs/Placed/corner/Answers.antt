-- `Placed::corner` is the corner at the place, turned as the footprint is.
use Rattle.std.proofs.Common.{arith}
use Rattle.classifier.proofs.PolygonLaws.{corners_long, corner_fits, corner_at}
use Rattle.classifier.proofs.Placed.corner.Goals as goal

pub offset_bounds-points-i : goal.offset_bounds-points-i
offset_bounds-points-i c = corner_fits c.args.self.now _ c.points.ensures _ c.requires

pub bounds-points-i : goal.bounds-points-i
bounds-points-i c = omega (arith, corners_long c.args.self.now _ c.points.ensures)

pub returns : goal.returns
returns c = corner_at c.args.self.now _ c.points.ensures _ _ c.requires c.place.ensures
