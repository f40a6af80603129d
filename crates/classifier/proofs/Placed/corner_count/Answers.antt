-- `Placed::corner_count` is the length of the slice of corners.
use Rattle.classifier.proofs.PolygonLaws.{corners_long}
use Rattle.classifier.proofs.Placed.corner_count.Goals as goal

pub returns : goal.returns
returns c = corners_long c.args.self.now _ c.points.ensures
