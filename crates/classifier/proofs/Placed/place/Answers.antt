-- `Placed::place` is the sum of the place and of the corner, turned by half where flipped, coordinate by coordinate.
use Rattle.std.proofs.Common.{rules}
use Rattle.classifier.proofs.PolygonLaws.{placed_is}
use Rattle.classifier.proofs.Placed.place.Goals as goal

pub returns : goal.returns
returns c = placed_is c.args.self.now.at c.args.p c.args.self.now.flip (search rules) (search rules) (search rules) (search rules) c.tripled.ensures c.tripled-2.ensures
