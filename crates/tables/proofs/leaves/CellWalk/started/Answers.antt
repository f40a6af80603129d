-- `CellWalk::started` stands at the origin, and has drawn nothing.
use mathlib.Core.Path.{refl}
use Rattle.tables.proofs.LeafLaws.{facing_small, origin_small, started_is}
use Rattle.tables.proofs.leaves.CellWalk.started.Goals as goal

pub invariant_of-result : goal.invariant_of-result
invariant_of-result c = record { corners_room = refl; leaves_room = refl; small = origin_small c.new.ensures; faces = facing_small c.args.flip c.heading_of-heading.ensures }

pub returns : goal.returns
returns c = (refl, started_is c.args.flip c.new.ensures c.heading_of-heading.ensures)
