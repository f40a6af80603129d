-- `walk::corner` is `corner`: the start and the rotated pair, added.
use Rattle.turtle.specs.Walk.{corner}
use Rattle.turtle.proofs.WalkLaws.{near_roomy, rots_roomy}
use Rattle.turtle.proofs.walk.corner.Goals as goal

pub add-requires : goal.add-requires
add-requires c = (near_roomy c.requires.1, rots_roomy _ c.rot_times.ensures c.requires.0)

pub returns : goal.returns
unfolding corner
returns c = rw (c.add.ensures, c.rot_times.ensures)
