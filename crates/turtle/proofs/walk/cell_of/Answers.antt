-- `walk::cell_of` is `cell`: the sum of the corners, which have room since the stroke is small and its start near, and the flavor.
use mathlib.Core.Path.{sym, subst}
use Rattle.turtle.specs.Inside.Sizes.{Roomy}
use Rattle.turtle.proofs.WalkLaws.{corners_roomy, cell_at_lem}
use Rattle.turtle.proofs.walk.cell_of.Goals as goal

pub add-requires : goal.add-requires
add-requires c =
    let room = corners_roomy _ _ _ c.corners_of-c.ensures c.requires.0 c.requires.1 in
    (room.0, room.1)

pub add-sum-requires : goal.add-sum-requires
add-sum-requires c =
    let room = corners_roomy _ _ _ c.corners_of-c.ensures c.requires.0 c.requires.1 in
    (subst Roomy (sym c.add.ensures) room.3, room.2)

pub returns : goal.returns
returns c = cell_at_lem _ _ _ c.corners_of-c.ensures c.add.ensures c.add-sum.ensures c.turned.ensures
