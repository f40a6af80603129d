-- `CellWalk::with_hosted` puts the cell behind those drawn so far, as the letter hosts one.
use mathlib.Core.Path.{refl, ◌∙◌}
use native.Mathlib.Omega.{arith}
use lib.ListN.{length-set}
use Rattle.turtle.proofs.WalkLaws.{small_more}
use Rattle.tables.proofs.LeafLaws.{hosted_small, hosted_near, hosted_same, added}
use Rattle.tables.proofs.leaves.CellWalk.with_hosted.Goals as goal

pub corner_of-requires : goal.corner_of-requires
corner_of-requires c = small_more (omega arith) (hosted_small c.args.self c.requires.0 c.requires.1 c.in-Ok.is).0.0

pub corner_of-requires-2 : goal.corner_of-requires-2
corner_of-requires-2 c = small_more (omega arith) (hosted_small c.args.self c.requires.0 c.requires.1 c.in-Ok.is).0.1.0

pub corner_of-requires-3 : goal.corner_of-requires-3
corner_of-requires-3 c = small_more (omega arith) (hosted_small c.args.self c.requires.0 c.requires.1 c.in-Ok.is).0.1.1

pub corner_of-requires-4 : goal.corner_of-requires-4
corner_of-requires-4 c = (hosted_small c.args.self c.requires.0 c.requires.1 c.in-Ok.is).1

pub invariant_of-self : goal.invariant_of-self
invariant_of-self c =
    let k = c.args.self in
    let near = hosted_near k c.requires.0 c.requires.1 in
    record { corners_room = length-set _ _ _ ∙ length-set _ _ _ ∙ length-set _ _ _ ∙ k.corners_room; leaves_room = length-set _ _ _ ∙ k.leaves_room; small = near.0; faces = near.1 }

pub returns : goal.returns
returns c =
    let k = c.args.self in
    let flavor = c.flavor_number in
    hosted_same k c.requires.0 c.requires.1 c.in-Ok.is
    (added k _ c.in-Ok.c c.args.cell c.args.next c.requires.0 c.corner_of.ensures c.corner_of-2.ensures c.corner_of-3.ensures c.corner_of-4.ensures flavor.ensures (record { sfits = flavor.type_inv }) refl refl refl refl refl)
