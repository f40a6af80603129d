-- `CellWalk::with_byte` draws a cell, turns, or passes over the byte.
use mathlib.Core.Path.{refl}
use Rattle.tables.proofs.LeafLaws.{drew_room, drew_hosts, byte_drew, byte_near, byte_turned, byte_passed}
use Rattle.tables.proofs.leaves.CellWalk.with_byte.Goals as goal

pub with_hosted-requires : goal.with_hosted-requires
with_hosted-requires c = (drew_room c.args.self c.args.b c.requires c.step.ensures c.in-Drew.is, drew_hosts c.args.self c.args.b c.requires c.step.ensures c.in-Drew.is c.corners.ensures)

pub returns-in-Drew : goal.returns-in-Drew
returns-in-Drew c = byte_drew c.args.self c.args.b c.requires c.step.ensures c.in-Drew.is c.corners.ensures c.with_hosted.ensures

pub returns-in-NoDraw : goal.returns-in-NoDraw
returns-in-NoDraw c = byte_passed c.args.self c.args.b c.requires c.step.ensures c.in-NoDraw.is

pub invariant_of-self : goal.invariant_of-self
invariant_of-self c =
    let k = c.args.self in
    let near = byte_near k c.args.b c.requires c.step.ensures c.in-Turned.is in
    record { corners_room = k.corners_room; leaves_room = k.leaves_room; small = near.0; faces = near.1 }

pub returns : goal.returns
returns c = byte_turned c.args.self c.args.b c.requires c.step.ensures c.in-Turned.is refl refl refl refl
