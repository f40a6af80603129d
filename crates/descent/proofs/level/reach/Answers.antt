-- `reach`: what is left from the loop's place is what was to do from the origin.
use mathlib.Core.Path.{◌≡◌, ap, ◌∙◌}
use Prim.Native.Nat.{◌+◌, ◌-◌}
use native.Mathlib.Omega.{arith}
use Rattle.tables.specs.Descent.{follow}
use Rattle.tables.proofs.HornerLaws.{origin_doubled}
use Rattle.descent.proofs.LevelStateLaws.{room_here, room_origin, near_step, known_down, follow_down, follow_none}
use Rattle.descent.proofs.level.reach.Goals as goal

pub loop-k-init : goal.loop-k-init
loop-k-init c =
    let a = c.args in
    (c.requires.1, (c.requires.0, (room_origin _ _ c.requires.1, ap (λ v. follow a.table.now a.levels v a.state a.s) (origin_doubled a.levels))))

pub digit_of-requires : goal.digit_of-requires
digit_of-requires c = omega arith

pub down-p-requires : goal.down-p-requires
down-p-requires c =
    let i = c.loop-k.invariant in
    (i.1.0, (room_here _ _ i.1.1.0, omega (arith, c.digit_of.ensures)))

pub loop-k-preserved : goal.loop-k-preserved
loop-k-preserved c =
    let i = c.loop-k.invariant in
    let k = c.loop-k.k in
    let p = c.loop-k.p in
    let t = c.args.table.now in
    let one : k - 1 + 1 ≡ k = omega arith in
    let d = rw one at c.digit_of.ensures in
    rw c.down-p.ensures (omega arith, (known_down t p _ i.1.0 (omega (arith, d)), (near_step t k p _ (omega arith) i.1.0 (omega (arith, d)) i.1.1.0, follow_down t k _ p _ (omega arith) d ∙ i.1.1.1)))

pub returns : goal.returns
returns c =
    let i = c.loop-k.invariant in
    (i.1.0, (room_here _ _ i.1.1.0, follow_none _ _ _ _ (omega arith) ∙ i.1.1.1))
