-- `LevelState::down` is the definition's step: both coordinates double and take the child's offset.
use mir.Syntax.{w64}
use native.Mathlib.Omega.{arith}
use Rattle.descent.proofs.LevelStateLaws.{offset_a, offset_b, child_is, asks, twice_read, counted, counted_is, down_is}
use Rattle.descent.proofs.level.LevelState.down.Goals as goal

pub times_plus-requires : goal.times_plus-requires
times_plus-requires c =
    let n = c.requires in
    (omega arith, asks c.args.self.a _ n.1.0.a (offset_a n.0 _ n.1.1) c.entry_at-a.ensures)

pub times_plus-requires-2 : goal.times_plus-requires-2
times_plus-requires-2 c =
    let n = c.requires in
    (omega arith, asks c.args.self.b _ n.1.0.b (offset_b n.0 _ n.1.1) c.entry_at-b.ensures)

pub overflow_cast-result : goal.overflow_cast-result
overflow_cast-result c =
    let n = c.requires in
    let k = child_is n.0 _ n.1.1 in
    counted w64 32 _ c.entry_at-child.ensures (omega (arith, k.0, n.0.few)) k.1 (omega arith) (omega arith)

pub returns : goal.returns
returns c =
    let n = c.requires in
    let p = c.args.self in
    let k = child_is n.0 _ n.1.1 in
    down_is _ p _
    (twice_read p.a _ n.1.0.a (offset_a n.0 _ n.1.1) c.entry_at-a.ensures c.times_plus.ensures)
    (twice_read p.b _ n.1.0.b (offset_b n.0 _ n.1.1) c.entry_at-b.ensures c.times_plus-2.ensures)
    (counted_is _ c.entry_at-child.ensures (omega (arith, k.0, n.0.few)))
