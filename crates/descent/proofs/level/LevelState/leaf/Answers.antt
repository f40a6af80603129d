-- `LevelState::leaf`: the place, three times, and the leaf's corner sum there.
use mathlib.Core.Path.{ap, ◌∙◌}
use mir.Syntax.{w8}
use native.Mathlib.Omega.{arith}
use lib.IntN.{pos}
use Rattle.descent.proofs.LevelStateLaws.{sum_a, sum_b, flavor_is, asks, thrice_read, counted, counted_is, leaf_is}
use Rattle.descent.proofs.level.LevelState.leaf.Goals as goal

pub times_plus-requires : goal.times_plus-requires
times_plus-requires c =
    let n = c.requires in
    (omega arith, asks c.args.self.a _ n.1.0.a (sum_a n.0 _ n.1.1) c.entry_at-a.ensures)

pub times_plus-requires-2 : goal.times_plus-requires-2
times_plus-requires-2 c =
    let n = c.requires in
    (omega arith, asks c.args.self.b _ n.1.0.b (sum_b n.0 _ n.1.1) c.entry_at-b.ensures)

pub overflow_cast-result : goal.overflow_cast-result
overflow_cast-result c =
    let n = c.requires in
    let k = flavor_is n.0 _ n.1.1 in
    counted w8 3 _ c.entry_at-flavor.ensures k.0 k.1 (omega arith) (omega arith)

pub returns : goal.returns
returns c =
    let n = c.requires in
    let p = c.args.self in
    let k = flavor_is n.0 _ n.1.1 in
    leaf_is _ p _ _ n.1.1 c.new.ensures
    (thrice_read p.a _ n.1.0.a (sum_a n.0 _ n.1.1) c.entry_at-a.ensures c.times_plus.ensures)
    (thrice_read p.b _ n.1.0.b (sum_b n.0 _ n.1.1) c.entry_at-b.ensures c.times_plus-2.ensures)
    (ap pos (counted_is _ c.entry_at-flavor.ensures (omega (arith, k.0))) ∙ k.1)
