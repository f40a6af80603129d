-- `word::write_along`: the first k bytes stand in the place of the buffer's.
use mathlib.Core.Path.{refl}
use native.Mathlib.Omega.{arith}
use lib.ListN.{get_or}
use Rattle.whole.proofs.Fill.{poured_more, poured_all}
use Rattle.grammar.proofs.word.write_along.Goals as goal

pub loop-k-preserved : goal.loop-k-preserved
loop-k-preserved c =
    let a = c.args in
    rw c.loop-k.invariant (poured_more a.s.now a.out.now c.loop-k.k 0 (get_or a.s.now c.loop-k.k 0) (omega arith) (omega arith) refl)

pub returns : goal.returns
returns c = poured_all c.args.s.now c.args.out.now c.loop-k.k _ refl (omega arith) (omega arith) c.loop-k.invariant
