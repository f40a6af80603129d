-- `tally::tallied` counts the bytes one by one: after i turns, the first i of them.
use mathlib.Core.Path.{sym}
use native.Mathlib.Omega.{arith}
use Rattle.grammar.proofs.TallyLaws.{modest_none, modest_more, counts_more, counts_all}
use Rattle.grammar.proofs.tally.tallied.Goals as goal

pub loop-b-init : goal.loop-b-init
loop-b-init g c = (sym c.new-t.ensures, modest_none c.new-t.ensures)

pub with-t-requires : goal.with-t-requires
with-t-requires g c = (omega (arith, c.loop-b.invariant.1.few), c.loop-b.invariant.1.small)

pub loop-b-preserved : goal.loop-b-preserved
loop-b-preserved g c = (counts_more _ c.args.w.now _ _ _ c.loop-b.invariant.0 c.loop-b-test.true c.kind_of.ensures c.with-t.ensures, modest_more c.kind_of.result c.loop-b.invariant.1 c.with-t.ensures)

pub returns : goal.returns
returns g c = counts_all _ c.args.w.now _ _ _ c.loop-b.invariant.0 c.loop-b-test.false
