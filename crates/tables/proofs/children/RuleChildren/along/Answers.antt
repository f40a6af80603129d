-- `RuleChildren::along` goes along the rule: after i turns, its first i bytes.
use Rattle.tables.proofs.RuleChildLaws.{along_start, along_room, along_next, along_end}
use Rattle.tables.proofs.children.RuleChildren.along.Goals as goal

pub loop-b-init : goal.loop-b-init
loop-b-init c = along_start c.args.source c.args.w.now c.none-m.ensures

pub with_byte-m-requires : goal.with_byte-m-requires
with_byte-m-requires c = along_room c.args.source c.args.w.now c.loop-b.invariant c.loop-b-test.true c.requires

pub loop-b-preserved : goal.loop-b-preserved
loop-b-preserved c = along_next c.args.source c.args.w.now c.loop-b.invariant c.loop-b-test.true c.with_byte-m.ensures

pub returns : goal.returns
returns c = along_end c.args.source c.args.w.now c.loop-b.invariant c.requires c.loop-b-test.false
