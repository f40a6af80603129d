-- `Sheet::bad_net` is test 19: the nets after one pass and after two.
use Rattle.grammar.proofs.NetLaws.{netting}
use borrow.Author.Rules.{rules}
use Rattle.grammar.proofs.sheet.Sheet.bad_net.Goals as goal

pub returns : goal.returns
returns c = search (rules, netting)
