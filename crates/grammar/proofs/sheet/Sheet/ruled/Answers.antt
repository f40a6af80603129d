-- `Sheet::ruled` writes the pass, since there is room for it.
use Rattle.grammar.proofs.NetLaws.{netting}
use borrow.Author.Rules.{rules}
use Rattle.grammar.proofs.sheet.Sheet.ruled.Goals as goal

pub returns : goal.returns
returns c = search (rules, netting)
