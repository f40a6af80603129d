-- `Sheet::drawn_end` walks along the draws of a word, which fit into the buffer.
use Rattle.grammar.proofs.NetLaws.{netting}
use borrow.Author.Rules.{rules}
use Rattle.grammar.proofs.sheet.Sheet.drawn_end.Goals as goal

pub walk_end-requires : goal.walk_end-requires
walk_end-requires c = search (rules, netting)

pub returns : goal.returns
returns c = search (rules, netting)
