-- `scan::first_row` tells the shape of the first row: by the place of its LF, and the shape of what stands before it.
use Rattle.grammar.proofs.CutLaws.{no_end, first_shape}
use borrow.Author.Rules.{rules}
use Rattle.grammar.proofs.scan.first_row.Goals as goal

pub returns-then-t-n : goal.returns-then-t-n
returns-then-t-n c = no_end _ c.until-n.ensures c.requires c.if-t-n.true

pub returns : goal.returns
returns c = search (rules, first_shape)
