-- `tally::draw_byte` tells what a byte of a draw is: by the range that it is in.
use Rattle.grammar.proofs.TallyLaws.{drawing}
use borrow.Author.Rules.{rules}
use Rattle.grammar.proofs.tally.draw_byte.Goals as goal

pub returns-in-43 : goal.returns-in-43
returns-in-43 c = search (rules, drawing)

pub returns-in-45 : goal.returns-in-45
returns-in-45 c = search (rules, drawing)

pub returns-in-85 : goal.returns-in-85
returns-in-85 c = search (rules, drawing)

pub returns-in-69 : goal.returns-in-69
returns-in-69 c = search (rules, drawing)

pub returns-in-69-2 : goal.returns-in-69-2
returns-in-69-2 c = search (rules, drawing)

pub returns-in-69-3 : goal.returns-in-69-3
returns-in-69-3 c = search (rules, drawing)

pub returns-in-69-4 : goal.returns-in-69-4
returns-in-69-4 c = search (rules, drawing)

pub returns-in_default : goal.returns-in_default
returns-in_default c = search (rules, drawing)

pub returns-in_default-2 : goal.returns-in_default-2
returns-in_default-2 c = search (rules, drawing)

pub returns-in_default-3 : goal.returns-in_default-3
returns-in_default-3 c = search (rules, drawing)

pub returns-in_default-4 : goal.returns-in_default-4
returns-in_default-4 c = search (rules, drawing)

pub returns-in_default-5 : goal.returns-in_default-5
returns-in_default-5 c = search (rules, drawing)
