-- `Sheet::bad_draw` is test 17: the bytes, and then the count.
use Rattle.grammar.proofs.VerdictLaws.{draw_unlawful, draw_count}
use borrow.Author.Rules.{rules}
use Rattle.grammar.proofs.sheet.Sheet.bad_draw.Goals as goal

pub returns-then-not-t : goal.returns-then-not-t
returns-then-not-t c = search (rules, draw_unlawful)

pub returns-else-not-t : goal.returns-else-not-t
returns-else-not-t c = search (rules, draw_count)
