-- `tests::read_text` keeps the scan's lines, and tests the scan.
use Rattle.grammar.proofs.TestOrderLaws.{lines_kept}
use borrow.Author.Rules.{rules}
use Rattle.grammar.proofs.tests.read_text.Goals as goal

pub returns : goal.returns
returns c = search (rules, lines_kept)
