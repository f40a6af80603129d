-- `tests::test_scan` is the tests 12 to 19: the scan's, and then those of the lines.
use Rattle.triple.specs.Refusals.{number_of}
use Rattle.grammar.proofs.TestOrderLaws.{scanned_text}
use borrow.Author.Rules.{rules}
use Rattle.grammar.proofs.tests.test_scan.Goals as goal

pub returns-then-is_empty : goal.returns-then-is_empty
unfolding number_of
returns-then-is_empty c = search (rules, scanned_text)

pub returns-then-found-ne0 : goal.returns-then-found-ne0
unfolding number_of
returns-then-found-ne0 c = search (rules, scanned_text)

pub invariant_of-test : goal.invariant_of-test
invariant_of-test c = search (rules, scanned_text)

pub returns : goal.returns
returns c = search (rules, scanned_text)
