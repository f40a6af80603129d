-- `Sheet::test` asks the tests 13 to 19 in their order: what those that are left say is what all say.
use mathlib.Core.Path.{◌≡◌}
use lib.ListN.{drop}
use Rattle.grammar.specs.Tests.{line_tests, fine}
use Rattle.grammar.specs.Inside.Sheets.{lines_in}
use Rattle.grammar.proofs.TestOrderLaws.{asked}
use Rattle.grammar.proofs.sheet.Sheet.test.Given as goal

abbrev pub invariant-loop-test : goal.invariant-loop-test
invariant-loop-test l = asked (lines_in l.self) (drop l.test-index l.test-items) ≡ line_tests (lines_in l.self) fine
