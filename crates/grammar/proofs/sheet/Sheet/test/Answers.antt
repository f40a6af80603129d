-- `Sheet::test` asks the tests 13 to 19 in their order: what those that are left say is what all say.
use mathlib.Core.Path.{refl, ◌∙◌}
use native.Mathlib.Omega.{arith}
use Rattle.triple.specs.Refusals.{number_of}
use Rattle.grammar.specs.Tests.{line_tests}
use Rattle.grammar.specs.Inside.Sheets.{lines_in}
use Rattle.grammar.proofs.TestOrderLaws.{asked_fault, asked_next, asked_none}
use Rattle.grammar.proofs.sheet.Sheet.test.Goals as goal

pub loop-test-init : goal.loop-test-init
unfolding line_tests number_of
loop-test-init c = refl

pub returns-in-Some : goal.returns-in-Some
returns-in-Some c = asked_fault (lines_in c.args.self.now) _ c.loop-test.test-index _ (omega arith) c.in-Some.i c.in-Some.ensures.1 ∙ c.loop-test.invariant

pub loop-test-preserved : goal.loop-test-preserved
loop-test-preserved c = asked_next (lines_in c.args.self.now) _ c.loop-test.test-index _ (omega arith) c.in_default.ensures ∙ c.loop-test.invariant

pub returns : goal.returns
returns c = asked_none (lines_in c.args.self.now) _ c.loop-test.test-index (omega arith) ∙ c.loop-test.invariant
