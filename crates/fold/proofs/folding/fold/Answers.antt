-- `fold`: each way out is a law of its answers, by what the tests and calls before it told.
use mathlib.Core.Path.{◌∙◌}
use borrow.Author.Rules.{rules}
use Rattle.triple.proofs.RefusalLaws.{handed_on}
use Rattle.fold.proofs.FoldAnswerLaws.{folding_tests}
use Rattle.fold.proofs.folding.fold.Goals as goal

pub returns-in_err-domain_of : goal.returns-in_err-domain_of
returns-in_err-domain_of c = (handed_on c.in_err-domain_of.field-0.0 _ c.from_residual.ensures.1 ∙ search (rules, folding_tests, c.in_err-domain_of.was), search (rules, folding_tests, c.in_err-domain_of.was))

pub returns-then-not-all_inside : goal.returns-then-not-all_inside
returns-then-not-all_inside c = search (rules, folding_tests, c.in_ok-domain_of.was)

pub returns-then-not-ordered : goal.returns-then-not-ordered
returns-then-not-ordered c = search (rules, folding_tests, c.in_ok-domain_of.was)

pub invariant_of-fold : goal.invariant_of-fold
invariant_of-fold c = search (rules, folding_tests, c.in_ok-domain_of.was)

pub returns : goal.returns
returns c = search (rules, folding_tests, c.in_ok-domain_of.was)
