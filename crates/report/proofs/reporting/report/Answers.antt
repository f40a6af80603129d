-- `report`: each way out is a law of its answers, by what the tests and calls before it told.
use mathlib.Core.Path.{◌∙◌}
use borrow.Author.Rules.{rules}
use Rattle.triple.proofs.RefusalLaws.{handed_on}
use Rattle.report.proofs.ReportLaws.{reporting_tests}
use Rattle.report.proofs.reporting.report.Goals as goal

pub returns-in_err-domain_of : goal.returns-in_err-domain_of
returns-in_err-domain_of c = (handed_on c.in_err-domain_of.field-0.0 _ c.from_residual.ensures.1 ∙ search (rules, reporting_tests, c.in_err-domain_of.was), search (rules, reporting_tests, c.in_err-domain_of.was), search (rules, reporting_tests, c.in_err-domain_of.was))

pub have_good_sums-requires : goal.have_good_sums-requires
have_good_sums-requires c = search (rules, reporting_tests, c.in_ok-domain_of.was)

pub returns-then-not-have_good_sums : goal.returns-then-not-have_good_sums
returns-then-not-have_good_sums c = search (rules, reporting_tests, c.in_ok-domain_of.was)

pub are_in_bounds-requires : goal.are_in_bounds-requires
are_in_bounds-requires c = search (rules, reporting_tests, c.in_ok-domain_of.was)

pub returns-then-not-are_in_bounds : goal.returns-then-not-are_in_bounds
returns-then-not-are_in_bounds c = search (rules, reporting_tests, c.in_ok-domain_of.was)

pub report_listed-requires : goal.report_listed-requires
report_listed-requires c = search (rules, reporting_tests, c.in_ok-domain_of.was)

pub shape_of-work : goal.shape_of-work
shape_of-work c = search (rules, reporting_tests, c.in_ok-domain_of.was)

pub shape_of-out : goal.shape_of-out
shape_of-out c = search (rules, reporting_tests, c.in_ok-domain_of.was)

pub returns : goal.returns
returns c = search (rules, reporting_tests, c.in_ok-domain_of.was)
