-- `report_listed`: each way out is a law of its answers, by what the tests and calls before it told.
use mathlib.Core.Path.{sym}
use lib.Seq.{length-take-le}
use borrow.Author.Rules.{rules}
use Rattle.report.proofs.ReportLaws.{reporting_listed, told_count, told_out, told_work}
use Rattle.report.proofs.reporting.report_listed.Goals as goal

pub returns-then-triples-ne0 : goal.returns-then-triples-ne0
returns-then-triples-ne0 c = search (rules, reporting_listed)

pub returns-then-is_too_short : goal.returns-then-is_too_short
returns-then-is_too_short c = search (rules, reporting_listed)

pub slice_bounds-report_tested-end : goal.slice_bounds-report_tested-end
slice_bounds-report_tested-end c = search (rules, reporting_listed)

pub slice_bounds-report_tested-end-2 : goal.slice_bounds-report_tested-end-2
slice_bounds-report_tested-end-2 c = sym (length-take-le _ _ (search (rules, reporting_listed)))

pub report_tested-requires : goal.report_tested-requires
report_tested-requires c = search (rules, reporting_listed)

pub returns : goal.returns
returns c = (search (rules, told_count), search (rules, told_out), search (rules, told_work))
