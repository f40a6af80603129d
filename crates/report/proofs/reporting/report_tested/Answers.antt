-- `report_tested`: the fold of what was settled is the fold of what was gathered.
use borrow.Author.Rules.{rules}
use Rattle.report.proofs.ReportLaws.{reports}
use Rattle.report.proofs.reporting.report_tested.Goals as goal

pub settle-n-requires : goal.settle-n-requires
settle-n-requires c = search (rules, reports)

pub slice_bounds-fold-end : goal.slice_bounds-fold-end
slice_bounds-fold-end c = search (rules, reports)

pub slice_bounds-fold-end-2 : goal.slice_bounds-fold-end-2
slice_bounds-fold-end-2 c = search (rules, reports)

pub returns : goal.returns
returns c = search (rules, reports)
