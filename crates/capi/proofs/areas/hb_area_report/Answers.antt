-- `hb_area_report`: the operation is lent all of the pairs or, where the count has no place, none; so all slices are written or none is.
use mathlib.Core.Path.{sym, ap}
use lib.Seq.{length-take-le}
use Rattle.capi.proofs.ReportCallLaws.{report_told, report_refused}
use Rattle.capi.proofs.areas.hb_area_report.Goals as goal
use Rattle.triple.specs.Refusals.{said}

pub slice_bounds-report-end-2 : goal.slice_bounds-report-end-2
slice_bounds-report-end-2 c = sym (length-take-le _ _ c.lendable-room.ensures.0)

pub returns-in-Ok : goal.returns-in-Ok
returns-in-Ok c =
    let l = c.lendable-room.ensures in
    report_told _ _ _ _ _ _ l.0 l.1 c.report-answer.ensures.0 c.report-answer.ensures.1 c.report-answer.ensures.2 (ap said c.in-Ok.is) c.put_count.ensures

pub returns-in-Err : goal.returns-in-Err
returns-in-Err c =
    let l = c.lendable-room.ensures in
    report_refused _ _ _ _ _ _ l.0 l.1 c.report-answer.ensures.0 c.report-answer.ensures.1 c.report-answer.ensures.2 (ap said c.in-Err.is) c.number.ensures
