-- `hb_point_exact`: the cell's values and the mark are written, or the refusal's number is answered.
use mathlib.Core.Path.{ap}
use Rattle.capi.specs.Calls.{point_values}
use Rattle.triple.proofs.LentLaws.{call_told, call_refused}
use Rattle.capi.proofs.places.hb_point_exact.Goals as goal
use Rattle.triple.specs.Refusals.{said}

pub returns-in-Ok : goal.returns-in-Ok
returns-in-Ok c = call_told point_values _ c.round_exactly-answer.ensures (ap said c.in-Ok.is) c.put_point.ensures

pub returns-in-Err : goal.returns-in-Err
returns-in-Err c = call_refused point_values _ c.round_exactly-answer.ensures (ap said c.in-Err.is) c.number.ensures
