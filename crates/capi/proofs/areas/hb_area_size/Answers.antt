-- `hb_area_size`: its value is written, or the refusal's number is answered.
use mathlib.Core.Path.{ap}
use Rattle.capi.specs.Calls.{count_values}
use Rattle.triple.proofs.LentLaws.{call_told, call_refused}
use Rattle.capi.proofs.areas.hb_area_size.Goals as goal
use Rattle.triple.specs.Refusals.{said}

pub returns-in-Ok : goal.returns-in-Ok
returns-in-Ok c = call_told count_values _ c.size-answer.ensures (ap said c.in-Ok.is) c.put_count.ensures

pub returns-in-Err : goal.returns-in-Err
returns-in-Err c = call_refused count_values _ c.size-answer.ensures (ap said c.in-Err.is) c.number.ensures
