-- `hb_code_read`: the reading's values are written, or the refusal's number is answered.
use mathlib.Core.Path.{ap}
use Rattle.capi.specs.Calls.{reading_values}
use Rattle.triple.proofs.LentLaws.{call_told, call_refused}
use Rattle.capi.proofs.codes.hb_code_read.Goals as goal
use Rattle.triple.specs.Refusals.{said}

pub returns-in-Ok : goal.returns-in-Ok
returns-in-Ok c = call_told reading_values _ c.read-answer.ensures (ap said c.in-Ok.is) c.put_reading.ensures

pub returns-in-Err : goal.returns-in-Err
returns-in-Err c = call_refused reading_values _ c.read-answer.ensures (ap said c.in-Err.is) c.number.ensures
