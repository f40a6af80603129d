-- `hb_area_contains`: its value is written, or the refusal's number is answered.
use mathlib.Core.Path.{ap}
use Rattle.capi.specs.AreaCalls.{flag_values}
use Rattle.triple.proofs.LentLaws.{call_told, call_refused}
use Rattle.capi.proofs.areas.hb_area_contains.Goals as goal
use Rattle.triple.specs.Refusals.{said}

pub returns-in-Ok : goal.returns-in-Ok
returns-in-Ok c = call_told flag_values _ c.contains-answer.ensures (ap said c.in-Ok.is) c.put_flag.ensures

pub returns-in-Err : goal.returns-in-Err
returns-in-Err c = call_refused flag_values _ c.contains-answer.ensures (ap said c.in-Err.is) c.number.ensures
