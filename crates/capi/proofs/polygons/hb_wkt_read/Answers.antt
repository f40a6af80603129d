-- `hb_wkt_read`: the triple's values are written, or the refusal's number is answered.
use mathlib.Core.Path.{ap}
use Rattle.capi.specs.Calls.{triple_values}
use Rattle.triple.proofs.LentLaws.{call_told, call_refused}
use Rattle.capi.proofs.polygons.hb_wkt_read.Goals as goal
use Rattle.triple.specs.Refusals.{said}

pub returns-in-Ok : goal.returns-in-Ok
returns-in-Ok c = call_told triple_values _ c.read-answer.ensures (ap said c.in-Ok.is) c.put_triple.ensures

pub returns-in-Err : goal.returns-in-Err
returns-in-Err c = call_refused triple_values _ c.read-answer.ensures (ap said c.in-Err.is) c.number.ensures
