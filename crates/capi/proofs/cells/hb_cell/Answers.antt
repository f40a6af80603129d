-- `hb_cell`: the cell's values are written, or its refusal's number is answered.
use mathlib.Core.Path.{ap}
use Rattle.lsystem.specs.Cells.{cell_values}
use Rattle.triple.proofs.LentLaws.{call_told, call_refused}
use Rattle.capi.proofs.cells.hb_cell.Goals as goal
use Rattle.triple.specs.Refusals.{said}

pub returns-in-Ok : goal.returns-in-Ok
returns-in-Ok c = call_told cell_values _ c.s_to_cell-answer.ensures (ap said c.in-Ok.is) c.put_cell.ensures

pub returns-in-Err : goal.returns-in-Err
returns-in-Err c = call_refused cell_values _ c.s_to_cell-answer.ensures (ap said c.in-Err.is) c.number.ensures
