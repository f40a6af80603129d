-- `hb_descend`: the cell's values are written, or the refusal's number is answered.
use mathlib.Core.Path.{ap}
use Rattle.tables.specs.Descent.{descent_in}
use Rattle.descent.specs.Answers.{said_descent}
use Rattle.capi.specs.Calls.{drawn_values}
use Rattle.triple.proofs.LentLaws.{call_told, call_refused}
use Rattle.capi.proofs.grammars.hb_descend.Goals as goal

pub returns-in-Ok : goal.returns-in-Ok
returns-in-Ok c = call_told drawn_values _ {t = descent_in _ _ _ _ _ _} c.descend_table-answer.ensures (ap said_descent c.in-Ok.is) c.put_drawn.ensures

pub returns-in-Err : goal.returns-in-Err
returns-in-Err c = call_refused drawn_values _ {t = descent_in _ _ _ _ _ _} c.descend_table-answer.ensures (ap said_descent c.in-Err.is) c.number.ensures
