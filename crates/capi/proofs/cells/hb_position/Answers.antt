-- `hb_position`: the position's values are written, or the refusal's number is answered; the triple is that of the numbers given.
use mathlib.Core.Path.{ap, ◌∙◌}
use borrow.Author.Rules.{rules}
use Rattle.lsystem.specs.Looks.{located_of, located_values}
use Rattle.triple.proofs.LentLaws.{call_told, call_refused}
use Rattle.capi.proofs.SignedLaws.{triple_made}
use Rattle.capi.proofs.cells.hb_position.Goals as goal
use Rattle.triple.specs.Refusals.{said}

pub returns-in-Ok : goal.returns-in-Ok
returns-in-Ok c = call_told located_values _ (c.triple_to_s-answer.ensures ∙ ap (located_of _ _) (triple_made (search rules) c.new.ensures)) (ap said c.in-Ok.is) c.put_position.ensures

pub returns-in-Err : goal.returns-in-Err
returns-in-Err c = call_refused located_values _ (c.triple_to_s-answer.ensures ∙ ap (located_of _ _) (triple_made (search rules) c.new.ensures)) (ap said c.in-Err.is) c.number.ensures
