-- `hb_child`: the child's values and its node's positions are written, or the refusal's number is answered; the node is that of the numbers given.
use mathlib.Core.Path.{sym, ap, ◌∙◌}
use borrow.Author.Rules.{rules}
use Rattle.nodes.proofs.NodeMotifs.{child_motif}
use Rattle.capi.specs.Calls.{step_values}
use Rattle.triple.proofs.LentLaws.{both_told, both_refused}
use Rattle.capi.proofs.GivenLaws.{step_called}
use Rattle.capi.proofs.children.hb_child.Goals as goal
use Rattle.triple.specs.Refusals.{said}

pub put_step-requires : goal.put_step-requires
put_step-requires c = child_motif _ _ _ (sym c.child-answer.ensures ∙ ap said c.in-Ok.is)

pub returns-in-Ok : goal.returns-in-Ok
returns-in-Ok c = step_called (search rules) c.frame_given-frame.ensures c.new.ensures _ _ _ (both_told step_values _ _ c.child-answer.ensures (ap said c.in-Ok.is) c.put_step.ensures)

pub returns-in-Err : goal.returns-in-Err
returns-in-Err c = step_called (search rules) c.frame_given-frame.ensures c.new.ensures _ _ _ (both_refused step_values _ _ c.child-answer.ensures (ap said c.in-Err.is) c.number.ensures)
