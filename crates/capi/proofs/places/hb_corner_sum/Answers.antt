-- `hb_corner_sum`: the pair's values are written, or the refusal's number is answered; the triple is that of the numbers given.
use mathlib.Core.Path.{ap, ◌∙◌}
use borrow.Author.Rules.{rules}
use Rattle.turtle.specs.Corners.{corner_sum_of}
use Rattle.capi.specs.Calls.{pair_values}
use Rattle.triple.proofs.LentLaws.{call_told, call_refused}
use Rattle.capi.proofs.SignedLaws.{triple_made}
use Rattle.capi.proofs.places.hb_corner_sum.Goals as goal
use Rattle.triple.specs.Refusals.{said}

pub returns-in-Ok : goal.returns-in-Ok
returns-in-Ok c = call_told pair_values _ (c.corner_sum-answer.ensures ∙ ap corner_sum_of (triple_made (search rules) c.new.ensures)) (ap said c.in-Ok.is) c.put_pair.ensures

pub returns-in-Err : goal.returns-in-Err
returns-in-Err c = call_refused pair_values _ (c.corner_sum-answer.ensures ∙ ap corner_sum_of (triple_made (search rules) c.new.ensures)) (ap said c.in-Err.is) c.number.ensures
