-- `hb_triple`: the triple's values are written, or the refusal's number is answered; the pair is that of the numbers given.
use mathlib.Core.Path.{ap, ◌∙◌}
use borrow.Author.Rules.{rules}
use Rattle.turtle.specs.Corners.{triple_of}
use Rattle.capi.specs.Calls.{triple_values}
use Rattle.triple.proofs.LentLaws.{call_told, call_refused}
use Rattle.capi.proofs.SignedLaws.{pair_made}
use Rattle.capi.proofs.places.hb_triple.Goals as goal
use Rattle.triple.specs.Refusals.{said}

pub returns-in-Ok : goal.returns-in-Ok
returns-in-Ok c = call_told triple_values _ (c.to_triple-answer.ensures ∙ ap triple_of (pair_made (search rules) c.new.ensures)) (ap said c.in-Ok.is) c.put_triple.ensures

pub returns-in-Err : goal.returns-in-Err
returns-in-Err c = call_refused triple_values _ (c.to_triple-answer.ensures ∙ ap triple_of (pair_made (search rules) c.new.ensures)) (ap said c.in-Err.is) c.number.ensures
