-- `write` meets its contract: each way out is a law of the writer, by what the tests and calls before it answered.
use mathlib.Core.Path.{◌∙◌}
use borrow.Author.Rules.{rules}
use Rattle.triple.proofs.RefusalLaws.{handed_on}
use Rattle.code.proofs.WriteLaws.{writing}
use Rattle.code.proofs.write.Goals as goal

pub returns-in_err-domain_of : goal.returns-in_err-domain_of
returns-in_err-domain_of c = (handed_on c.in_err-domain_of.field-0.0 _ c.from_residual.ensures.1 ∙ search (rules, writing, c.in_err-domain_of.was), search (rules, writing, c.in_err-domain_of.was))

pub forward_of-requires : goal.forward_of-requires
forward_of-requires c = search (rules, writing, c.in_ok-domain_of.was)

pub returns-then-forward_of-orientation : goal.returns-then-forward_of-orientation
returns-then-forward_of-orientation c = search (rules, writing, c.in_ok-domain_of.was)

pub returns-then-s-position_count : goal.returns-then-s-position_count
returns-then-s-position_count c = search (rules, writing, c.in_ok-domain_of.was)

pub returns-then-room-used : goal.returns-then-room-used
returns-then-room-used c = search (rules, writing, c.in_ok-domain_of.was)

pub put-requires : goal.put-requires
put-requires c = search (rules, writing, c.in_ok-domain_of.was)

pub returns : goal.returns
returns c = search (rules, writing, c.in_ok-domain_of.was)
