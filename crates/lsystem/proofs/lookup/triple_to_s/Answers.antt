-- `lookup::triple_to_s` meets its contract: each way out is a law of the position, by what the tests and calls before it answered.
use mathlib.Core.Path.{◌∙◌}
use borrow.Author.Rules.{rules}
use Rattle.triple.proofs.RefusalLaws.{handed_on}
use Rattle.lsystem.proofs.PositionLaws.{positions}
use Rattle.lsystem.proofs.lookup.triple_to_s.Goals as goal

pub returns-in_err-domain_of : goal.returns-in_err-domain_of
returns-in_err-domain_of c = handed_on c.in_err-domain_of.field-0.0 _ c.from_residual.ensures.1 ∙ search (rules, positions, c.in_err-domain_of.was)

pub returns-in_err-flavor : goal.returns-in_err-flavor
returns-in_err-flavor c = handed_on c.in_err-flavor.field-0.0 _ c.from_residual-in_err-flavor.ensures.1 ∙ search (rules, positions, c.in_ok-domain_of.was, c.in_err-flavor.was)

pub looked_up-requires : goal.looked_up-requires
looked_up-requires c = search (rules, positions, c.in_ok-domain_of.was, c.in_ok-flavor.was)

pub returns-then-resolution-gt0 : goal.returns-then-resolution-gt0
returns-then-resolution-gt0 c = search (rules, positions, c.in_ok-domain_of.was, c.in_ok-flavor.was)

pub returns : goal.returns
returns c = search (rules, positions, c.in_ok-domain_of.was, c.in_ok-flavor.was)
