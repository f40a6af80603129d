-- `Triple::flavor` meets its contract: each way out is a law of the flavor, by what the calls before it answered.
use borrow.Author.Rules.{rules}
use mathlib.Core.Path.{◌∙◌}
use Rattle.triple.proofs.RefusalLaws.{handed_on}
use Rattle.triple.proofs.TripleLaws.{flavors}
use Rattle.triple.proofs.Triple.flavor.Goals as goal

pub returns-then-resolution-gt-GREATEST_RESOLUTION : goal.returns-then-resolution-gt-GREATEST_RESOLUTION
returns-then-resolution-gt-GREATEST_RESOLUTION c = search (rules, flavors)

pub returns-in_err-p : goal.returns-in_err-p
returns-in_err-p c = handed_on c.in_err-p.field-0.0 _ c.from_residual.ensures.1 ∙ search (rules, flavors, c.in_err-p.was)

pub returns-then-not-in_bounds : goal.returns-then-not-in_bounds
returns-then-not-in_bounds c = search (rules, flavors, c.in_ok-p.was)

pub overflow_mul-result : goal.overflow_mul-result
overflow_mul-result c = search (rules, flavors, c.in_ok-p.was)

pub overflow_add-result : goal.overflow_add-result
overflow_add-result c = search (rules, flavors, c.in_ok-p.was)

pub returns : goal.returns
returns c = search (rules, flavors, c.in_ok-p.was)
