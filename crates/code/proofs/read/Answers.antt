-- `read` meets its contract: what is read loosely, unless a spare bit is set.
use mathlib.Core.Path.{◌∙◌}
use borrow.Author.Rules.{rules}
use Rattle.triple.proofs.RefusalLaws.{handed_on}
use Rattle.code.proofs.SpareLaws.{strict}
use Rattle.code.proofs.read.Goals as goal

pub returns-in_err-x : goal.returns-in_err-x
returns-in_err-x c = handed_on c.in_err-x.field-0.0 _ c.from_residual.ensures.1 ∙ search (rules, strict, c.in_err-x.was)

pub spare_value-requires : goal.spare_value-requires
spare_value-requires c = search (rules, strict, c.in_ok-x.was)

pub returns-then-spare_value-gt0 : goal.returns-then-spare_value-gt0
returns-then-spare_value-gt0 c = search (rules, strict, c.in_ok-x.was)

pub returns : goal.returns
returns c = search (rules, strict, c.in_ok-x.was)
