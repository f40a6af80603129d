-- `write` meets its contract: each way out is a law of the writer, by what the calls before it answered.
use Rattle.polygon.proofs.SpellLaws.{writing, written}
use mathlib.Core.Path.{◌∙◌}
use borrow.Author.Rules.{rules}
use Rattle.triple.proofs.RefusalLaws.{handed_on}
use Rattle.polygon.proofs.write.Goals as goal

pub returns-in_err-flavor : goal.returns-in_err-flavor
returns-in_err-flavor c = (handed_on c.in_err-flavor.field-0.0 _ c.from_residual.ensures.1 ∙ search (rules, writing, c.in_err-flavor.was), search (rules, writing, c.in_err-flavor.was))

pub spell-n-requires : goal.spell-n-requires
spell-n-requires c = search (rules, writing, c.in_ok-flavor.was)

pub slice_bounds-text-end : goal.slice_bounds-text-end
slice_bounds-text-end c = search (rules, writing, c.in_ok-flavor.was)

pub slice_bounds-put_bytes-end : goal.slice_bounds-put_bytes-end
slice_bounds-put_bytes-end c = search (rules, writing, c.in_ok-flavor.was)

pub returns-then-end-out : goal.returns-then-end-out
returns-then-end-out c = search (rules, writing, c.in_ok-flavor.was)

pub returns : goal.returns
returns c = (search (rules, written, c.in_ok-flavor.was), search (rules, written, c.in_ok-flavor.was))
