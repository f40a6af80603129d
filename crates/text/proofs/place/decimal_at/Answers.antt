-- The word that stands at the place is read.
use Rattle.text.proofs.PlaceLaws.{placed_laws}
use borrow.Author.Rules.{rules}
use Rattle.text.proofs.place.decimal_at.Goals as goal

pub returns-then-at-s : goal.returns-then-at-s
returns-then-at-s c = search (rules, placed_laws)

pub slice_bounds-wide_integer-end : goal.slice_bounds-wide_integer-end
slice_bounds-wide_integer-end c = search (rules, placed_laws)

pub returns-in_err-z : goal.returns-in_err-z
returns-in_err-z c = rw c.from_residual.ensures (search (rules, placed_laws, c.in_err-z.was))

pub overflow_add-result : goal.overflow_add-result
overflow_add-result c = search (rules, placed_laws, c.in_ok-z.was)

pub returns : goal.returns
returns c = search (rules, placed_laws, c.in_ok-z.was)
