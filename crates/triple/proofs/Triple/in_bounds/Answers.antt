-- `Triple::in_bounds` meets its contract: an i32 is the same number as an i64.
use borrow.Author.Rules.{rules}
use Rattle.whole.proofs.View.{seen, fits}
use Rattle.triple.proofs.TripleLaws.{narrow_bounds}
use Rattle.triple.proofs.Triple.in_bounds.Goals as goal

pub overflow_cast-self : goal.overflow_cast-self
overflow_cast-self c = fits (search seen) tt

pub overflow_cast-self-2 : goal.overflow_cast-self-2
overflow_cast-self-2 c = fits (search seen) tt

pub overflow_cast-self-3 : goal.overflow_cast-self-3
overflow_cast-self-3 c = fits (search seen) tt

pub returns : goal.returns
returns c = search (rules, narrow_bounds)
