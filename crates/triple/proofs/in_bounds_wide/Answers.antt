-- `in_bounds_wide` meets its contract: each way out is a law of the bounds, by the test that leads there.
use borrow.Author.Rules.{rules}
use Rattle.triple.proofs.TripleLaws.{wide_bounds}
use Rattle.triple.proofs.in_bounds_wide.Goals as goal

pub returns-then-resolution-gt-GREATEST_RESOLUTION : goal.returns-then-resolution-gt-GREATEST_RESOLUTION
returns-then-resolution-gt-GREATEST_RESOLUTION c = search (rules, wide_bounds)

pub overflow_add-xy : goal.overflow_add-xy
overflow_add-xy c = search (rules, wide_bounds)

pub returns-then-xy-lt0 : goal.returns-then-xy-lt0
returns-then-xy-lt0 c = search (rules, wide_bounds)

pub overflow_add-sum : goal.overflow_add-sum
overflow_add-sum c = search (rules, wide_bounds)

pub returns-then-sum-ge0 : goal.returns-then-sum-ge0
returns-then-sum-ge0 c = search (rules, wide_bounds)

pub returns-else-sum-ge0 : goal.returns-else-sum-ge0
returns-else-sum-ge0 c = search (rules, wide_bounds)
