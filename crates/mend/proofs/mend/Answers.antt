-- `mend`: the pieces so far stand at the front of the slice.
use borrow.Author.Rules.{rules}
use Rattle.mend.proofs.WalkLaws.{at_fits, ahead_less, walked_next, walking}
use Rattle.mend.proofs.mend.Goals as goal

pub returns-then-out-list : goal.returns-then-out-list
returns-then-out-list c = search (rules, walking)

pub loop-at-init : goal.loop-at-init
loop-at-init c = search (rules, walking)

pub slice_bounds-read-count : goal.slice_bounds-read-count
slice_bounds-read-count c = search (rules, walking)

pub slice_bounds-read-start : goal.slice_bounds-read-start
slice_bounds-read-start c = search (rules, walking)

pub slice_bounds-plan_of-count : goal.slice_bounds-plan_of-count
slice_bounds-plan_of-count c = search (rules, walking)

pub slice_bounds-plan_of-start : goal.slice_bounds-plan_of-start
slice_bounds-plan_of-start c = search (rules, walking)

pub plan_of-plan-requires : goal.plan_of-plan-requires
plan_of-plan-requires c = search (rules, walking)

pub slice_bounds-lay-count : goal.slice_bounds-lay-count
slice_bounds-lay-count c = search (rules, walking)

pub slice_bounds-lay-start : goal.slice_bounds-lay-start
slice_bounds-lay-start c = search (rules, walking)

pub slice_bounds-lay-count-in-loop-at : goal.slice_bounds-lay-count-in-loop-at
slice_bounds-lay-count-in-loop-at c = search (rules, walking)

pub slice_bounds-lay-start-in-loop-at : goal.slice_bounds-lay-start-in-loop-at
slice_bounds-lay-start-in-loop-at c = search (rules, walking)

pub lay-requires : goal.lay-requires
lay-requires c = search (rules, walking)

-- the place behind what was taken is within the list
pub overflow_add-at : goal.overflow_add-at
overflow_add-at c =
    let plan = c.plan_of-plan.ensures in
    at_fits c.loop-at.invariant c.loop-at-test.true _ plan.0 plan.1 c.step_by-x.ensures (search rules)

pub overflow_add-written : goal.overflow_add-written
overflow_add-written c = search (rules, walking)

pub overflow_add-changes : goal.overflow_add-changes
overflow_add-changes c = search (rules, walking)

-- and there is less ahead of it
pub loop-at-smaller : goal.loop-at-smaller
loop-at-smaller c =
    let plan = c.plan_of-plan.ensures in
    ahead_less c.loop-at.invariant c.loop-at-test.true _ plan.0 plan.1 c.step_by-x.ensures

pub loop-at-preserved : goal.loop-at-preserved
loop-at-preserved c =
    let plan = c.plan_of-plan.ensures in
    walked_next c.loop-at.invariant c.loop-at-test.true _ plan.0 plan.1 c.step_by-x.ensures c.lay.ensures c.count_of-changes.ensures

pub shape_of-out : goal.shape_of-out
shape_of-out c = search (rules, walking)

pub returns : goal.returns
returns c = search (rules, walking)
