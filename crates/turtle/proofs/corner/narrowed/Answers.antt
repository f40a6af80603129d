-- Each coordinate by what was read of it.
use borrow.Author.Rules.{rules}
use Rattle.turtle.specs.Corners.{narrowed}
use Rattle.turtle.proofs.CornerLaws.{coordinate, narrowed_some}
use Rattle.turtle.proofs.corner.narrowed.Goals as goal

pub returns-in_err-x : goal.returns-in_err-x
unfolding narrowed
returns-in_err-x c = search rules

pub returns-in_err-y : goal.returns-in_err-y
unfolding narrowed
returns-in_err-y c = search rules

pub returns-in_err-z : goal.returns-in_err-z
unfolding narrowed
returns-in_err-z c = search rules

pub returns : goal.returns
returns c =
    narrowed_some c.args.x c.args.y c.args.z _ _ _
    (coordinate _ _ _ _ c.ranges.x.sfits c.try_from.ensures c.ok.ensures.value c.in_ok-x.was)
    (coordinate _ _ _ _ c.ranges.y.sfits c.try_from-2.ensures c.ok-2.ensures.value c.in_ok-y.was)
    (coordinate _ _ _ _ c.ranges.z.sfits c.try_from-3.ensures c.ok-3.ensures.value c.in_ok-z.was)
    _ c.new.ensures
