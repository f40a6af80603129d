-- `Turtle::step` is `step_of`: lost, a turn, no letter, or a letter's stroke, which is small, so that it can be drawn from a place that is near.
use mathlib.Core.Path.{sym, ◌∙◌}
use Rattle.turtle.proofs.LetterLaws.{stroke_small}
use Rattle.turtle.proofs.LimitLaws.{near_of}
use Rattle.turtle.proofs.WalkLaws.{step_lost, step_left, step_right, step_none, step_drew}
use Rattle.turtle.proofs.walk.Turtle.step.Goals as goal

pub returns-then-is_far : goal.returns-then-is_far
returns-then-is_far c = step_lost _ _ c.is_far.ensures c.if-is_far.true

pub returns-then-letter-eq43 : goal.returns-then-letter-eq43
returns-then-letter-eq43 c = step_left _ _ c.is_far.ensures c.if-is_far.false c.if-letter-eq43.true

pub returns-then-letter-eq45 : goal.returns-then-letter-eq45
returns-then-letter-eq45 c = step_right _ _ c.is_far.ensures c.if-is_far.false c.if-letter-eq43.false c.if-letter-eq45.true

pub returns-in_default : goal.returns-in_default
returns-in_default c = step_none _ _ c.is_far.ensures c.if-is_far.false c.stroke_of.ensures c.if-letter-eq43.false c.if-letter-eq45.false c.in_default.is

pub drew-requires : goal.drew-requires
drew-requires c = (stroke_small _ (sym c.in-Some.is ∙ c.stroke_of.ensures), near_of _ c.is_far.ensures c.if-is_far.false)

pub returns : goal.returns
returns c = step_drew _ _ c.is_far.ensures c.if-is_far.false c.stroke_of.ensures c.if-letter-eq43.false c.if-letter-eq45.false c.in-Some.is c.drew.ensures
