-- `Turtle::corners` is `corners_of`: lost, no letter, or the corners of a letter's stroke, which is small.
use mathlib.Core.Path.{sym, ◌∙◌}
use Rattle.turtle.proofs.LetterLaws.{stroke_small}
use Rattle.turtle.proofs.LimitLaws.{near_of}
use Rattle.turtle.proofs.WalkLaws.{corners_lost, corners_none, corners_at}
use Rattle.turtle.proofs.walk.Turtle.corners.Goals as goal

pub returns-then-is_far : goal.returns-then-is_far
returns-then-is_far c = corners_lost _ _ c.is_far.ensures c.if-is_far.true

pub returns-in_default : goal.returns-in_default
returns-in_default c = corners_none _ _ c.is_far.ensures c.if-is_far.false c.stroke_of.ensures c.in_default.is

pub corners_of-requires : goal.corners_of-requires
corners_of-requires c = (stroke_small _ (sym c.in-Some.is ∙ c.stroke_of.ensures), near_of _ c.is_far.ensures c.if-is_far.false)

pub returns : goal.returns
returns c = corners_at _ _ c.is_far.ensures c.if-is_far.false c.stroke_of.ensures c.in-Some.is c.corners_of.ensures
