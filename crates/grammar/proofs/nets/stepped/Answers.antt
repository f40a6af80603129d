-- `nets::stepped` is the move that the byte stands for: the turtle is near, so that it is not lost.
use mathlib.Core.Path.{refl}
use mathlib.Core.Logic.{⊎_elim}
use Rattle.grammar.proofs.NetLaws.{step_drew, step_turned, step_nothing, step_lost}
use Rattle.grammar.proofs.nets.stepped.Goals as goal

pub returns-in-Drew : goal.returns-in-Drew
returns-in-Drew c = step_drew _ _ c.requires c.in-Drew.ensures refl

pub returns-in-Drew-2 : goal.returns-in-Drew-2
returns-in-Drew-2 c = step_turned _ _ c.requires c.in-Drew.ensures refl

pub returns-in-NoDraw : goal.returns-in-NoDraw
returns-in-NoDraw c = ⊎_elim (step_nothing _ _ c.requires c.step.ensures) (step_lost _ _ c.requires c.step.ensures) c.in-NoDraw.is
