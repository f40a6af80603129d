-- `pen::stepped`: the turtle is near, so that it is not lost, and a byte has one symbol at most.
use Rattle.std.proofs.Common.{inl, inr, rules}
use Rattle.sketch.proofs.PutLaws.{stepping}
use Rattle.sketch.proofs.pen.stepped.Goals as goal

pub overflow_mul-place : goal.overflow_mul-place
overflow_mul-place c = search (rules, stepping)

pub put-requires : goal.put-requires
put-requires c = search (rules, stepping)

pub returns-in-Drew : goal.returns-in-Drew
returns-in-Drew c = search (rules, stepping)

pub returns-in-Turned : goal.returns-in-Turned
returns-in-Turned c = search (rules, stepping)

pub returns-in-NoDraw : goal.returns-in-NoDraw
returns-in-NoDraw c = elim c.in-NoDraw.is [ inl e ↦ search (rules, stepping) | inr e ↦ search (rules, stepping) ]
