-- The measure: the passes left. In each loop, what is behind has been walked.
use Rattle.std.proofs.Common.{◌-◌, take, map}
use Rattle.grammar.specs.Words.{mirrored}
use Rattle.sketch.proofs.WalkLaws.{Walked}
use Rattle.sketch.proofs.walk.+met.Given as goal

abbrev pub decreases-met : goal.decreases-met
decreases-met l = l.left

abbrev pub invariant-loop-c : goal.invariant-loop-c
invariant-loop-c l = Walked (l.left - 1) (map mirrored (map (λ y. y.now) l.yielded)) l.initial.p l.initial.out l.p l.out

abbrev pub invariant-loop-d : goal.invariant-loop-d
invariant-loop-d l = Walked (l.left - 1) (take l.d-index l.word) l.initial.p l.initial.out l.p l.out
