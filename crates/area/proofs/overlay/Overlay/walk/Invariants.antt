-- `Overlay::walk`: at each turn a cell is cut off, or the next piece is taken.
use Rattle.area.proofs.WalkLaws.{Going, to_go}
use Rattle.area.proofs.overlay.Overlay.walk.Given as goal

abbrev pub invariant-loop-out : goal.invariant-loop-out
invariant-loop-out l = Going l.self.operation l.self.a.now l.self.b.now l.writing l.initial.out l.n l.lo l.hi l.x l.out

abbrev pub decreases-loop-out : goal.decreases-loop-out
decreases-loop-out l = to_go l.lo l.hi
