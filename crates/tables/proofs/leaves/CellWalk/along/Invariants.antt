-- `CellWalk::along` goes along the strokes: after i turns, the first i bytes.
use Rattle.tables.proofs.LeafLaws.{Walked}
use Rattle.turtle.specs.Walk.{turtle, symbols_of}
use Rattle.turtle.specs.Plane.{origin, facing}
use lib.ListN.{take}
use Rattle.tables.proofs.leaves.CellWalk.along.Given as goal

abbrev pub invariant-loop-b : goal.invariant-loop-b
invariant-loop-b l = Walked (symbols_of (take l.b-index l.w)) (turtle origin (facing l.flip)) l.k
