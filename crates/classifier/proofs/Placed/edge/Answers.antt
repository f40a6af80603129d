-- `Placed::edge` ends at the next corner, or at the first one.
use native.Mathlib.Omega.{arith}
use Rattle.classifier.proofs.EdgeLaws.{edge_next, edge_last}
use Rattle.classifier.proofs.Placed.edge.Goals as goal
use Rattle.classifier.proofs.Placed.edge.Goals.{then-i-n, else-i-n}

pub returns : goal.returns
returns c =
    elim c.if-i-n.branch [
      | then-i-n w ↦ edge_next _ _ _ c.corner.ensures c.corner-2.ensures c.through.ensures (omega (arith, c.corner_count-n.ensures)) w.next-is
      | else-i-n w ↦ edge_last _ _ _ c.corner.ensures c.corner-2.ensures c.through.ensures (omega (arith, c.corner_count-n.ensures)) w.next-is
    ]
