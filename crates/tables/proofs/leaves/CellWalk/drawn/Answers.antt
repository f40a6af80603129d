-- `CellWalk::drawn` has the walk's cells, and where its turtle ends.
use native.Mathlib.Omega.{arith}
use Rattle.turtle.proofs.WalkLaws.{small_more}
use Rattle.tables.proofs.leaves.CellWalk.drawn.Goals as goal

pub corner_of-requires : goal.corner_of-requires
corner_of-requires c = small_more (omega (arith, c.requires)) c.args.self.small
