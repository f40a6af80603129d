-- `reach`: what is left from the loop's place is what was to do from the origin.
use mathlib.Core.Path.{◌≡◌}
use Prim.Native.Nat.{◌≤◌}
use Rattle.turtle.specs.Plane.{origin, doubled}
use Rattle.tables.specs.Descent.{follow}
use Rattle.descent.specs.Inside.LevelStates.{Known, RoomBelow, level_start}
use Rattle.descent.proofs.level.reach.Given as goal

abbrev pub invariant-loop-k : goal.invariant-loop-k
invariant-loop-k l = (l.k ≤ 29) × (Known l.table l.p.state × (RoomBelow l.k l.p × (follow l.table l.k (doubled l.k (level_start l.p)) l.p.state l.s ≡ follow l.table l.levels origin l.state l.s)))
