-- `walk::rot_times` is `rots`: after each turn of the loop q is p rotated so many times.
use mathlib.Core.Path.{◌≡◌}
use Rattle.turtle.specs.Plane.{rots}
use Rattle.turtle.proofs.walk.rot_times.Given as goal

abbrev pub invariant-loop : goal.invariant-loop
invariant-loop l = l.q ≡ rots l.counter l.initial.q
