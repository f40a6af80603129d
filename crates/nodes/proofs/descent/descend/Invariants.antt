-- `descent::descend`: what is left from the loop's place is what was to do from the origin.
use Rattle.std.proofs.Common.{◌≡◌, ◌*◌, ◌^◌}
use Rattle.nodes.specs.Inside.Descents.{descended, at_origin, Room}
use Rattle.nodes.proofs.descent.descend.Given as goal

abbrev pub invariant-loop-k : goal.invariant-loop-k
invariant-loop-k l = Room (2 ^ 37) l.k l.p × (descended l.k (4 * l.place) l.p ≡ descended l.levels (4 * l.place) (at_origin l.state))
