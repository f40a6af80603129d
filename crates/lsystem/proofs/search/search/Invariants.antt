-- `search::search`: what is left from where the loop is, is what was to do from the first tile.
use Rattle.std.proofs.Common.{◌≡◌, ◌+◌, ◌*◌}
use Rattle.a5.specs.Inside.Spots.{spot}
use Rattle.strides.specs.Searches.{on_tile, turns_at, digits_after}
use Rattle.lsystem.specs.Inside.Rooms.{Searching}
use Rattle.lsystem.proofs.search.search.Given as goal

abbrev pub invariant-loop-k : goal.invariant-loop-k
invariant-loop-k l =
    let u = spot l.p.x l.p.y l.p.g in
    Searching (digits_after l.fn.curve.resolution u (on_tile (32 + l.fn.curve.letter))) u l.k l.q × (l.turns.at ≡ turns_at (3 * l.k) u)
