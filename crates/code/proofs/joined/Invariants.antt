-- `joined`: the number so far, with the bits of what is left after it, is the whole number.
use mathlib.Core.Path.{◌≡◌}
use Prim.Native.Nat.{◌*◌, ◌^◌, ◌<◌}
use lib.ListN.{drop}
use Rattle.code.specs.Codes.{value_after, all_bits}
use Rattle.code.proofs.joined.Given as goal

abbrev pub invariant-loop-b : goal.invariant-loop-b
invariant-loop-b l = (l.v < 2 ^ (8 * l.b-index)) × (value_after l.v (all_bits (drop l.b-index l.bytes)) ≡ value_after 0 (all_bits l.bytes))
