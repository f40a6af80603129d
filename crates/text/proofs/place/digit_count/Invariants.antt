-- Every byte before i is a digit.
use mathlib.Core.Path.{◌≡◌}
use Prim.Native.Nat.{◌+◌}
use lib.ListN.{drop}
use Rattle.text.specs.Decimals.{digit_count}
use Rattle.text.proofs.place.digit_count.Given as goal

abbrev pub invariant-loop-i : goal.invariant-loop-i
invariant-loop-i l = l.i + digit_count (drop l.i l.s) ≡ digit_count l.s
