-- No byte from the place up to i is b.
use mathlib.Core.Path.{◌≡◌}
use Prim.Native.Nat.{◌+◌}
use lib.ListN.{drop}
use Rattle.text.specs.Words.{until}
use Rattle.text.proofs.words.place_of.Given as goal

abbrev pub invariant-loop-i : goal.invariant-loop-i
invariant-loop-i l = l.i + until l.b (drop l.i l.s) ≡ l.at + until l.b (drop l.at l.s)
