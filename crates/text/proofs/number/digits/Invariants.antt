-- The digits one by one: those before the index wrote `value`, and the rest of the word after it gives what the whole gives.
use mathlib.Core.Path.{◌≡◌}
use Prim.Native.Nat.{◌≤◌}
use lib.ListN.{drop}
use Rattle.text.specs.Inside.Reading.{digits_up_to}
use Rattle.text.proofs.number.digits.Given as goal

abbrev pub invariant-loop-b : goal.invariant-loop-b
invariant-loop-b l = (l.value ≤ l.most) × (digits_up_to l.base l.most l.value (drop l.b-index l.word) ≡ digits_up_to l.base l.most 0 l.word)
