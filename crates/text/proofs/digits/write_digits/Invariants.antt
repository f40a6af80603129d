-- The digits from the ith on are stored, and what is left of the number writes those before it.
use mathlib.Core.Path.{◌≡◌}
use lib.ListN.{length}
use Rattle.text.proofs.DigitLaws.{Left}
use Rattle.text.proofs.digits.write_digits.Given as goal

abbrev pub invariant-loop-i : goal.invariant-loop-i
invariant-loop-i g l = (length l.out ≡ length l.initial.out) × Left g.row.BASE l.count l.n l.rest l.at l.i l.initial.out l.out
