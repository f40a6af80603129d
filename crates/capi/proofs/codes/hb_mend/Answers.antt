-- `hb_mend`: the list is mended and its counts are written, or a slice is too short and neither is written.
use mathlib.Core.Path.{ap}
use Prim.Native.Nat.{ℕ}
use lib.ListN.{length}
use borrow.Author.Rules.{rules}
use Rattle.mend.specs.Mends.{changes_of, mend_call, mended_to}
use Rattle.capi.specs.Calls.{tally_values}
use Rattle.capi.proofs.MendLaws.{numbers_told, numbers_refused, mend_uncounted}
use Rattle.capi.proofs.codes.hb_mend.Goals as goal
use Rattle.triple.specs.Refusals.{said}

pub returns-then-counts-lt2 : goal.returns-then-counts-lt2
returns-then-counts-lt2 c = mend_uncounted _ _ _ c.if-counts-lt2.true c.number.ensures

pub returns-in-Ok : goal.returns-in-Ok
unfolding mended_to
returns-in-Ok c = numbers_told (mend_call _ _) (λ (n : ℕ). record { written = n; changes = length (changes_of _) }) tally_values _ _ c.mend-answer.ensures.0 c.mend-answer.ensures.1 (ap said c.in-Ok.is) (search rules) c.put_tally.ensures

pub returns-in-Err : goal.returns-in-Err
unfolding mended_to
returns-in-Err c = numbers_refused (mend_call _ _) (λ (n : ℕ). record { written = n; changes = length (changes_of _) }) tally_values _ _ c.mend-answer.ensures.0 c.mend-answer.ensures.1 (ap said c.in-Err.is) c.number-in-Err.ensures
