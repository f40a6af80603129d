-- `hb_mend_step`: the piece and its numbers are written, or a slice is too short and neither is written.
use mathlib.Core.Path.{ap}
use Prim.Native.Nat.{ℕ}
use borrow.Author.Rules.{rules}
use Rattle.triple.specs.Refusals.{told, said}
use Rattle.mend.specs.Mends.{piece_of, step_of}
use Rattle.capi.specs.Calls.{stepped_values}
use Rattle.capi.proofs.MendLaws.{numbers_told, numbers_refused, step_uncounted}
use Rattle.capi.proofs.codes.hb_mend_step.Goals as goal

pub returns-then-counts-lt3 : goal.returns-then-counts-lt3
returns-then-counts-lt3 c = step_uncounted _ _ _ c.if-counts-lt3.true c.number.ensures

pub returns-in-Ok : goal.returns-in-Ok
unfolding step_of
returns-in-Ok c = numbers_told (told (piece_of _).bytes) (λ (n : ℕ). record { taken = (piece_of _).taken; written = n; change = (piece_of _).change }) stepped_values _ _ c.step-answer.ensures.0 c.step-answer.ensures.1 (ap said c.in-Ok.is) (search rules) c.put_stepped.ensures

pub returns-in-Err : goal.returns-in-Err
unfolding step_of
returns-in-Err c = numbers_refused (told (piece_of _).bytes) (λ (n : ℕ). record { taken = (piece_of _).taken; written = n; change = (piece_of _).change }) stepped_values _ _ c.step-answer.ensures.0 c.step-answer.ensures.1 (ap said c.in-Err.is) c.number-in-Err.ensures
