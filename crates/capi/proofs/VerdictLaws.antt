-- The verdict on a treated list, by what the checker answers; and a fault's number.
use mathlib.Core.Path.{◌≡◌, ap}
use mathlib.Core.List.{List}
use Prim.Native.Nat.{ℕ}
use Rattle.std.specs.Prelude.{Result, Ok, Err}
use Rattle.triple.specs.Lent.{Called}
use Rattle.triple.specs.declared.refusal.Refusal.{Refusal}
use Rattle.triple.specs.Refusals.{told, number_of}
use Rattle.triple.proofs.LentLaws.{call_told, call_refused}
use Rattle.treated.specs.declared.Fault.{Fault}
use Rattle.treated.specs.declared.CheckError.{CheckError}
use Rattle.treated.specs.Treated.{check_of}
use Rattle.treated.specs.Answers.{said_check}
use Rattle.capi.specs.Verdicts.{fault_number, verdict_numbers, verdict_values, check_call}

module _ (list slice : List ℕ) {a : Result ℕ CheckError} (answers : said_check a ≡ check_of list) {n : ℕ} where
  pub verdict_good : {count : ℕ} → a ≡ Ok count → {after : List ℕ} → Called (told (verdict_numbers 0 count)) slice n after → Called (check_call list) slice n after
  verdict_good m c = call_told verdict_values slice answers (ap said_check m) c

  pub verdict_faulty : {f : Fault} {number : ℕ} → a ≡ Err (CheckError.Faulty f number) → {k : ℕ} → k ≡ fault_number f → {after : List ℕ} → Called (told (verdict_numbers k number)) slice n after → Called (check_call list) slice n after
  verdict_faulty m e c = call_told verdict_values slice answers (ap said_check m) (rw e at c)

  pub verdict_refused : {e : Refusal} → a ≡ Err (CheckError.Refused e) → n ≡ number_of e → Called (check_call list) slice n slice
  verdict_refused m e = call_refused verdict_values slice answers (ap said_check m) e

-- ---- a fault's number
module _ {f : Fault} where
  pub number_unsound : f ≡ Fault.Unsound → 1 ≡ fault_number f
  unfolding fault_number
  number_unsound e = rw e

  pub number_marked : f ≡ Fault.Marked → 2 ≡ fault_number f
  unfolding fault_number
  number_marked e = rw e

  pub number_orientation : f ≡ Fault.Orientation → 3 ≡ fault_number f
  unfolding fault_number
  number_orientation e = rw e

  pub number_overlap : f ≡ Fault.Overlap → 4 ≡ fault_number f
  unfolding fault_number
  number_overlap e = rw e

pub ruleset fault_numbers = (number_unsound, number_marked, number_orientation, number_overlap)
