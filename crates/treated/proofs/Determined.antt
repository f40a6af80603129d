-- The contract on checking allows one answer alone. What an answer says has a left inverse: so two answers that say the same are the same.
use mathlib.Core.Path.{◌≡◌, refl, ap}
use mathlib.Core.List.{List}
use Prim.Native.Nat.{ℕ}
use Rattle.std.specs.Prelude.{Result, Ok, Err}
use Rattle.triple.proofs.Determined.{one_to_one, determined, numbered, answer_of}
use Rattle.treated.specs.declared.CheckError.{CheckError}
use Rattle.treated.specs.Treated.{Verdict, good, faulty, check_of}
use Rattle.treated.specs.Answers.{said_check}

abbrev verdict_answer : Verdict → Result ℕ CheckError
verdict_answer (good n) = Ok n
verdict_answer (faulty f n) = Err (CheckError.Faulty f n)

check_answer_back : (a : Result ℕ CheckError) → answer_of verdict_answer (λ e. Err (CheckError.Refused e)) (said_check a) ≡ a
check_answer_back (Ok n) = refl
check_answer_back (Err (CheckError.Faulty f n)) = refl
check_answer_back (Err (CheckError.Refused e)) = ap (λ e. Err (CheckError.Refused e)) (numbered e)

pub said_check_one_to_one : (a b : Result ℕ CheckError) → said_check a ≡ said_check b → a ≡ b
said_check_one_to_one = one_to_one said_check (answer_of verdict_answer (λ e. Err (CheckError.Refused e))) check_answer_back

pub check_determined : (list : List ℕ) (a b : Result ℕ CheckError) → said_check a ≡ check_of list → said_check b ≡ check_of list → a ≡ b
check_determined list a b p q = determined said_check said_check_one_to_one a b p q
