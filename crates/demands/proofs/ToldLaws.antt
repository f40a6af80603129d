-- What is told and what is refused: read through tests (`refuse`) and steps (`>>=`).
use mathlib.Core.Path.{◌≡◌, refl}
use mathlib.Core.Bool.{Bool, true, false, cond}
use mathlib.Core.List.{List}
use Prim.Native.Nat.{ℕ}
use native.Mathlib.Omega.{arith}
use lib.Dec.{T, ltb}
use lib.ListN.{length}
use Rattle.triple.specs.declared.refusal.Refusal.{Refusal}
use Rattle.triple.specs.declared.refusal.Refusal.TheVariants.{Room}
use Rattle.triple.specs.Refusals.{Told, told, refused, number_of, refuse, ◌>>=◌}
use Rattle.triple.specs.Lent.{valued, count_of}
use Rattle.demands.specs.Demands.{is_among, AnsweredOr, answer, refusal}

pub told_refused : {A : Type 0} {t : Told A} {a : A} {n : ℕ} → t ≡ told a → t ≡ refused n → ⊥
told_refused e f = let z : ◌≡◌ {A = ℕ} 0 1 = cc in omega arith

-- what is taken out of an answer was answered
pub answered : {A B : Type 0} {f : A → B} (t : Told A) {b : B} → (t >>= λ a. told (f a)) ≡ told b → (a : A) × (t ≡ told a) × (f a ≡ b)
answered (told a) e = (a, refl, cc)
answered (refused n) e = absurd (told_refused e refl)

-- ---- the numbers of a call's refusals: those of its tests, and of its steps
pub by_test : {A : Type 0} {numbers : List ℕ} {t : Told A} (test : Bool) (e : Refusal) → T (is_among (number_of e) numbers) → (test ≡ false → AnsweredOr numbers t) → AnsweredOr numbers (refuse test e t)
by_test true e among next = refusal among
by_test false e among next = next refl

pub by_step : {A B : Type 0} {numbers : List ℕ} {t : Told A} {f : A → Told B} → AnsweredOr numbers t → ((a : A) → AnsweredOr numbers (f a)) → AnsweredOr numbers (t >>= f)
by_step (answer {a}) next = next a
by_step (refusal among) next = refusal among

pub by_room : {A : Type 0} {numbers : List ℕ} {call : Told (List A)} (buffer : List A) → T (is_among 10 numbers) → AnsweredOr numbers call → AnsweredOr numbers (count_of call buffer)
unfolding count_of number_of
by_room buffer among (answer {a}) = by_test (ltb (length buffer) (length a)) Room among λ room. answer
by_room buffer among (refusal n) = refusal n

pub by_choice : {A : Type 0} {numbers : List ℕ} {t u : Told A} (b : Bool) → AnsweredOr numbers t → AnsweredOr numbers u → AnsweredOr numbers (cond b t u)
by_choice true h k = h
by_choice false h k = k

pub by_answer : {A : Type 0} {numbers : List ℕ} {t : Told A} {a : A} → t ≡ told a → AnsweredOr numbers t
by_answer e = rw e answer

pub by_value : {A B : Type 0} {numbers : List ℕ} (f : A → B) {t : Told A} → AnsweredOr numbers t → AnsweredOr numbers (valued f t)
by_value f answer = answer
by_value f (refusal h) = refusal h
