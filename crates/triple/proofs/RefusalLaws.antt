-- What is told is not refused, and has passed every test and every step before it.
use mathlib.Core.Path.{◌≡◌, refl, ap, ◌∙◌}
use mathlib.Core.Bool.{Bool, true, false}
use Prim.Native.Nat.{ℕ}
use native.Mathlib.Omega.{arith}
use Rattle.triple.specs.declared.refusal.Refusal.{Refusal}
use Rattle.std.specs.Prelude.{Result, Err, IsErrAnd}
use Rattle.std.proofs.lemmas.Result.{err_from_is_err_and}
use Rattle.triple.specs.Refusals.{Told, told, refused, refuse, number_of, said, ◌>>=◌}

pub never : {A : Type 0} {n : ℕ} {a : A} {B : Type 0} → refused n ≡ told a → B
never {A} {n} {a} {B} e = let z : ◌≡◌ {A = ℕ} 0 1 = cc in let none : ⊥ = omega arith in absurd none

pub passed : {A : Type 0} (test : Bool) (e : Refusal) {t : Told A} {a : A} → refuse test e t ≡ told a → (test ≡ false) × (t ≡ told a)
passed true e p = never p
passed false e p = (refl, p)

pub told_same : {A : Type 0} {a b : A} → told a ≡ told b → a ≡ b
told_same e = cc

pub refused_same : {A : Type 0} {m n : ℕ} → ◌≡◌ {A = Told A} (refused m) (refused n) → m ≡ n
refused_same e = cc

-- what is told by steps is told by each of them
pub stepped : {A B : Type 0} {f : A → Told B} (t : Told A) {b : B} → (t >>= f) ≡ told b → (a : A) × (t ≡ told a) × (f a ≡ told b)
stepped (told a) e = (a, refl, e)
stepped (refused n) e = never e

-- ---- what a `?` hands on is what the call before it answered
pub err_is : {A E : Type 0} (e : E) (r : Result A E) → IsErrAnd r (λ d. d ≡ e) → r ≡ Err e
err_is e r h = let p = err_from_is_err_and r h in p.1 ∙ ap Err p.2

pub handed_on : {A : Type 0} (e : Refusal) (r : Result A Refusal) → IsErrAnd r (λ d. d ≡ e) → said r ≡ refused (number_of e)
handed_on e r h = ap said (err_is e r h)
