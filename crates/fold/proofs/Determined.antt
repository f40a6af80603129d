-- Each contract allows one result alone: one answer and one slice. What an answer says has a left inverse: so two answers that say the same are the same.
use mathlib.Core.Path.{◌≡◌, refl, sym, ◌∙◌}
use mathlib.Core.List.{List}
use Prim.Native.Nat.{ℕ, zero, suc, ◌/◌}
use native.Mathlib.Omega.{arith}
use Rattle.std.specs.Prelude.{Result}
use Rattle.triple.specs.Lent.{valued, count_of, after_call, Counted}
use Rattle.triple.proofs.Determined.{one_to_one, determined, said_one_to_one}
use Rattle.fold.specs.declared.pairs.Fault.{Fault}
use Rattle.fold.specs.declared.pairs.Fault.TheVariants as Test
use Rattle.fold.specs.Folds.{fold_call}
use Rattle.fold.specs.Unfolds.{passes, passed_before, unfold_call}
use Rattle.triple.specs.Refusals.{said}
use Rattle.triple.specs.declared.refusal.Refusal.{Refusal}

-- ---- the operations
pub fold_determined : (o r : ℕ) (xs slice : List ℕ) (a b : Result ℕ Refusal) (x y : List ℕ)
    → (said a ≡ valued (λ n. n / 2) (count_of (fold_call o r xs) slice)) × (x ≡ after_call (fold_call o r xs) slice)
    → (said b ≡ valued (λ n. n / 2) (count_of (fold_call o r xs) slice)) × (y ≡ after_call (fold_call o r xs) slice) → (a ≡ b) × (x ≡ y)
fold_determined o r xs slice a b x y p q = (determined said said_one_to_one a b p.0 q.0, p.1 ∙ sym q.1)

pub unfold_determined : (o r : ℕ) (xs slice : List ℕ) (a b : Result ℕ Refusal) (x y : List ℕ)
    → Counted (unfold_call o r xs) slice (said a) x → Counted (unfold_call o r xs) slice (said b) y → (a ≡ b) × (x ≡ y)
unfold_determined o r xs slice a b x y p q = (determined said said_one_to_one a b p.0 q.0, p.1 ∙ sym q.1)

-- a list's reading: one test that it fails, or none
fault_at : ℕ → Fault
fault_at zero = Test.Resolution
fault_at (suc zero) = Test.Position
fault_at (suc (suc n)) = Test.Order

fault_back : (e : Fault) → fault_at (passed_before e) ≡ e
unfolding fault_at
fault_back Test.Resolution = refl
fault_back Test.Position = refl
fault_back Test.Order = refl

pub read_determined : (r : ℕ) (xs : List ℕ) (e f : Fault) → passed_before e ≡ passes r xs → passed_before f ≡ passes r xs → e ≡ f
read_determined r xs e f p q = one_to_one passed_before fault_at fault_back e f (p ∙ sym q)

pub read_fails : (r : ℕ) (xs : List ℕ) (e : Fault) → passed_before e ≡ passes r xs → 3 ≡ passes r xs → ⊥
read_fails r xs Test.Resolution p q = omega arith
read_fails r xs Test.Position p q = omega arith
read_fails r xs Test.Order p q = omega arith

pub tests_passed_determined : (r : ℕ) (xs : List ℕ) (m n : ℕ) → m ≡ passes r xs → n ≡ passes r xs → m ≡ n
tests_passed_determined r xs m n p q = p ∙ sym q
