-- Lists: an element that stands at a place is a member; and functions whose first values are one list agree there, so that a law of few numbers is one computation.
use mathlib.Core.Path.{◌≡◌, refl, subst}
use mathlib.Core.List.{List, [], ◌∷◌, Memᴰ, head-eq_of_cons-eq, tail-eq_of_cons-eq}
use Prim.Native.Nat.{ℕ, zero, suc, ◌<◌}
use native.Mathlib.Omega.{arith}
use native.Mathlib.Decide.{dec_lt}
use lib.ListN.{length, get_or}

pub member_at : {A : Type 0} (l : List A) (n : ℕ) (d : A) → n < length l → Memᴰ (get_or l n d) l
member_at [] n d h = let z : ⊥ = omega arith in absurd z
member_at (a ∷ l) zero d h = Memᴰ.head refl
member_at (a ∷ l) (suc n) d h = Memᴰ.tail (member_at l n d (omega arith))

-- the first n values of f, the last of them first
abbrev pub firsts : {A : Type 0} → (ℕ → A) → ℕ → List A
firsts f zero = []
firsts f (suc n) = f n ∷ firsts f n

pub firsts_agree : {A : Type 0} (f g : ℕ → A) (n : ℕ) → firsts f n ≡ firsts g n → (i : ℕ) → i < n → f i ≡ g i
firsts_agree f g zero e i h = let z : ⊥ = omega arith in absurd z
firsts_agree f g (suc n) e i h =
    elim (dec_lt i n) [ yes k ↦ firsts_agree f g n (tail-eq_of_cons-eq e) i k | no k ↦ let q : n ≡ i = omega arith in subst (λ j. f j ≡ g j) q (head-eq_of_cons-eq e) ]
