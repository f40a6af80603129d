-- Facts about a table that antt computes: a list of claims at every place of the table is one test, proved by `tt`, and the test gives each claim at each place.
use mathlib.Core.Path.{◌≡◌, subst}
use mathlib.Core.Bool.{Bool, true, false, ◌&&◌}
use mathlib.Core.List.{List, [], ◌∷◌}
use Prim.Native.Nat.{ℕ, zero, suc, ◌<◌, ◌≤◌}
use native.Mathlib.Omega.{arith}
use native.Mathlib.Decide.{dec_lt}
use lib.Dec.{T, ltb, leb, eqb, eqb→eq, eqb_refl, ltb→lt, leb→le, lt→ltb, le→leb}
use lib.IntN.{ℤ}
use Rattle.whole.specs.Tests.{equal}
use Rattle.whole.proofs.Bools.{both_left, both_right, both}
use Rattle.whole.proofs.Equals.{equal_sound, is_equal}

-- ---- a claim, the test that decides it, and what it says
pub data Claim : Type 0 where
  lt le eq : ℕ → ℕ → Claim
  int : ℤ → ℤ → Claim
  that : Bool → Claim

abbrev pub test : Claim → Bool
test (lt a b) = ltb a b
test (le a b) = leb a b
test (eq a b) = eqb a b
test (int a b) = equal a b
test (that b) = b

abbrev pub Says : Claim → Type 0
Says (lt a b) = a < b
Says (le a b) = a ≤ b
Says (eq a b) = a ≡ b
Says (int a b) = a ≡ b
Says (that b) = T b

says : (c : Claim) → T (test c) → Says c
says (lt a b) t = ltb→lt a b t
says (le a b) t = leb→le a b t
says (eq a b) t = eqb→eq a b t
says (int a b) t = equal_sound a b t
says (that b) t = t

tested : (c : Claim) → Says c → T (test c)
tested (lt a b) h = lt→ltb a b h
tested (le a b) h = le→leb a b h
tested (eq a b) h = subst (λ c. T (eqb a c)) h (eqb_refl a)
tested (int a b) h = is_equal a b h
tested (that b) h = h

-- ---- a list of claims
abbrev pub pass : List Claim → Bool
pass [] = true
pass (c ∷ l) = test c && pass l

abbrev pub Hold : List Claim → Type 0
Hold [] = Unit {0}
Hold (c ∷ l) = Says c × Hold l

pub hold : (l : List Claim) → T (pass l) → Hold l
hold [] t = tt
hold (c ∷ l) t = (says c (both_left (test c) (pass l) t), hold l (both_right (test c) (pass l) t))

pub passed : (l : List Claim) → Hold l → T (pass l)
passed [] h = tt
passed (c ∷ l) h = both (test c) (pass l) (tested c h.0) (passed l h.1)

-- if a then b
unfoldable pub implies : Bool → Bool → Bool
implies true b = b
implies false b = true

pub apply : (a b : Bool) → T (implies a b) → T a → T b
unfolding implies
apply true b t s = t
apply false b t s = absurd s

-- ---- a test at every place: p holds below n
unfoldable pub below : ℕ → (ℕ → Bool) → Bool
below zero p = true
below (suc n) p = p n && below n p

pub at : (n : ℕ) (p : ℕ → Bool) → T (below n p) → (m : ℕ) → m < n → T (p m)
unfolding below
at zero p t m h = let z : ⊥ = omega arith in absurd z
at (suc n) p t m h = elim (dec_lt m n) [
  | yes k ↦ at n p (both_right (p n) (below n p) t) m k
  | no k ↦ (let q : n ≡ m = omega arith in rw q at (both_left (p n) (below n p) t))
]

-- claims at every k below m and d below n
unfoldable pub all : ℕ → ℕ → (ℕ → ℕ → List Claim) → Bool
all m n f = below m (λ k. below n (λ d. pass (f k d)))

pub each : (m n : ℕ) (f : ℕ → ℕ → List Claim) → T (all m n f) → (k d : ℕ) → k < m → d < n → Hold (f k d)
unfolding all
each m n f t k d h l = hold (f k d) (at n (λ d. pass (f k d)) (at m (λ k. below n (λ d. pass (f k d))) t k h) d l)
