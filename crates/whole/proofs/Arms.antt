-- A number that no arm of a match has, of arms 0, 1, .. below n, is n or above.
use mathlib.Core.Path.{◌≡◌}
use Prim.Native.Nat.{ℕ, zero, suc, ◌≤◌}
use native.Mathlib.Omega.{arith}

-- k is none of the numbers below n, in the form of a match's rest
abbrev pub NoArm : ℕ → ℕ → Type 0
NoArm k zero = Unit {0}
NoArm k (suc n) = NoArm k n × (k ≡ n → ⊥)

pub past : (n k : ℕ) → NoArm k n → n ≤ k
past zero k h = omega arith
past (suc n) k h = let i : n ≤ k = past n k h.0 in let j = h.1 in omega arith
