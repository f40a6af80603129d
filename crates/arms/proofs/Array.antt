-- A table that is an array, with 0 past its end; and the one test by which its numbers are those of a definition.
use mathlib.Core.Path.{◌≡◌, ap, ◌∙◌}
use mathlib.Core.Bool.{Bool, true, ◌&&◌}
use mathlib.Core.List.{List, [], ◌∷◌}
use Prim.Native.Nat.{ℕ, zero, suc, ◌+◌, ◌≤◌}
use native.Mathlib.Omega.{arith}
use lib.Dec.{T, eqb, eqb→eq}
use lib.ListN.{length, get_or}
use Rattle.whole.proofs.Bools.{both_left, both_right}

-- the test: each number is that which f has at its place, the first of them at k
unfoldable pub holds : (ℕ → ℕ) → ℕ → List ℕ → Bool
holds f k [] = true
holds f k (e ∷ table) = eqb e (f k) && holds f (suc k) table

held_from : (f : ℕ → ℕ) (k : ℕ) (table : List ℕ) → T (holds f k table) → ((j : ℕ) → k + length table ≤ j → 0 ≡ f j) → (j : ℕ) → get_or table j 0 ≡ f (k + j)
unfolding holds
held_from f k [] t past j = past (k + j) (omega arith)
held_from f k (e ∷ table) t past zero = let z : k ≡ k + 0 = omega arith in eqb→eq e (f k) (both_left (eqb e (f k)) (holds f (suc k) table) t) ∙ ap f z
held_from f k (e ∷ table) t past (suc j) =
    let z : suc k + j ≡ k + suc j = omega arith in
    held_from f (suc k) table (both_right (eqb e (f k)) (holds f (suc k) table) t) (λ i h. past i (omega arith)) j ∙ ap f z

pub held : (f : ℕ → ℕ) (table : List ℕ) → T (holds f 0 table) → ((j : ℕ) → length table ≤ j → 0 ≡ f j) → (i : ℕ) → get_or table i 0 ≡ f i
held f table t past i = let z : 0 + i ≡ i = omega arith in held_from f 0 table t (λ j h. past j (omega arith)) i ∙ ap f z
