-- How changes are told: how many lines each has, and which.
use mathlib.Core.Path.{◌≡◌, refl, ap}
use mathlib.Core.List.{List, [], ◌∷◌}
use Prim.Native.Nat.{ℕ, zero, suc, ◌<◌, ◌≤◌}
use native.Mathlib.Omega.{arith}
use lib.ListN.{length, get_or}
use Rattle.mend.specs.declared.Change.{Change}
use Rattle.mend.specs.declared.Change.TheVariants.{Kept, Spare, Turned, Both, Dropped}
use Rattle.mend.specs.Mends.{tellings, lines_at}

pub lines_count : (at : ℕ) (changes : List Change) → length (lines_at at changes) ≡ length changes
lines_count at [] = refl
lines_count at (c ∷ changes) = ap suc (lines_count at changes)

pub few_lines : (c : Change) → length (tellings c) ≤ 2
unfolding tellings
few_lines Kept = omega arith
few_lines Spare = omega arith
few_lines Turned = omega arith
few_lines Both = omega arith
few_lines Dropped = omega arith

-- ---- as the code counts them
module _ {c : Change} where
  pub kept_lines : c ≡ Kept → 0 ≡ length (tellings c)
  unfolding tellings
  kept_lines e = rw e

  pub spare_lines : c ≡ Spare → 1 ≡ length (tellings c)
  unfolding tellings
  spare_lines e = rw e

  pub turned_lines : c ≡ Turned → 1 ≡ length (tellings c)
  unfolding tellings
  turned_lines e = rw e

  pub both_lines : c ≡ Both → 2 ≡ length (tellings c)
  unfolding tellings
  both_lines e = rw e

  pub dropped_lines : c ≡ Dropped → 1 ≡ length (tellings c)
  unfolding tellings
  dropped_lines e = rw e

pub ruleset counting_lines = (kept_lines, spare_lines, turned_lines, both_lines, dropped_lines)

-- ---- line by line
past : (changes : List Change) (k : ℕ) → length changes ≤ k → Kept ≡ get_or changes k Kept
past [] k h = refl
past (c ∷ changes) zero h = let z : ⊥ = omega arith in absurd z
past (c ∷ changes) (suc k) h = past changes k (omega arith)

module _ (c : Change) (k : ℕ) {n : ℕ} (n_is : n ≡ length (tellings c)) where
  pub no_line : n ≤ k → Kept ≡ get_or (tellings c) k Kept
  no_line h = past (tellings c) k (omega arith)

  pub second_line : k < n → 0 < k → Turned ≡ get_or (tellings c) k Kept
  unfolding tellings
  second_line below more = go c k (omega arith) more
    where
      go : (c : Change) (k : ℕ) → k < length (tellings c) → 0 < k → Turned ≡ get_or (tellings c) k Kept
      go c zero h m = let z : ⊥ = omega arith in absurd z
      go Kept (suc k) h m = let z : ⊥ = omega arith in absurd z
      go Spare (suc k) h m = let z : ⊥ = omega arith in absurd z
      go Turned (suc k) h m = let z : ⊥ = omega arith in absurd z
      go Both (suc zero) h m = refl
      go Both (suc (suc k)) h m = let z : ⊥ = omega arith in absurd z
      go Dropped (suc k) h m = let z : ⊥ = omega arith in absurd z

-- the first line of each
is_first : (k : ℕ) → k ≤ 0 → k ≡ 0
is_first k h = omega arith

module _ {c : Change} (k : ℕ) (first : k ≤ 0) where
  pub first_none : c ≡ Kept → Kept ≡ get_or (tellings c) k Kept
  unfolding tellings
  first_none e = rw (is_first k first, e)

  pub first_spare : c ≡ Spare → Spare ≡ get_or (tellings c) k Kept
  unfolding tellings
  first_spare e = rw (is_first k first, e)

  pub first_turned : c ≡ Turned → Turned ≡ get_or (tellings c) k Kept
  unfolding tellings
  first_turned e = rw (is_first k first, e)

  pub first_both : c ≡ Both → Spare ≡ get_or (tellings c) k Kept
  unfolding tellings
  first_both e = rw (is_first k first, e)

  pub first_dropped : c ≡ Dropped → Dropped ≡ get_or (tellings c) k Kept
  unfolding tellings
  first_dropped e = rw (is_first k first, e)

pub ruleset telling_lines = (no_line, second_line, first_none, first_spare, first_turned, first_both, first_dropped)
