-- The orientations: their recipes by computation, and places counted from either end.
use mathlib.Core.Path.{◌≡◌, refl, ap, ◌∙◌}
use mathlib.Core.Bool.{Bool, true, false, cond}
use Prim.Native.Nat.{ℕ, zero, suc, ◌-◌, ◌*◌, ◌/◌, ◌%◌, ◌^◌, ◌<◌, ◌≤◌}
use native.Mathlib.Omega.{arith}
use borrow.Author.Tests.{lt-leb, ne_eqb}
use lib.Dec.{leb, eqb, ltb}
use mir.Syntax.{w64}
use mir.Val.{Fits}
use Rattle.triple.specs.declared.orientation.Recipe.{Recipe}
use Rattle.triple.specs.Domain.{position_count}
use Rattle.triple.specs.Orientations.{axiom_motif, is_backward, is_shifted, recipe_of, place_from, curve_place}
use Rattle.triple.proofs.DomainLaws.{positions_are}

-- what holds of each orientation
pub six : (P : ℕ → Type 0) → P 0 → P 1 → P 2 → P 3 → P 4 → P 5 → (o : ℕ) → o ≤ 5 → P o
six P a b c d e f zero h = a
six P a b c d e f (suc zero) h = b
six P a b c d e f (suc (suc zero)) h = c
six P a b c d e f (suc (suc (suc zero))) h = d
six P a b c d e f (suc (suc (suc (suc zero)))) h = e
six P a b c d e f (suc (suc (suc (suc (suc zero))))) h = f
six P a b c d e f (suc (suc (suc (suc (suc (suc o)))))) h = absurd (beyond o h)
  where
    beyond : (o : ℕ) → suc (suc (suc (suc (suc (suc o))))) ≤ 5 → ⊥
    beyond o h = omega arith

-- ---- recipes
abbrev recipe : ℕ → Bool → Bool → Recipe
recipe m b s = record { motif = m; backward = b; shifted = s }

pub recipe_read : (o : ℕ) → o ≤ 5 → recipe (1440 / 2 ^ (2 * o) % 4) (eqb (26 / 2 ^ o % 2) 1) (ltb 3 o) ≡ recipe_of o
unfolding axiom_motif is_backward is_shifted recipe_of
recipe_read = six (λ o. recipe (1440 / 2 ^ (2 * o) % 4) (eqb (26 / 2 ^ o % 2) 1) (ltb 3 o) ≡ recipe_of o) refl refl refl refl refl refl

pub recipe_past : (o : ℕ) → 5 < o → recipe 1 false false ≡ recipe_of o
unfolding axiom_motif is_backward is_shifted recipe_of
recipe_past o h =
    let other : (k : ℕ) → k < 6 → eqb o k ≡ false = λ k l. ne_eqb o k (λ e. omega arith) in
    simp (lt-leb o 1 (omega arith), lt-leb o 3 (omega arith), other 1 (omega arith), other 3 (omega arith), other 4 (omega arith), other 5 (omega arith))

pub ruleset recipes = (recipe_read, recipe_past)

pub motif_small : (o : ℕ) → axiom_motif o < 3
unfolding axiom_motif
motif_small o = go (leb o 1) (leb o 3)
  where
    go : (a b : Bool) → cond a 0 (cond b 2 1) < 3
    go true b = omega arith
    go false true = omega arith
    go false false = omega arith

-- ---- places from either end
module _ (backward : Bool) (n place : ℕ) where
  pub place_forward : backward ≡ false → place ≡ place_from backward n place
  unfolding place_from
  place_forward h = rw h

  pub place_backward : backward ≡ true → {p : ℕ} → p ≡ n - 1 - place → p ≡ place_from backward n place
  unfolding place_from
  place_backward h e = rw h e

  pub place_below : place < n → place_from backward n place < n
  unfolding place_from
  place_below h = go backward
    where
      go : (b : Bool) → cond b (n - 1 - place) place < n
      go true = omega arith
      go false = h

  -- there and back
  pub place_twice : place < n → place_from backward n (place_from backward n place) ≡ place
  unfolding place_from
  place_twice h = go backward
    where
      go : (b : Bool) → cond b (n - 1 - cond b (n - 1 - place) place) (cond b (n - 1 - place) place) ≡ place
      go true = omega arith
      go false = refl

pub ruleset places = (place_forward, place_backward)

pub place_small : (o r s : ℕ) → s < 4 ^ r → curve_place o r s < 4 ^ r
unfolding curve_place
place_small o r s h = place_below (is_backward o) (4 ^ r) s h

pub place_place : (o r s : ℕ) → s < 4 ^ r → curve_place o r (curve_place o r s) ≡ s
unfolding curve_place
place_place o r s h = place_twice (is_backward o) (4 ^ r) s h

-- ---- of a recipe that a call gives
module _ (o : ℕ) {w : Recipe} (ew : w ≡ recipe_of o) where
  pub motif_fits : Fits w64 (2 * w.motif)
  unfolding recipe_of
  motif_fits = record { fits = omega (arith, ap (λ (w : Recipe). w.motif) ew, motif_small o) }

  pub place_is : (r s : ℕ) → r ≤ 30 → {n : ℕ} → n ≡ position_count r → {p : ℕ} → p ≡ place_from w.backward n s → p ≡ curve_place o r s
  unfolding recipe_of curve_place
  place_is r s h en ep = ep ∙ λ i. place_from (ew i).backward (positions_are r h en i) s
