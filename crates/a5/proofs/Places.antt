-- The descent over A5's table is the walk: a spot has one corner sum, that of its place in the plane, and at each level the table's offsets lead from where a
-- footprint begins to where the child's does, as computed. So with the flavors.
use mathlib.Core.Path.{◌≡◌, ap, ◌∙◌}
use mathlib.Core.List.{List, [], ◌∷◌}
use Prim.Native.Nat.{ℕ, zero, suc, ◌+◌, ◌*◌, ◌/◌, ◌%◌, ◌^◌, ◌<◌}
use native.Mathlib.Omega.{arith}
use lib.Dec.{T}
use lib.IntN.{pos, ◌+ℤ◌, ◌-ℤ◌}
use Rattle.whole.proofs.View.{view, eq_by}
use Rattle.whole.proofs.Claims.{Claim, int, Hold, below, all, each}
use Rattle.turtle.specs.declared.AB.{AB}
use Rattle.turtle.specs.Plane.{ab, ◌⊕◌, thrice, doubled}
use Rattle.turtle.proofs.PlaneLaws.{sums, thrice_⊕}
use Rattle.turtle.proofs.ScaleLaws.{doubled_a, doubled_b, doubled_⊕, doubled_thrice}
use Rattle.turtle.proofs.CornerLaws.{pair_is}
use Rattle.tables.specs.Descent.{entry, offset_at, sum_at, flavor_at, follow}
use Rattle.a5.specs.A5Table.{a5_table}
use Rattle.a5.specs.Lookup.{child_state}
use Rattle.a5.specs.Inside.Footprints.{before_x, before_y, before_g, skew, begins, at_x, at_y, at_g, leaf_x, leaf_y, leaf_g, leaf_flavor}
use Rattle.a5.specs.Inside.Spots.{Spot, moved, leaf, walk, walk_flavor}
use Rattle.a5.proofs.FootprintChecks.{down}

-- what the footprint's beginning adds to a spot's own corner sum, at the scale 1
unfoldable pub base : ℕ → AB
base k = ab (pos (4 * skew k) -ℤ pos (12 * before_y k)) (pos (4 * skew k) -ℤ pos (12 * before_x k))

-- the corner sum of a spot, where the footprint begins at the spot 0, 0, 0
unfoldable pub spot_sum : Spot → AB
spot_sum p = ab (pos (8 * p.y + 4 * p.g + 4) -ℤ pos (4 * p.x)) (pos (8 * p.x + 4 * p.g + 4) -ℤ pos (4 * p.y))

-- that of a spot of the state k, n levels above the leaf, as seen from the state's start
unfoldable pub place : ℕ → ℕ → Spot → AB
place n k p = spot_sum p ⊕ doubled n (base k)

-- what lies between the beginning of a footprint and that of its child's
unfoldable pub start_sum : ℕ → ℕ → AB
start_sum k d = ab (pos (8 * at_y k d + 4 * at_g k d) -ℤ pos (4 * at_x k d)) (pos (8 * at_x k d + 4 * at_g k d) -ℤ pos (4 * at_y k d))

-- ---- what is computed of the table
abbrev pub alike : AB → AB → List Claim → List Claim
alike p q l = int p.a q.a ∷ int p.b q.b ∷ l

abbrev Placed : ℕ → ℕ → List Claim
Placed k d =
    alike (sum_at a5_table k d) (spot_sum (leaf k d) ⊕ base k)
    (alike (thrice (offset_at a5_table k d) ⊕ base (child_state k d)) (start_sum k d ⊕ (base k ⊕ base k))
    (int (flavor_at a5_table k d) (pos (leaf_flavor k d)) ∷ []))

placed_all : T (all 28 4 Placed)
unfolding all below spot_sum start_sum before_x before_y before_g skew base begins at_x at_y at_g leaf leaf_x leaf_y leaf_g leaf_flavor thrice ◌⊕◌ entry a5_table
placed_all = tt

module _ (k d : ℕ) (h : k < 28) (l : d < 4) where
  placed : Hold (Placed k d)
  placed = each 28 4 Placed placed_all k d h l

  pub leaf_sum : sum_at a5_table k d ≡ spot_sum (leaf k d) ⊕ base k
  leaf_sum = pair_is placed.0 placed.1.0

  pub offset_start : thrice (offset_at a5_table k d) ⊕ base (child_state k d) ≡ start_sum k d ⊕ (base k ⊕ base k)
  offset_start = pair_is placed.1.1.0 placed.1.1.1.0

  pub leaf_flavor_lem : flavor_at a5_table k d ≡ pos (leaf_flavor k d)
  leaf_flavor_lem = placed.1.1.1.1.0

-- ---- a step down
module _ (n k d : ℕ) (q : Spot) where
  moved_a : (spot_sum (moved (2 ^ n) k d q)).a ≡ (spot_sum q).a +ℤ (doubled n (start_sum k d)).a
  unfolding spot_sum moved start_sum
  moved_a = rw (doubled_a n (start_sum k d)) (eq_by (search view depth 9) (search view depth 9) tt (omega arith))

  moved_b : (spot_sum (moved (2 ^ n) k d q)).b ≡ (spot_sum q).b +ℤ (doubled n (start_sum k d)).b
  unfolding spot_sum moved start_sum
  moved_b = rw (doubled_b n (start_sum k d)) (eq_by (search view depth 9) (search view depth 9) tt (omega arith))

  moved_sum : spot_sum (moved (2 ^ n) k d q) ≡ spot_sum q ⊕ doubled n (start_sum k d)
  unfolding ◌⊕◌
  moved_sum = pair_is moved_a moved_b

gathered : (v t s b : AB) → (v ⊕ t) ⊕ (s ⊕ b) ≡ v ⊕ (s ⊕ (t ⊕ b))
gathered v t s b = simp sums

spread : (v e s b : AB) → v ⊕ (s ⊕ (e ⊕ (b ⊕ b))) ≡ v ⊕ ((s ⊕ e) ⊕ (b ⊕ b))
spread v e s b = simp sums

module _ (n k d : ℕ) (h : k < 28) (l : d < 4) where
  start_doubled : thrice (doubled n (offset_at a5_table k d)) ⊕ doubled n (base (child_state k d)) ≡ doubled n (start_sum k d) ⊕ (doubled n (base k) ⊕ doubled n (base k))
  start_doubled =
      let o = offset_at a5_table k d in
      rw (← (doubled_thrice n o), ← (doubled_⊕ n (thrice o) (base (child_state k d))))
      (ap (doubled n) (offset_start k d h l) ∙ doubled_⊕ n _ _ ∙ ap (λ u. doubled n (start_sum k d) ⊕ u) (doubled_⊕ n _ _))

  pub place_step : (v : AB) (q : Spot) → thrice (v ⊕ doubled n (offset_at a5_table k d)) ⊕ place n (child_state k d) q ≡ thrice v ⊕ place (suc n) k (moved (2 ^ n) k d q)
  unfolding place doubled
  place_step v q = rw (thrice_⊕, gathered, start_doubled, moved_sum) (spread _ _ _ _)

-- ---- the descent is the walk
pub follow_sum : (n : ℕ) (v : AB) (k s : ℕ) → k < 28 → (follow a5_table n v k s).sum ≡ thrice v ⊕ place n k (walk n k s)
unfolding follow walk place doubled
follow_sum zero v k s h = ap (λ u. thrice v ⊕ u) (leaf_sum k (s % 4) h (omega arith))
follow_sum (suc n) v k s h =
    let d = s / 4 ^ suc n % 4 in
    let l : d < 4 = omega arith in
    follow_sum n (v ⊕ doubled n (offset_at a5_table k d)) (child_state k d) s (down k d h l).0 ∙ place_step n k d h l v (walk n (child_state k d) s)

pub follow_flavor : (n : ℕ) (v : AB) (k s : ℕ) → k < 28 → (follow a5_table n v k s).flavor ≡ pos (walk_flavor n k s)
unfolding follow walk_flavor
follow_flavor zero v k s h = leaf_flavor_lem k (s % 4) h (omega arith)
follow_flavor (suc n) v k s h =
    let d = s / 4 ^ suc n % 4 in
    let l : d < 4 = omega arith in
    follow_flavor n (v ⊕ doubled n (offset_at a5_table k d)) (child_state k d) s (down k d h l).0
