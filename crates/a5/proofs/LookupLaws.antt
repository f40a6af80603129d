-- The lookup by A5's table finds the place of every triple in bounds by one pick a level and one comparison more than its last digit, and at every pick every
-- separator's value is a multiple of 48 and not 0: level by level it is the lookup of the triple's spot, whatever the bits' threshold is from -47 to 48.
use mathlib.Core.Path.{◌≡◌, refl, sym, ap, ◌∙◌, subst}
use mathlib.Core.Bool.{true}
use mathlib.Core.List.{List, [], ◌∷◌}
use Prim.Native.Nat.{ℕ, zero, suc, ◌+◌, ◌*◌, ◌%◌, ◌^◌, ◌<◌}
use native.Mathlib.Omega.{arith}
use native.Mathlib.Nat as N
use lib.Dec.{T}
use lib.IntN.{ℤ}
use Rattle.whole.proofs.Digits.{two_power, twice_power, four_times_power}
use Rattle.whole.proofs.Claims.{Claim, eq, below, all, each}
use Rattle.triple.specs.declared.Triple.{Triple}
use Rattle.triple.specs.Triples.{is_in_bounds}
use Rattle.turtle.specs.declared.AB.{AB}
use Rattle.turtle.specs.Plane.{origin, ◌⊕◌, thrice, doubled}
use Rattle.turtle.specs.Corners.{corner_sum}
use Rattle.turtle.proofs.PlaneLaws.{⊕_idl, thrice_origin}
use Rattle.tables.specs.Descent.{entry, offset_at, sum_at, follow}
use Rattle.a5.specs.A5Table.{a5_table}
use Rattle.a5.specs.Lookup.{◌⊖◌, child_state, separator_value, chosen, Looks, one_picked, compared, lookup, AtPicks}
use Rattle.a5.specs.Inside.Spots.{Spot, In, parity, spot_at, walk}
use Rattle.a5.proofs.Finds.{back, coarse, pick, leaf_of, find}
use Rattle.a5.proofs.Places.{base, spot_sum, place, leaf_sum, place_step, follow_sum}
use Rattle.a5.proofs.Axioms.{⊖_left, ⊖_right, Axiom, first, shift, shape, axiom_in, corner_spot}
use Rattle.a5.proofs.FootprintChecks.{down, pick_in}
use Rattle.a5.proofs.FootprintLaws.{parity_is, coarse_ends, coarse_triangle, back_in, moved_back, leaf_found, walk_in}
use Rattle.a5.proofs.Once.{position}
use Rattle.a5.proofs.Separators.{Safe, Clear, chosen_pick, value_clear}

-- n picks, and one comparison more than the last digit of s
abbrev pub looks_at : ℕ → ℕ → Looks
looks_at n s = record { place = s; picks = n; comparisons = s % 4 + 1 }

-- ---- the leaf
abbrev Compared : ℕ → ℕ → List Claim
Compared k d =
    let l = compared 4 k 0 (sum_at a5_table k d) in
    eq l.place d ∷ eq l.picks 0 ∷ eq l.comparisons (d % 4 + 1) ∷ []

compared_all : T (all 28 4 Compared)
unfolding all below compared entry a5_table
compared_all = tt

looks_are : {l m : Looks} → l.place ≡ m.place → l.picks ≡ m.picks → l.comparisons ≡ m.comparisons → l ≡ m
looks_are a b c = λ i. record { place = a i; picks = b i; comparisons = c i }

leaf_compared : (k : ℕ) (p : Spot) → k < 28 → In (2 ^ 0) k p → compared 4 k 0 (place 0 k p) ≡ looks_at 0 (leaf_of k p)
unfolding place doubled
leaf_compared k p h i =
    let t = leaf_found k p h i in
    let d = leaf_of k p in
    let c = each 28 4 Compared compared_all k d h t.0 in
    ap (compared 4 k 0) (ap (λ q. spot_sum q ⊕ base k) t.1 ∙ sym (leaf_sum k d h t.0)) ∙ looks_are c.0 c.1.0 c.1.1.0

-- ---- a level above: what is known of a spot of the footprint
pub record Level (n k : ℕ) (p : Spot) : Type 0 where
  pub small : pick k (coarse (2 ^ n) p) < 4
  pub state : child_state k (pick k (coarse (2 ^ n) p)) < 28
  pub inner : In (2 ^ n) (child_state k (pick k (coarse (2 ^ n) p))) (back (2 ^ n) k (pick k (coarse (2 ^ n) p)) p)
  pub choose : (h : ℤ) → Safe h → chosen h n k (place (suc n) k p) ≡ pick k (coarse (2 ^ n) p)
  pub clear : (i : ℕ) → i < 3 → Clear (separator_value n k i (place (suc n) k p))
  pub next : (v : AB) → thrice v ⊕ place (suc n) k p
      ≡ thrice (v ⊕ doubled n (offset_at a5_table k (pick k (coarse (2 ^ n) p)))) ⊕ place n (child_state k (pick k (coarse (2 ^ n) p))) (back (2 ^ n) k (pick k (coarse (2 ^ n) p)) p)

pub level : (n k : ℕ) (p : Spot) → k < 28 → In (2 ^ suc n) k p → Level n k p
level n k p h i =
    let j = rw (twice_power n) at i in
    let q = parity (2 * 2 ^ n) k p in
    let e = parity_is (2 * 2 ^ n) k p j in
    let t = pick_in k h (coarse (2 ^ n) p) (coarse_ends (2 ^ n) k (two_power n) p j) (coarse_triangle (2 ^ n) k (two_power n) p j) in
    let d = pick k (coarse (2 ^ n) p) in
    let l : d < 4 = t.0 in
    record {
      small = l;
      state = (down k d h l).0;
      inner = back_in (2 ^ n) k d (two_power n) h l p t.1 j;
      choose = chosen_pick n k h p q e.1 e.0;
      clear = value_clear n k h p q e.1 e.0;
      next = λ v. sym (place_step n k d h l v (back (2 ^ n) k d p) ∙ ap (λ u. thrice v ⊕ place (suc n) k u) (moved_back (2 ^ n) k d (two_power n) h l p t.1));
    }

-- ---- all levels
last_digit : (n d m : ℕ) → (d * 4 ^ suc n + m) % 4 ≡ m % 4
last_digit n d m = rw (four_times_power n, N.mul_left_comm d 4 (4 ^ n)) (omega arith)

module _ (f : ℤ) (j : Safe f) where
  lookup_find : (n k : ℕ) (v : AB) (p : Spot) → k < 28 → In (2 ^ n) k p → lookup f n k v (thrice v ⊕ place n k p) ≡ looks_at n (find n k p)
  unfolding lookup find
  lookup_find zero k v p h i = ap (compared 4 k 0) (⊖_left (thrice v) (place 0 k p)) ∙ leaf_compared k p h i
  lookup_find (suc n) k v p h i =
      let a = level n k p h i in
      let d = pick k (coarse (2 ^ n) p) in
      let m = find n (child_state k d) (back (2 ^ n) k d p) in
      rw (⊖_left (thrice v) (place (suc n) k p), a.choose f j, a.next v)
      (ap (one_picked (d * 4 ^ suc n)) (lookup_find n (child_state k d) (v ⊕ doubled n (offset_at a5_table k d)) (back (2 ^ n) k d p) a.state a.inner)
      ∙ looks_are refl (omega arith) (ap (λ c. c + 1) (sym (last_digit n d m))))

  -- what holds of each spot of each footprint holds at each pick
  at_picks : (Holds : ℕ → ℕ → AB → Type 0) → ((n k : ℕ) (p : Spot) → k < 28 → In (2 ^ suc n) k p → Holds n k (place (suc n) k p))
      → (n k : ℕ) (v : AB) (p : Spot) → k < 28 → In (2 ^ n) k p → AtPicks Holds f n k v (thrice v ⊕ place n k p)
  unfolding AtPicks
  at_picks Holds all zero k v p h i = tt
  at_picks Holds all (suc n) k v p h i =
      let a = level n k p h i in
      let d = pick k (coarse (2 ^ n) p) in
      rw (⊖_left (thrice v) (place (suc n) k p), a.choose f j)
      (all n k p h i, rw (a.next v) (at_picks Holds all n (child_state k d) (v ⊕ doubled n (offset_at a5_table k d)) (back (2 ^ n) k d p) a.state a.inner))

-- what follows from it holds at each pick too
pub picks_map : {P Q : ℕ → ℕ → AB → Type 0} → ((n k : ℕ) (p : AB) → P n k p → Q n k p) → (f : ℤ) (n k : ℕ) (v p : AB) → AtPicks P f n k v p → AtPicks Q f n k v p
unfolding AtPicks
picks_map g f zero k v p a = tt
picks_map g f (suc n) k v p a = (g n k (p ⊖ thrice v) a.0, picks_map g f n _ _ p a.1)

-- ---- what holds at a pick
-- every separator's value is clear of 0
abbrev pub ClearPick : ℕ → ℕ → AB → Type 0
ClearPick n k p = (i : ℕ) → i < 3 → Clear (separator_value n k i p)

-- every safe threshold picks the same child
abbrev pub SamePick : ℕ → ℕ → AB → Type 0
SamePick n k p = (f g : ℤ) → Safe f → Safe g → chosen f n k p ≡ chosen g n k p

clear_pick : (n k : ℕ) (p : Spot) → k < 28 → In (2 ^ suc n) k p → ClearPick n k (place (suc n) k p)
clear_pick n k p h i = (level n k p h i).clear

same_pick : (n k : ℕ) (p : Spot) → k < 28 → In (2 ^ suc n) k p → SamePick n k (place (suc n) k p)
same_pick n k p h i = let a = level n k p h i in λ f g j l. a.choose f j ∙ sym (a.choose g l)

-- of each state: at every cell of its own curve
pub state_clear : (n k s : ℕ) → k < 28 → ClearPick n k (follow a5_table (suc n) origin k s).sum
state_clear n k s h =
    subst (ClearPick n k) (sym (follow_sum (suc n) origin k s h ∙ ap (λ v. v ⊕ place (suc n) k (walk (suc n) k s)) thrice_origin ∙ ⊕_idl _)) (clear_pick n k (walk (suc n) k s) h (walk_in (suc n) k s h))

-- ---- THE CLAIM, of a triple in bounds
module _ (x : Axiom) (n : ℕ) (t : Triple) (b : is_in_bounds (suc n) t ≡ true) where
  target : corner_sum t ⊖ shift x (suc n) ≡ thrice origin ⊕ place n (first x) (spot_at n t)
  target = ap (λ u. u ⊖ shift x (suc n)) (corner_spot x n t b) ∙ ⊖_right _ _ ∙ sym (ap (λ v. v ⊕ place n (first x) (spot_at n t)) thrice_origin ∙ ⊕_idl _)

  module _ (f : ℤ) (j : Safe f) where
    pub lookup_position : lookup f n (first x) origin (corner_sum t ⊖ shift x (suc n)) ≡ looks_at n (position x n t)
    unfolding position
    lookup_position = ap (lookup f n (first x) origin) target ∙ lookup_find f j n (first x) origin (spot_at n t) (shape x).is_state (axiom_in x n t b)

    pub lookup_picks : (Holds : ℕ → ℕ → AB → Type 0) → ((n k : ℕ) (p : Spot) → k < 28 → In (2 ^ suc n) k p → Holds n k (place (suc n) k p)) → AtPicks Holds f n (first x) origin (corner_sum t ⊖ shift x (suc n))
    lookup_picks Holds all = subst (AtPicks Holds f n (first x) origin) (sym target) (at_picks f j Holds all n (first x) origin (spot_at n t) (shape x).is_state (axiom_in x n t b))

    pub lookup_clear : AtPicks ClearPick f n (first x) origin (corner_sum t ⊖ shift x (suc n))
    lookup_clear = lookup_picks ClearPick clear_pick

    pub lookup_same : AtPicks SamePick f n (first x) origin (corner_sum t ⊖ shift x (suc n))
    lookup_same = lookup_picks SamePick same_pick
