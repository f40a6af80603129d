-- Tests at every number below a bound, part by part; and what a readable state's tests say of each of its entries.
use mathlib.Core.Path.{◌≡◌, refl, subst}
use mathlib.Core.Bool.{Bool, false, ◌&&◌}
use mathlib.Core.List.{List}
use Prim.Native.Nat.{ℕ, zero, suc, ◌+◌, ◌<◌, ◌≤◌}
use native.Mathlib.Omega.{arith}
use native.Mathlib.Decide.{dec_lt}
use native.Mathlib.Numerals.{add-one}
use lib.Dec.{T, ltb→lt, leb→le, lt→ltb, le→leb}
use lib.IntN.{ℤ, pos, negsuc, nat_abs}
use lib.Signed.{lt_z, le_z}
use Rattle.whole.proofs.Bools.{both_left, both_right, both, is_false}
use Rattle.tables.specs.Descent.{entry, child_at, flavor_at, readable_child, readable_flavor, readable_size, all_below, readable_state}

-- ---- p at 0, at 1, .. below n
module _ (p : ℕ → Bool) where
  pub below_at : (n : ℕ) → T (all_below p n) → (i : ℕ) → i < n → T (p i)
  below_at zero t i h = let none : ⊥ = omega arith in absurd none
  below_at (suc n) t i h = elim (dec_lt i n) [
    | yes k ↦ below_at n (both_left (all_below p n) (p n) t) i k
    | no k ↦ (let q : n ≡ i = omega arith in subst (λ j. T (p j)) q (both_right (all_below p n) (p n) t))
  ]

  pub below_by : (n : ℕ) → ((i : ℕ) → i < n → T (p i)) → T (all_below p n)
  below_by zero h = tt
  below_by (suc n) h = both (all_below p n) (p n) (below_by n (λ i l. h i (omega arith))) (h n (omega arith))

  pub below_next : (n : ℕ) → T (all_below p n) → T (p n) → T (all_below p (n + 1))
  below_next n t h = rw add-one (both (all_below p n) (p n) t h)

  pub below_fails : (n i : ℕ) → i < n → p i ≡ false → false ≡ all_below p n
  below_fails n i h e = is_false (all_below p n) (λ t. subst T e (below_at n t i h))

pub below_same : (p q : ℕ → Bool) (n : ℕ) → ((i : ℕ) → i < n → p i ≡ q i) → all_below p n ≡ all_below q n
below_same p q zero h = refl
below_same p q (suc n) h = rw (below_same p q n (λ i l. h i (omega arith)), h n (omega arith))

-- ---- an entry
pub child_readable : (n : ℕ) (z : ℤ) → T (readable_child n z) → (nat_abs z < n) × (pos (nat_abs z) ≡ z)
child_readable n (pos a) t = (ltb→lt a n (both_right (le_z (pos 0) (pos a)) (lt_z (pos a) (pos n)) t), refl)
child_readable n (negsuc a) t = absurd t

pub flavor_readable : (z : ℤ) → T (readable_flavor z) → (nat_abs z ≤ 3) × (pos (nat_abs z) ≡ z)
flavor_readable (pos a) t = (leb→le a 3 (both_right (le_z (pos 0) (pos a)) (le_z (pos a) (pos 3)) t), refl)
flavor_readable (negsuc a) t = absurd t

pub readable_child_lem : (n a : ℕ) → a < n → T (readable_child n (pos a))
readable_child_lem n a h = both (le_z (pos 0) (pos a)) (lt_z (pos a) (pos n)) (le→leb 0 a (omega arith)) (lt→ltb a n h)

pub readable_flavor_lem : (a : ℕ) → a < 4 → T (readable_flavor (pos a))
readable_flavor_lem a h = both (le_z (pos 0) (pos a)) (le_z (pos a) (pos 3)) (le→leb 0 a (omega arith)) (le→leb a 3 (omega arith))

-- ---- a state
pub record Readable (t : List ℤ) (states k : ℕ) : Type 0 where
  pub child : (d : ℕ) → d < 4 → T (readable_child states (child_at t k d))
  pub size : (j : ℕ) → j < 16 → T (readable_size (entry t k (4 + j)))
  pub flavor : (d : ℕ) → d < 4 → T (readable_flavor (flavor_at t k d))

module _ (t : List ℤ) (states k : ℕ) where
  abbrev children : ℕ → Bool
  children d = readable_child states (child_at t k d)

  abbrev sizes : ℕ → Bool
  sizes j = readable_size (entry t k (4 + j))

  abbrev flavors : ℕ → Bool
  flavors d = readable_flavor (flavor_at t k d)

  pub state_readable : T (readable_state t states k) → Readable t states k
  unfolding readable_state
  state_readable h =
      let c = both_left (all_below children 4 && all_below sizes 16) (all_below flavors 4) h in
      record {
        child = below_at children 4 (both_left (all_below children 4) (all_below sizes 16) c);
        size = below_at sizes 16 (both_right (all_below children 4) (all_below sizes 16) c);
        flavor = below_at flavors 4 (both_right (all_below children 4 && all_below sizes 16) (all_below flavors 4) h);
      }

  pub readable_state_lem : Readable t states k → T (readable_state t states k)
  unfolding readable_state
  readable_state_lem h =
      both (all_below children 4 && all_below sizes 16) (all_below flavors 4) (both (all_below children 4) (all_below sizes 16) (below_by children 4 h.child) (below_by sizes 16 h.size)) (below_by flavors 4 h.flavor)
