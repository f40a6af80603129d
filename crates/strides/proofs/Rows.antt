-- The rows of a walk: each is a state of A5 or stands above one, and leads to rows before it. A footprint reaches no further than twice as far as that which it is a
-- child of, and so three levels reach no further than the bits of an entry.
use mathlib.Core.Path.{◌≡◌, refl, ap, ◌∙◌}
use mathlib.Core.Bool.{Bool, true, false, cond}
use mathlib.Core.List.{[], ◌∷◌}
use Prim.Native.Nat.{ℕ, zero, suc, ◌+◌, ◌-◌, ◌*◌, ◌/◌, ◌%◌, ◌<◌, ◌≤◌}
use native.Mathlib.Omega.{arith}
use native.Mathlib.Decide.{dec_lt}
use borrow.Author.Tests.{lt-ltb, le-ltb}
use lib.Dec.{eqb}
use lib.ListN.{get_or}
use Rattle.a5.specs.Lookup.{child_state}
use Rattle.a5.specs.Inside.Footprints.{before_x, before_y, before_g, skew, wide_x, wide_y, at_x, at_y}
use Rattle.a5.proofs.FootprintChecks.{down as down_all, own}
use Rattle.strides.specs.declared.Walk.{Walk}
use Rattle.strides.specs.Walks.{state_in, row_below, begin_x, begin_y, on_row_of, down, at_leaf, three_down, end_below}

-- ---- rows
pub state_of : (k : ℕ) → k < 28 → state_in k ≡ k
unfolding state_in
state_of k h = rw (lt-ltb k 28 h)

pub axiom_of : (k : ℕ) → 28 ≤ k → state_in k ≡ get_or (0 ∷ 4 ∷ 2 ∷ []) (k - 28) 0
unfolding state_in
axiom_of k h = rw (le-ltb k 28 h)

axiom_small : (j : ℕ) → get_or (0 ∷ 4 ∷ 2 ∷ []) j 0 < 28
axiom_small zero = omega arith
axiom_small (suc zero) = omega arith
axiom_small (suc (suc zero)) = omega arith
axiom_small (suc (suc (suc j))) = omega arith

pub state_small : (k : ℕ) → state_in k < 28
state_small k = elim (dec_lt k 28) [
  | yes h ↦ omega (arith, state_of k h)
  | no h ↦ omega (arith, axiom_of k (omega arith), axiom_small (k - 28))
]

module _ (k d : ℕ) (h : k < 31) where
  pub in_row : row_below k d ≡ child_state (state_in k) d
  unfolding row_below
  in_row = rw (lt-ltb k 31 h)

  pub in_x : begin_x k d ≡ at_x (state_in k) d
  unfolding begin_x
  in_x = rw (lt-ltb k 31 h)

  pub in_y : begin_y k d ≡ at_y (state_in k) d
  unfolding begin_y
  in_y = rw (lt-ltb k 31 h)

module _ (k d : ℕ) (h : 31 ≤ k) where
  pub above_row : row_below k d ≡ k - 3
  unfolding row_below
  above_row = rw (le-ltb k 31 h)

  pub above_x : begin_x k d ≡ 0
  unfolding begin_x
  above_x = rw (le-ltb k 31 h)

  pub above_y : begin_y k d ≡ 0
  unfolding begin_y
  above_y = rw (le-ltb k 31 h)

pub child_small : (k d : ℕ) → d < 4 → child_state (state_in k) d < 28
child_small k d l = (down_all (state_in k) d (state_small k) l).0

row_small : (m k d : ℕ) → k < 31 + 3 * m → d < 4 → row_below k d < 28 + 3 * m
row_small m k d h l = elim (dec_lt k 31) [
  | yes i ↦ omega (arith, in_row k d i, child_small k d l)
  | no i ↦ omega (arith, above_row k d (omega arith))
]

-- ---- widths
wide_first : (j : ℕ) → (wide_x (get_or (0 ∷ 4 ∷ 2 ∷ []) j 0) ≡ 2) × (wide_y (get_or (0 ∷ 4 ∷ 2 ∷ []) j 0) ≡ 2)
unfolding wide_x wide_y skew before_x before_y before_g
wide_first zero = (refl, refl)
wide_first (suc zero) = (refl, refl)
wide_first (suc (suc zero)) = (refl, refl)
wide_first (suc (suc (suc j))) = (refl, refl)

wide_axiom : (k : ℕ) → 28 ≤ k → (wide_x (state_in k) ≡ 2) × (wide_y (state_in k) ≡ 2)
wide_axiom k h = let w = wide_first (k - 28) in (ap wide_x (axiom_of k h) ∙ w.0, ap wide_y (axiom_of k h) ∙ w.1)

begin_x_lem : (k d : ℕ) → d < 4 → begin_x k d + wide_x (state_in (row_below k d)) ≤ 2 * wide_x (state_in k)
begin_x_lem k d l = elim (dec_lt k 31) [
  | yes i ↦
      let e = ap wide_x (ap state_in (in_row k d i) ∙ state_of _ (child_small k d l)) in
      omega (arith, in_x k d i, e, (down_all (state_in k) d (state_small k) l).1.0)
  | no i ↦
      let r = above_row k d (omega arith) in
      omega (arith, above_x k d (omega arith), (wide_axiom k (omega arith)).0, (wide_axiom (row_below k d) (omega arith)).0)
]

begin_y_lem : (k d : ℕ) → d < 4 → begin_y k d + wide_y (state_in (row_below k d)) ≤ 2 * wide_y (state_in k)
begin_y_lem k d l = elim (dec_lt k 31) [
  | yes i ↦
      let e = ap wide_y (ap state_in (in_row k d i) ∙ state_of _ (child_small k d l)) in
      omega (arith, in_y k d i, e, (down_all (state_in k) d (state_small k) l).1.1.0)
  | no i ↦
      let r = above_row k d (omega arith) in
      omega (arith, above_y k d (omega arith), (wide_axiom k (omega arith)).1, (wide_axiom (row_below k d) (omega arith)).1)
]

-- ---- a level down
pub rowed : (m : ℕ) → 64 * m / 64 ≡ m
rowed m = omega arith

-- how far a footprint reaches
abbrev reach_x : Walk → ℕ
reach_x w = w.x + wide_x (state_in (w.row / 64))

abbrev reach_y : Walk → ℕ
reach_y w = w.y + wide_y (state_in (w.row / 64))

module _ (w : Walk) (d : ℕ) (l : d < 4) where
  down_x : reach_x (down w d) ≤ 2 * reach_x w
  unfolding down
  down_x = omega (arith, ap (λ m. wide_x (state_in m)) (rowed (row_below (w.row / 64) d)), begin_x_lem (w.row / 64) d l)

  down_y : reach_y (down w d) ≤ 2 * reach_y w
  unfolding down
  down_y = omega (arith, ap (λ m. wide_y (state_in m)) (rowed (row_below (w.row / 64) d)), begin_y_lem (w.row / 64) d l)

  down_row : (m : ℕ) → w.row / 64 < 31 + 3 * m → (down w d).row / 64 < 28 + 3 * m
  unfolding down
  down_row m h = omega (arith, rowed (row_below (w.row / 64) d), row_small m (w.row / 64) d h l)

-- ---- three levels
one_or : (b : Bool) → (0 < cond b 1 2) × ((cond b 1 2 ≤ 2) × ((0 < cond b 3 2) × (cond b 3 2 ≤ 3)))
one_or true = (omega arith, (omega arith, (omega arith, omega arith)))
one_or false = (omega arith, (omega arith, (omega arith, omega arith)))

wide_small : (k : ℕ) → (0 < wide_x k) × ((wide_x k ≤ 2) × ((0 < wide_y k) × (wide_y k ≤ 3)))
unfolding wide_x wide_y
wide_small k = one_or (eqb (skew k) 1)

digit_of : (c : ℕ) → c < 64 → c / 16 < 4
digit_of c h = omega arith

module _ (k c : ℕ) (h : k < 37) (l : c < 64) where
  pub three_x : (three_down (on_row_of k) c).x < 16
  unfolding three_down
  three_x =
      let a = down (on_row_of k) (c / 16) in
      let b = down a (c / 4 % 4) in
      let r = down b (c % 4) in
      omega (
        arith,
        down_x (on_row_of k) (c / 16) (digit_of c l),
        down_x a (c / 4 % 4) (omega arith),
        down_x b (c % 4) (omega arith),
        (wide_small (state_in (64 * k / 64))).1.0,
        (wide_small (state_in (r.row / 64))).0,
      )

  pub three_y : (three_down (on_row_of k) c).y < 32
  unfolding three_down
  three_y =
      let a = down (on_row_of k) (c / 16) in
      let b = down a (c / 4 % 4) in
      let r = down b (c % 4) in
      omega (
        arith,
        down_y (on_row_of k) (c / 16) (digit_of c l),
        down_y a (c / 4 % 4) (omega arith),
        down_y b (c % 4) (omega arith),
        (wide_small (state_in (64 * k / 64))).1.1.1,
        (wide_small (state_in (r.row / 64))).1.1.0,
      )

  pub three_row : (three_down (on_row_of k) c).row / 64 < 28
  unfolding three_down
  three_row =
      let a = down (on_row_of k) (c / 16) in
      let b = down a (c / 4 % 4) in
      let i = down_row (on_row_of k) (c / 16) (digit_of c l) 2 (omega (arith, rowed k)) in
      let j = down_row a (c / 4 % 4) (omega arith) 1 i in
      down_row b (c % 4) (omega arith) 0 j

pub three_whole : (w : Walk) (c : ℕ) → 64 * ((three_down w c).row / 64) ≡ (three_down w c).row
unfolding three_down down
three_whole w c = omega arith

-- ---- two, and the leaf
module _ (k c : ℕ) (l : c < 64) where
  pub end_x : (end_below (on_row_of k) c).x < 16
  unfolding end_below at_leaf
  end_x =
      let a = down (on_row_of k) (c / 16) in
      let b = down a (c / 4 % 4) in
      omega (
        arith,
        down_x (on_row_of k) (c / 16) (digit_of c l),
        down_x a (c / 4 % 4) (omega arith),
        (own (state_in (b.row / 64)) (c % 4) (state_small (b.row / 64)) (omega arith)).1.0,
        (wide_small (state_in (64 * k / 64))).1.0,
      )

  pub end_y : (end_below (on_row_of k) c).y < 32
  unfolding end_below at_leaf
  end_y =
      let a = down (on_row_of k) (c / 16) in
      let b = down a (c / 4 % 4) in
      omega (
        arith,
        down_y (on_row_of k) (c / 16) (digit_of c l),
        down_y a (c / 4 % 4) (omega arith),
        (own (state_in (b.row / 64)) (c % 4) (state_small (b.row / 64)) (omega arith)).1.1.0,
        (wide_small (state_in (64 * k / 64))).1.1.1,
      )
