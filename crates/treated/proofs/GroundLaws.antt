-- Two cells of a curve overlap, one equal to the other or containing it, exactly where neither ends before the other starts: their grounds are whole
-- blocks of positions, of which the smaller lies in the larger or beside it. Then they have a position of resolution 30 in common.
use mathlib.Core.Path.{◌≡◌, refl, sym, ap, ◌∙◌}
use mathlib.Core.Logic.{◌↔◌, ◌⊎◌, inl, inr, ⊎_elim}
use mathlib.Core.Bool.{Bool, true, false, ◌||◌, false≢true}
use Prim.Native.Nat.{ℕ, suc, ◌+◌, ◌-◌, ◌*◌, ◌/◌, ◌%◌, ◌^◌, ◌<◌, ◌≤◌}
use native.Mathlib.Nat as N
use native.Mathlib.Numerals.{add-one}
use native.Mathlib.Decide.{dec_le}
use native.Mathlib.Omega.{arith}
use lib.Dec.{ltb, leb}
use lib.Pow.{shl_exact, pow-add, pow-lt}
use mir.Syntax.{w64}
use mir.Val.{Fits}
use borrow.Author.Tests.{lt-ltb, le-leb, eq-eqb, ltb-true, leb-true, eqb-true}
use Rattle.whole.proofs.Bools.{both_true}
use Rattle.whole.proofs.Digits.{four_power}
use Rattle.whole.proofs.Powers.{four_by_shift}
use Rattle.code.specs.declared.Reading.{Reading}
use Rattle.treated.specs.Treated.{contains}
use Rattle.treated.specs.Inside.Grounds.{beginning, start_of, end_of, ground_of, meets}

-- ---- where a position begins
pub begins_at : (r s : ℕ) → r ≤ 30 → s ≤ 4 ^ r → s * 2 ^ (2 * (30 - r)) % 18446744073709551616 ≡ beginning r s
unfolding beginning
begins_at r s shallow small =
    let l : s < 2 ^ suc (2 * r) = N.lt_of_le_of_lt small (rw (← four_by_shift r) (pow-lt (N.le_refl _))) in
    shl_exact (suc (2 * r)) (2 * (30 - r)) 64 l (omega arith) ∙ ap (λ (m : ℕ). s * m) (four_by_shift (30 - r))

-- the one behind a position is still a number of 64 bits
pub behind_fits : (r s : ℕ) → r ≤ 30 → s < 4 ^ r → Fits w64 (s + 1)
behind_fits r s shallow small =
    let l : 4 ^ r ≤ 4 ^ 30 = N.pow-le-pow_right (omega arith) shallow in
    record { fits = omega arith }

pub ruleset beginnings = (begins_at, behind_fits)

-- ---- blocks: of q, k levels below p and d above the last, and of p
module _ (k d p q : ℕ) where
  larger : 4 ^ (k + d) ≡ 4 ^ k * 4 ^ d
  larger = pow-add 4 k d

  block_meets : q / 4 ^ k ≡ p → (p * 4 ^ (k + d) < suc q * 4 ^ d) × (q * 4 ^ d < suc p * 4 ^ (k + d))
  block_meets e =
      let below : p * 4 ^ k ≤ q = rw (← e) (N.div-mul-le_self q (4 ^ k)) in
      let least : p * 4 ^ k < suc q = omega arith in
      let most : q < suc p * 4 ^ k = (N.div-lt_iff_lt-mul (four_power k)).0 (rw e (N.le_refl (suc p))) in
      rw (larger, ← N.mul_assoc p (4 ^ k) (4 ^ d), ← N.mul_assoc (suc p) (4 ^ k) (4 ^ d))
      (N.mul-lt-mul_of_pos_right least (four_power d), N.mul-lt-mul_of_pos_right most (four_power d))

  meets_block : p * 4 ^ (k + d) < suc q * 4 ^ d → q * 4 ^ d < suc p * 4 ^ (k + d) → q / 4 ^ k ≡ p
  meets_block h l =
      let least : p * 4 ^ k < suc q = N.lt_of_mul-lt-mul_right (4 ^ d) (rw (larger, ← N.mul_assoc p (4 ^ k) (4 ^ d)) at h) in
      let most : q < suc p * 4 ^ k = N.lt_of_mul-lt-mul_right (4 ^ d) (rw (larger, ← N.mul_assoc (suc p) (4 ^ k) (4 ^ d)) at l) in
      N.div-eq_of_lt-le (4 ^ k) (omega arith) (rw add-one most)

-- ---- cells
abbrev pub Meets : Reading → Reading → Type 0
Meets x y = (start_of x < end_of y) × (start_of y < end_of x)

module _ (x y : Reading) (order : x.resolution ≤ y.resolution) (shallow : y.resolution ≤ 30) where
  levels : y.resolution - x.resolution + (30 - y.resolution) ≡ 30 - x.resolution
  levels = omega arith

  below_meets : y.s / 4 ^ (y.resolution - x.resolution) ≡ x.s → Meets x y
  unfolding beginning
  below_meets e = rw levels at (block_meets (y.resolution - x.resolution) (30 - y.resolution) x.s y.s e)

  meets_below : Meets x y → y.s / 4 ^ (y.resolution - x.resolution) ≡ x.s
  unfolding beginning
  meets_below m = meets_block (y.resolution - x.resolution) (30 - y.resolution) x.s y.s (rw levels m.0) (rw levels m.1)

either_true : (a b : Bool) → (a || b) ≡ true → (a ≡ true) ⊎ (b ≡ true)
either_true true b e = inl refl
either_true false b e = inr e

left_true : (a b : Bool) → a ≡ true → (a || b) ≡ true
left_true true b e = refl
left_true false b e = absurd (false≢true e)

right_true : (a b : Bool) → b ≡ true → (a || b) ≡ true
right_true true b e = refl
right_true false b e = e

pub contains_meets : (x y : Reading) → y.resolution ≤ 30 → contains x y ≡ true → Meets x y
unfolding contains
contains_meets x y shallow e =
    let b = both_true (leb x.resolution y.resolution) _ e in
    below_meets x y (leb-true _ _ b.0) shallow (eqb-true _ _ b.1)

meets_contains : (x y : Reading) → x.resolution ≤ y.resolution → y.resolution ≤ 30 → Meets x y → contains x y ≡ true
unfolding contains
meets_contains x y order shallow m = rw (le-leb _ _ order) (eq-eqb _ _ (meets_below x y order shallow m))

module _ (x y : Reading) (sx : x.resolution ≤ 30) (sy : y.resolution ≤ 30) where
  pub overlap_meets : (contains y x || contains x y) ≡ true → Meets x y
  overlap_meets e = ⊎_elim (λ e. (let m = contains_meets y x sx e in (m.1, m.0))) (λ e. contains_meets x y sy e) (either_true (contains y x) (contains x y) e)

  pub meets_overlap : Meets x y → (contains y x || contains x y) ≡ true
  meets_overlap m =
      elim (dec_le x.resolution y.resolution) [
        | yes h ↦ right_true (contains y x) (contains x y) (meets_contains x y h sy m)
        | no h ↦ left_true (contains y x) (contains x y) (meets_contains y x (omega arith) sx (m.1, m.0))
      ]

  -- as the code tests it
  pub overlap_tested : (contains y x || contains x y) ≡ meets (ground_of y) (ground_of x)
  overlap_tested =
      same_flags _ _
      (λ e. (let m = overlap_meets e in rw (lt-ltb _ _ m.1) (lt-ltb _ _ m.0)))
      (λ e. (let b = both_true (ltb (start_of y) (end_of x)) _ e in meets_overlap (ltb-true _ _ b.1, ltb-true _ _ b.0)))
    where
      same_flags : (a b : Bool) → (a ≡ true → b ≡ true) → (b ≡ true → a ≡ true) → a ≡ b
      same_flags true b f g = sym (f refl)
      same_flags false true f g = g refl
      same_flags false false f g = refl

-- ---- positions at resolution 30
-- p is one of the cell's exactly where it is not before the start and before the end
pub ground_is : (x : Reading) (p : ℕ) → (p / 4 ^ (30 - x.resolution) ≡ x.s) ↔ ((start_of x ≤ p) × (p < end_of x))
unfolding beginning
ground_is x p =
    let d = 30 - x.resolution in (
      (λ e.
          (let least : x.s * 4 ^ d ≤ p = rw (← e) (N.div-mul-le_self p (4 ^ d)) in
          let most : p < suc x.s * 4 ^ d = (N.div-lt_iff_lt-mul (four_power d)).0 (rw e (N.le_refl (suc x.s))) in
          (least, most))),
      (λ h. N.div-eq_of_lt-le (4 ^ d) h.0 (rw add-one h.1)),
    )

ends_behind : (x : Reading) → start_of x < end_of x
unfolding beginning
ends_behind x = N.mul-lt-mul_of_pos_right (N.le_refl (suc x.s)) (four_power (30 - x.resolution))

-- two cells meet exactly where they have one in common: the later of the two starts is one
pub common_meets : (x y : Reading) (p : ℕ) → p / 4 ^ (30 - x.resolution) ≡ x.s → p / 4 ^ (30 - y.resolution) ≡ y.s → Meets x y
common_meets x y p e f =
    let a = (ground_is x p).0 e in
    let b = (ground_is y p).0 f in
    (N.lt_of_le_of_lt a.0 b.1, N.lt_of_le_of_lt b.0 a.1)

pub meets_common : (x y : Reading) → Meets x y → (p : ℕ) × (p / 4 ^ (30 - x.resolution) ≡ x.s) × (p / 4 ^ (30 - y.resolution) ≡ y.s)
meets_common x y m =
    elim (dec_le (start_of x) (start_of y)) [
      | yes h ↦ (start_of y, (ground_is x (start_of y)).1 (h, m.1), (ground_is y (start_of y)).1 (N.le_refl _, ends_behind y))
      | no h ↦ (start_of x, (ground_is x (start_of x)).1 (N.le_refl _, ends_behind x), (ground_is y (start_of x)).1 (omega arith, m.0))
    ]
