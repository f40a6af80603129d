-- Following a table with the place in units of its own level: it doubles at each step and takes the child's offset, and what that comes to
-- is what adding the offsets times powers of two comes to. And how large such a place gets.
use mathlib.Core.Path.{◌≡◌, refl, ap, ◌∙◌}
use mathlib.Core.List.{List}
use Prim.Native.Nat.{ℕ, zero, suc, ◌+◌, ◌*◌, ◌/◌, ◌%◌, ◌^◌, ◌≤◌}
use native.Mathlib.Omega.{arith}
use native.Mathlib.Nat as N
use lib.IntN.{ℤ, pos, nat_abs, ◌+ℤ◌, ◌*ℤ◌}
use Rattle.whole.proofs.Parts.{abs_parts, sum_le, mul_up, mul_dn}
use Rattle.whole.proofs.View.{view, v_var, eq_by}
use Rattle.turtle.specs.declared.AB.{AB}
use Rattle.turtle.specs.Plane.{ab, origin, ◌⊕◌, doubled}
use Rattle.turtle.proofs.ScaleLaws.{doubled_⊕}
use Rattle.tables.specs.Descent.{child_at, offset_at, follow}

-- ---- the place
pub twice_place : (p o : AB) → ab (pos 2 *ℤ p.a +ℤ o.a) (pos 2 *ℤ p.b +ℤ o.b) ≡ p ⊕ p ⊕ o
unfolding ◌⊕◌
twice_place p o = λ i. ab (two p.a o.a i) (two p.b o.b i)
  where
    two : (x y : ℤ) → pos 2 *ℤ x +ℤ y ≡ x +ℤ x +ℤ y
    two x y = let vx = v_var x in let vy = v_var y in eq_by (search view) (search view) tt (omega arith)

pub origin_doubled : (n : ℕ) → doubled n (ab (pos 0) (pos 0)) ≡ origin
unfolding doubled origin ◌⊕◌
origin_doubled zero = refl
origin_doubled (suc n) = rw (origin_doubled n)

pub follow_twice : (t : List ℤ) (n s k : ℕ) (p : AB) (d : ℕ) → d ≡ s / 4 ^ suc n % 4
    → follow t (suc n) (doubled (suc n) p) k s ≡ follow t n (doubled n (p ⊕ p ⊕ offset_at t k d)) (nat_abs (child_at t k d)) s
unfolding follow doubled
follow_twice t n s k p d e = rw e (ap (λ v. follow t n v (nat_abs (child_at t k (s / 4 ^ suc n % 4))) s) (rw (doubled_⊕ n (p ⊕ p) (offset_at t k (s / 4 ^ suc n % 4)), doubled_⊕ n p p)))

-- ---- its size, where no offset is above c
pub twice_size : (c : ℕ) (x o : ℤ) → nat_abs o ≤ c → nat_abs (pos 2 *ℤ x +ℤ o) ≤ 2 * nat_abs x + c
twice_size c x o h = omega (arith, abs_parts (pos 2 *ℤ x +ℤ o), abs_parts x, abs_parts o, sum_le (pos 2 *ℤ x) o, mul_up 2 x, mul_dn 2 x)

-- with k levels below, there is room for what they may add
pub room_twice : (c most k m n : ℕ) → n ≤ 2 * m + c → (m + c) * 2 ^ suc k ≤ most → (n + c) * 2 ^ k ≤ most
room_twice c most k m n h l =
    let e : n + c ≤ 2 * (m + c) = omega arith in
    let f : 2 * (m + c) * 2 ^ k ≡ (m + c) * 2 ^ suc k = rw (N.pow-succ' 2 k) (N.mul_assoc 2 (m + c) (2 ^ k) ∙ N.mul_left_comm 2 (m + c) (2 ^ k)) in
    omega (arith, N.mul-le-mul_right (2 ^ k) e)

pub room_now : (c most k m : ℕ) → (m + c) * 2 ^ k ≤ most → (m + c) * 2 ^ 0 ≤ most
room_now c most k m h = N.le_trans (N.mul-le-mul_left (m + c) (N.one-le-pow k 2 (omega arith))) h
