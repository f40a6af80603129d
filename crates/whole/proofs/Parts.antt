-- Every integer z is up z - dn z, of two natural numbers. With that, a linear statement on integers is one on natural numbers, which `omega` proves.
use mathlib.Core.Path.{◌≡◌, refl, sym, ap, ◌∙◌}
use mathlib.Core.Logic.{◌⊎◌, inl, inr}
use mathlib.Core.Bool.{Bool, true, false, not, cond}
use Prim.Native.Nat.{ℕ, zero, suc, ◌+◌, ◌*◌, ◌-◌, ◌<◌, ◌≤◌, ◌/◌, ◌%◌}
use native.Mathlib.Omega.{arith}
use native.Mathlib.Nat.{mul-zero, zero-div, zero-mod, zero-add, div-eq_of_lt, add-div_right}
use native.Mathlib.Numerals.{add-one}
use lib.Dec.{T, ltb, ltb→lt, nleb→lt, leb→le, le→leb, lt→ltb}
use lib.IntN.{ℤ, pos, negsuc, neg_ℤ, sub_ℕ, ◌+ℤ◌, ◌*ℤ◌, nat_abs, neg_ℤ-neg_ℤ}
use lib.Signed.{le_z, lt_z, ◌≤ℤ◌, ◌<ℤ◌, mag, quot_z, rem_z, shr_z}
use borrow.Author.Tests.{ltb-true, ltb-false}

-- the part above 0, and the part below
unfoldable pub up : ℤ → ℕ
up (pos n) = n
up (negsuc n) = 0

unfoldable pub dn : ℤ → ℕ
dn (pos n) = 0
dn (negsuc n) = suc n

pub up_pos : (n : ℕ) → up (pos n) ≡ n
unfolding up
up_pos n = refl

pub dn_pos : (n : ℕ) → dn (pos n) ≡ 0
unfolding dn
dn_pos n = refl

pub up_negsuc : (n : ℕ) → up (negsuc n) ≡ 0
unfolding up
up_negsuc n = refl

pub dn_negsuc : (n : ℕ) → dn (negsuc n) ≡ suc n
unfolding dn
dn_negsuc n = refl

-- a - b
pub sub_parts : (a b : ℕ) → up (sub_ℕ a b) + b ≡ a + dn (sub_ℕ a b)
unfolding up dn
sub_parts a b = go (ltb a b) refl
  where
    go : (t : Bool) → ltb a b ≡ t → up (cond t (negsuc (b - suc a)) (pos (a - b))) + b ≡ a + dn (cond t (negsuc (b - suc a)) (pos (a - b)))
    go true e = omega (arith, ltb-true a b e)
    go false e = omega (arith, ltb-false a b e)

pub add_parts : (x y : ℤ) → up (x +ℤ y) + (dn x + dn y) ≡ up x + up y + dn (x +ℤ y)
unfolding up dn
add_parts (pos a) (pos b) = omega arith
add_parts (pos a) (negsuc b) = omega (arith, sub_parts a (suc b))
add_parts (negsuc a) (pos b) = omega (arith, sub_parts b (suc a))
add_parts (negsuc a) (negsuc b) = omega arith

pub neg_up : (x : ℤ) → up (neg_ℤ x) ≡ dn x
unfolding up dn
neg_up (pos zero) = refl
neg_up (pos (suc n)) = refl
neg_up (negsuc n) = refl

pub neg_dn : (x : ℤ) → dn (neg_ℤ x) ≡ up x
unfolding up dn
neg_dn (pos zero) = refl
neg_dn (pos (suc n)) = refl
neg_dn (negsuc n) = refl

-- the product by a natural number, on either side
pub mul_up : (k : ℕ) (x : ℤ) → up (pos k *ℤ x) ≡ k * up x
unfolding up dn
mul_up k (pos a) = refl
mul_up k (negsuc a) = neg_up (pos (k * suc a)) ∙ sym (mul-zero k)

pub mul_dn : (k : ℕ) (x : ℤ) → dn (pos k *ℤ x) ≡ k * dn x
unfolding up dn
mul_dn k (pos a) = sym (mul-zero k)
mul_dn k (negsuc a) = neg_dn (pos (k * suc a))

-- two integers whose parts agree are one
pub eq_parts : (x y : ℤ) → up x + dn y ≡ up y + dn x → x ≡ y
unfolding up dn
eq_parts (pos a) (pos b) e = ap pos (omega arith)
eq_parts (pos a) (negsuc b) e = absurd (omega arith)
eq_parts (negsuc a) (pos b) e = absurd (omega arith)
eq_parts (negsuc a) (negsuc b) e = ap negsuc (omega arith)

pub le_parts : (x y : ℤ) → up x + dn y ≤ up y + dn x → x ≤ℤ y
unfolding up dn
le_parts (pos a) (pos b) e = record { le = le→leb a b (omega arith) }
le_parts (pos a) (negsuc b) e = absurd (omega arith)
le_parts (negsuc a) (pos b) e = record { le = tt }
le_parts (negsuc a) (negsuc b) e = record { le = le→leb b a (omega arith) }

pub lt_parts : (x y : ℤ) → up x + dn y < up y + dn x → x <ℤ y
unfolding up dn
lt_parts (pos a) (pos b) e = record { lt = lt→ltb a b (omega arith) }
lt_parts (pos a) (negsuc b) e = absurd (omega arith)
lt_parts (negsuc a) (pos b) e = record { lt = tt }
lt_parts (negsuc a) (negsuc b) e = record { lt = lt→ltb b a (omega arith) }

le_out : (x y : ℤ) → T (le_z x y) → up x + dn y ≤ up y + dn x
unfolding up dn
le_out (pos a) (pos b) t = omega (arith, leb→le a b t)
le_out (pos a) (negsuc b) t = absurd t
le_out (negsuc a) (pos b) t = omega arith
le_out (negsuc a) (negsuc b) t = omega (arith, leb→le b a t)

lt_out : (x y : ℤ) → T (lt_z x y) → up x + dn y < up y + dn x
unfolding up dn
lt_out (pos a) (pos b) t = omega (arith, ltb→lt a b t)
lt_out (pos a) (negsuc b) t = absurd t
lt_out (negsuc a) (pos b) t = omega arith
lt_out (negsuc a) (negsuc b) t = omega (arith, ltb→lt b a t)

pub parts_le : {x y : ℤ} → x ≤ℤ y → up x + dn y ≤ up y + dn x
parts_le {x} {y} h = le_out x y h.le

pub parts_lt : {x y : ℤ} → x <ℤ y → up x + dn y < up y + dn x
parts_lt {x} {y} h = lt_out x y h.lt

pub parts_eq : {x y : ℤ} → x ≡ y → up x + dn y ≡ up y + dn x
parts_eq {x} {y} h = ap (λ (z : ℤ). up z + dn y) h ∙ ap (λ (z : ℤ). up y + dn z) (sym h)

-- at most one of the two is not 0
pub mag_parts : (x : ℤ) {H : ℕ} → mag x < H → (up x < H) × (dn x ≤ H)
unfolding up dn
mag_parts (pos a) h = omega arith
mag_parts (negsuc a) h = omega arith

pub parts_mag : (x : ℤ) (H : ℕ) → up x < dn x + H → dn x ≤ up x + H → mag x < H
unfolding up dn
parts_mag (pos a) H h k = omega arith
parts_mag (negsuc a) H h k = omega arith

-- a sum has no part above those of its summands
sub_le : (a b : ℕ) → (up (sub_ℕ a b) ≤ a) × (dn (sub_ℕ a b) ≤ b)
unfolding up dn
sub_le a b = go (ltb a b) refl
  where
    go : (t : Bool) → ltb a b ≡ t → (up (cond t (negsuc (b - suc a)) (pos (a - b))) ≤ a) × (dn (cond t (negsuc (b - suc a)) (pos (a - b))) ≤ b)
    go true e = omega (arith, ltb-true a b e)
    go false e = omega (arith, ltb-false a b e)

pub sum_le : (x y : ℤ) → (up (x +ℤ y) ≤ up x + up y) × (dn (x +ℤ y) ≤ dn x + dn y)
unfolding up dn
sum_le (pos a) (pos b) = omega arith
sum_le (pos a) (negsuc b) = omega (arith, sub_le a (suc b))
sum_le (negsuc a) (pos b) = omega (arith, sub_le b (suc a))
sum_le (negsuc a) (negsuc b) = omega arith

-- toward zero, and its remainder, by a number k
pub quot_up : (x : ℤ) (k : ℕ) → up (quot_z x (pos k)) ≡ up x / k
unfolding up dn
quot_up (pos a) k = refl
quot_up (negsuc a) k = neg_up (pos (suc a / k)) ∙ sym (zero-div k)

pub quot_dn : (x : ℤ) (k : ℕ) → dn (quot_z x (pos k)) ≡ dn x / k
unfolding up dn
quot_dn (pos a) k = sym (zero-div k)
quot_dn (negsuc a) k = neg_dn (pos (suc a / k))

pub rem_up : (x : ℤ) (k : ℕ) → up (rem_z x (pos k)) ≡ up x % k
unfolding up dn
rem_up (pos a) k = refl
rem_up (negsuc a) k = neg_up (pos (suc a % k)) ∙ sym (zero-mod k)

pub rem_dn : (x : ℤ) (k : ℕ) → dn (rem_z x (pos k)) ≡ dn x % k
unfolding up dn
rem_dn (pos a) k = sym (zero-mod k)
rem_dn (negsuc a) k = neg_dn (pos (suc a % k))

-- rounded down, as `>>` does, by a number m above 0
pub shr_up : (x : ℤ) (m : ℕ) → up (shr_z x m) ≡ up x / m
unfolding up dn
shr_up (pos a) m = refl
shr_up (negsuc a) m = sym (zero-div m)

pub shr_dn : (x : ℤ) {m : ℕ} → 0 < m → dn (shr_z x m) ≡ (dn x + (m - 1)) / m
unfolding up dn
shr_dn (pos a) {m} h = sym (ap (λ (k : ℕ). k / m) (zero-add (m - 1)) ∙ div-eq_of_lt (omega arith))
shr_dn (negsuc a) {m} h = sym (ap (λ (k : ℕ). k / m) (whole a m h) ∙ add-div_right a h ∙ add-one (a / m))
  where
    whole : (a m : ℕ) → 0 < m → suc a + (m - 1) ≡ a + m
    whole a m h = omega arith

-- one of the two parts is 0
pub up_dn : (x : ℤ) → (up x - dn x ≡ up x) × (dn x - up x ≡ dn x)
unfolding up dn
up_dn (pos a) = omega arith
up_dn (negsuc a) = omega arith

no_le : (x y : ℤ) → T (not (le_z x y)) → T (lt_z y x)
no_le (pos a) (pos b) t = lt→ltb b a (nleb→lt a b t)
no_le (pos a) (negsuc b) t = tt
no_le (negsuc a) (pos b) t = absurd t
no_le (negsuc a) (negsuc b) t = lt→ltb a b (nleb→lt b a t)

pub le_z_no : {x y : ℤ} → T (not (le_z x y)) → y <ℤ x
le_z_no {x} {y} t = record { lt = no_le x y t }

pub zero_or_one : (x : ℤ) → pos 0 ≤ℤ x → x ≤ℤ pos 1 → (x ≡ pos 0) ⊎ (x ≡ pos 1)
zero_or_one (pos zero) h k = inl refl
zero_or_one (pos (suc zero)) h k = inr refl
zero_or_one (pos (suc (suc n))) h k = absurd (above n (leb→le (suc (suc n)) 1 k.le))
  where
    above : (n : ℕ) → suc (suc n) ≤ 1 → ⊥
    above n h = omega arith
zero_or_one (negsuc n) h k = absurd h.le

pub negsuc_mul : (k : ℕ) (x : ℤ) → negsuc k *ℤ x ≡ neg_ℤ (pos (suc k) *ℤ x)
negsuc_mul k (pos a) = refl
negsuc_mul k (negsuc a) = sym (neg_ℤ-neg_ℤ (pos (suc k * suc a)))

-- the size of a product
pub prod_up : (x y : ℤ) → up (x *ℤ y) ≤ (up x + dn x) * (up y + dn y)
unfolding up dn
prod_up (pos a) (pos b) = omega arith
prod_up (pos a) (negsuc b) = omega (arith, neg_up (pos (a * suc b)))
prod_up (negsuc a) (pos b) = omega (arith, neg_up (pos (suc a * b)))
prod_up (negsuc a) (negsuc b) = omega arith

pub prod_dn : (x y : ℤ) → dn (x *ℤ y) ≤ (up x + dn x) * (up y + dn y)
unfolding up dn
prod_dn (pos a) (pos b) = omega arith
prod_dn (pos a) (negsuc b) = omega (arith, neg_dn (pos (a * suc b)))
prod_dn (negsuc a) (pos b) = omega (arith, neg_dn (pos (suc a * b)))
prod_dn (negsuc a) (negsuc b) = omega arith

-- what `omega` is handed to read and prove orders and equations of integers that are variables and literals, under `unfolding up dn`. Of a sum that stands in one, hand it `add_parts`
pub ruleset orders = (parts_le, parts_lt, parts_eq, le_parts, lt_parts, eq_parts)

-- the size is the sum of the parts
pub abs_parts : (x : ℤ) → nat_abs x ≡ up x + dn x
unfolding up dn
abs_parts (pos a) = omega arith
abs_parts (negsuc a) = omega arith
