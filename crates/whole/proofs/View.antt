-- Integers as the machine computes them, seen as linear expressions of natural numbers with bounds.
-- `View z` has z as p - n, and says that z is at most top and at least - bot, provided that `ok` is true. A number that is read back from its bits, `to_z w (of_z w z)`,
-- is z where z fits: its view is that of z, and `ok` has the test that the bounds are those of the width. So a whole tower of operations has a view that `search view` finds
-- by the operations' names, and whether each step fits is one test that computes: `tt`.
use mathlib.Core.Path.{◌≡◌, refl, sym, ap, ◌∙◌, subst}
use mathlib.Core.Bool.{Bool, true, false, not, ◌&&◌}
use Prim.Native.Nat.{ℕ, zero, suc, ◌+◌, ◌*◌, ◌-◌, ◌<◌, ◌≤◌, ◌^◌, ◌/◌, ◌%◌, max}
use native.Mathlib.Omega.{arith}
use native.Mathlib.Nat.{mul-le-mul_left, mul-le-mul, le_trans, le-div_iff_mul-le, div-mul-le_self, div-zero, mod-le}
use lib.Dec.{T, ltb, leb, eqb, ltb→lt, leb→le}
use borrow.Author.Tests.{eqb-true, eqb-false, not-true, not-false}
use lib.IntN.{ℤ, pos, negsuc, neg_ℤ, ◌+ℤ◌, ◌*ℤ◌, *ℤ_comm, nat_abs}
use lib.Signed.{le_z, lt_z, ◌≤ℤ◌, ◌<ℤ◌, mag, quot_z, rem_z, shr_z, non_neg, le_z_yes, lt_z_yes, lt_z_no}
use mir.Syntax.{Width, w32, w64}
use mir.Val.{SFits, Fits, bits, hbits, to_z, of_z}
use mir.ValLaws.{to_z-of_z, of_z-to_z}
use Rattle.whole.proofs.Bools.{both_left, both_right}
use Rattle.whole.proofs.Parts.{up, dn, up_pos, dn_pos, up_negsuc, dn_negsuc, add_parts, sum_le, neg_up, neg_dn, mul_up, mul_dn, abs_parts, negsuc_mul, prod_up, prod_dn, quot_up, quot_dn, shr_up, shr_dn, rem_up, rem_dn, up_dn, eq_parts, le_parts, lt_parts, parts_le, parts_lt, parts_eq, mag_parts, parts_mag, le_z_no}

-- what is read back from the bits of z
abbrev pub rd : Width → ℤ → ℤ
rd w z = to_z w (of_z w z)

pub record View (z : ℤ) : Type 0 where
  pub ok : Bool
  pub p : ℕ
  pub n : ℕ
  pub top : ℕ
  pub bot : ℕ
  pub is : T ok → (up z + n ≡ p + dn z) × (up z ≤ top) × (dn z ≤ bot)

-- ---- leaves: a variable of which nothing is known, one that fits a width, one within bounds, a literal
pub var_is : (x : ℤ) → (up x + dn x ≡ up x + dn x) × (up x ≤ up x) × (dn x ≤ dn x)
var_is x = omega arith

abbrev pub v_var : (x : ℤ) → View x
v_var x = record { ok = true; p = up x; n = dn x; top = up x; bot = dn x; is = λ t. var_is x }

pub mag_is : (w : Width) (x : ℤ) → mag x < 2 ^ hbits w → (up x + dn x ≡ up x + dn x) × (up x ≤ 2 ^ hbits w - 1) × (dn x ≤ 2 ^ hbits w)
mag_is w x f = omega (arith, mag_parts x f)

abbrev pub v_mag : (w : Width) (x : ℤ) → mag x < 2 ^ hbits w → View x
v_mag w x f = record { ok = true; p = up x; n = dn x; top = 2 ^ hbits w - 1; bot = 2 ^ hbits w; is = λ t. mag_is w x f }

abbrev pub v_fit : {w : Width} {x : ℤ} → SFits w x → View x
v_fit {w} {x} f = v_mag w x f.sfits

pub within_is : {x : ℤ} (lo hi : ℕ) → neg_ℤ (pos lo) ≤ℤ x → x ≤ℤ pos hi → (up x + dn x ≡ up x + dn x) × (up x ≤ hi) × (dn x ≤ lo)
within_is {x} lo hi a b = omega (arith, parts_le a, parts_le b, neg_up (pos lo), neg_dn (pos lo), up_pos lo, dn_pos lo, up_pos hi, dn_pos hi, up_dn x)

abbrev pub v_within : {x : ℤ} (lo hi : ℕ) → neg_ℤ (pos lo) ≤ℤ x → x ≤ℤ pos hi → View x
v_within {x} lo hi a b = record { ok = true; p = up x; n = dn x; top = hi; bot = lo; is = λ t. within_is lo hi a b }

pub of_is : (x : ℤ) (lo hi : ℕ) → up x ≤ hi → dn x ≤ lo → (up x + dn x ≡ up x + dn x) × (up x ≤ hi) × (dn x ≤ lo)
of_is x lo hi a b = omega arith

abbrev pub v_of : (x : ℤ) (lo hi : ℕ) → up x ≤ hi → dn x ≤ lo → View x
v_of x lo hi a b = record { ok = true; p = up x; n = dn x; top = hi; bot = lo; is = λ t. of_is x lo hi a b }

-- a number of size at most n
pub abs_is : (x : ℤ) (n : ℕ) → nat_abs x ≤ n → (up x + dn x ≡ up x + dn x) × (up x ≤ n) × (dn x ≤ n)
abs_is x n h = omega (arith, abs_parts x)

abbrev pub v_abs : (x : ℤ) (n : ℕ) → nat_abs x ≤ n → View x
v_abs x n h = record { ok = true; p = up x; n = dn x; top = n; bot = n; is = λ t. abs_is x n h }

pub pos_is : (k : ℕ) → (up (pos k) + 0 ≡ k + dn (pos k)) × (up (pos k) ≤ k) × (dn (pos k) ≤ 0)
pos_is k = omega (arith, up_pos k, dn_pos k)

abbrev pub v_pos : (k : ℕ) → View (pos k)
v_pos k = record { ok = true; p = k; n = 0; top = k; bot = 0; is = λ t. pos_is k }

-- a natural number that is at most hi
pub upto_is : (k hi : ℕ) → k ≤ hi → (up (pos k) + 0 ≡ k + dn (pos k)) × (up (pos k) ≤ hi) × (dn (pos k) ≤ 0)
upto_is k hi h = omega (arith, up_pos k, dn_pos k)

abbrev pub v_upto : (k hi : ℕ) → k ≤ hi → View (pos k)
v_upto k hi h = record { ok = true; p = k; n = 0; top = hi; bot = 0; is = λ t. upto_is k hi h }

pub negsuc_is : (k : ℕ) → (up (negsuc k) + suc k ≡ 0 + dn (negsuc k)) × (up (negsuc k) ≤ 0) × (dn (negsuc k) ≤ suc k)
negsuc_is k = omega (arith, up_negsuc k, dn_negsuc k)

abbrev pub v_negsuc : (k : ℕ) → View (negsuc k)
v_negsuc k = record { ok = true; p = 0; n = suc k; top = 0; bot = suc k; is = λ t. negsuc_is k }

-- what equals a number with a view has that view
pub same_is : {x y : ℤ} (e : x ≡ y) (v : View y) → T v.ok → (up x + v.n ≡ v.p + dn x) × (up x ≤ v.top) × (dn x ≤ v.bot)
same_is e v t = subst (λ (z : ℤ). (up z + v.n ≡ v.p + dn z) × (up z ≤ v.top) × (dn z ≤ v.bot)) (sym e) (v.is t)

abbrev pub v_same : {x y : ℤ} → x ≡ y → View y → View x
v_same e v = record { ok = v.ok; p = v.p; n = v.n; top = v.top; bot = v.bot; is = same_is e v }

-- a view with a closer bound
pub most_is : {x : ℤ} (hi : ℕ) → x ≤ℤ pos hi → (v : View x) → T v.ok → (up x + v.n ≡ v.p + dn x) × (up x ≤ hi) × (dn x ≤ v.bot)
most_is {x} hi h v t = omega (arith, v.is t, parts_le h, up_pos hi, dn_pos hi, up_dn x)

abbrev pub v_most : {x : ℤ} (hi : ℕ) → x ≤ℤ pos hi → View x → View x
v_most hi h v = record { ok = v.ok; p = v.p; n = v.n; top = hi; bot = v.bot; is = most_is hi h v }

pub least_is : {x : ℤ} (lo : ℕ) → neg_ℤ (pos lo) ≤ℤ x → (v : View x) → T v.ok → (up x + v.n ≡ v.p + dn x) × (up x ≤ v.top) × (dn x ≤ lo)
least_is {x} lo h v t = omega (arith, v.is t, parts_le h, neg_up (pos lo), neg_dn (pos lo), up_pos lo, dn_pos lo, up_dn x)

abbrev pub v_least : {x : ℤ} (lo : ℕ) → neg_ℤ (pos lo) ≤ℤ x → View x → View x
v_least lo h v = record { ok = v.ok; p = v.p; n = v.n; top = v.top; bot = lo; is = least_is lo h v }

-- ---- operations
pub add_is : {x y : ℤ} (l : View x) (m : View y) → T (◌&&◌ l.ok m.ok) → (up (x +ℤ y) + (l.n + m.n) ≡ (l.p + m.p) + dn (x +ℤ y)) × (up (x +ℤ y) ≤ l.top + m.top) × (dn (x +ℤ y) ≤ l.bot + m.bot)
add_is {x} {y} l m t = omega (arith, add_parts x y, sum_le x y, l.is (both_left l.ok m.ok t), m.is (both_right l.ok m.ok t))

abbrev pub v_add : {x y : ℤ} → View x → View y → View (x +ℤ y)
v_add l m = record { ok = ◌&&◌ l.ok m.ok; p = l.p + m.p; n = l.n + m.n; top = l.top + m.top; bot = l.bot + m.bot; is = add_is l m }

pub neg_is : {x : ℤ} (l : View x) → T l.ok → (up (neg_ℤ x) + l.p ≡ l.n + dn (neg_ℤ x)) × (up (neg_ℤ x) ≤ l.bot) × (dn (neg_ℤ x) ≤ l.top)
neg_is {x} l t = omega (arith, neg_up x, neg_dn x, l.is t)

abbrev pub v_neg : {x : ℤ} → View x → View (neg_ℤ x)
v_neg l = record { ok = l.ok; p = l.n; n = l.p; top = l.bot; bot = l.top; is = neg_is l }

pub mul_is : (k : ℕ) {x : ℤ} (l : View x) → T l.ok → (up (pos k *ℤ x) + k * l.n ≡ k * l.p + dn (pos k *ℤ x)) × (up (pos k *ℤ x) ≤ k * l.top) × (dn (pos k *ℤ x) ≤ k * l.bot)
mul_is k {x} l t = omega (arith, mul_up k x, mul_dn k x, scaled (l.is t).0, mul-le-mul_left k (l.is t).1, mul-le-mul_left k (l.is t).2)
  where
    scaled : up x + l.n ≡ l.p + dn x → k * (up x + l.n) ≡ k * (l.p + dn x)
    scaled e = ap (λ (m : ℕ). k * m) e

abbrev pub v_mul : (k : ℕ) {x : ℤ} → View x → View (pos k *ℤ x)
v_mul k l = record { ok = l.ok; p = k * l.p; n = k * l.n; top = k * l.top; bot = k * l.bot; is = mul_is k l }

pub mul_r_is : (k : ℕ) {x : ℤ} (l : View x) → T l.ok → (up (x *ℤ pos k) + k * l.n ≡ k * l.p + dn (x *ℤ pos k)) × (up (x *ℤ pos k) ≤ k * l.top) × (dn (x *ℤ pos k) ≤ k * l.bot)
mul_r_is k {x} l t = subst (λ (z : ℤ). (up z + k * l.n ≡ k * l.p + dn z) × (up z ≤ k * l.top) × (dn z ≤ k * l.bot)) (*ℤ_comm (pos k) x) (mul_is k l t)

abbrev pub v_mul_r : (k : ℕ) {x : ℤ} → View x → View (x *ℤ pos k)
v_mul_r k l = record { ok = l.ok; p = k * l.p; n = k * l.n; top = k * l.top; bot = k * l.bot; is = mul_r_is k l }

-- by a literal below 0
pub mul_neg_is : (k : ℕ) {x : ℤ} (l : View x) → T l.ok → (up (negsuc k *ℤ x) + suc k * l.p ≡ suc k * l.n + dn (negsuc k *ℤ x)) × (up (negsuc k *ℤ x) ≤ suc k * l.bot) × (dn (negsuc k *ℤ x) ≤ suc k * l.top)
mul_neg_is k {x} l t = subst (λ (z : ℤ). (up z + suc k * l.p ≡ suc k * l.n + dn z) × (up z ≤ suc k * l.bot) × (dn z ≤ suc k * l.top)) (sym (negsuc_mul k x)) (neg_is (v_mul (suc k) l) t)

abbrev pub v_mul_neg : (k : ℕ) {x : ℤ} → View x → View (negsuc k *ℤ x)
v_mul_neg k l = record { ok = l.ok; p = suc k * l.n; n = suc k * l.p; top = suc k * l.bot; bot = suc k * l.top; is = mul_neg_is k l }

pub mul_neg_r_is : (k : ℕ) {x : ℤ} (l : View x) → T l.ok → (up (x *ℤ negsuc k) + suc k * l.p ≡ suc k * l.n + dn (x *ℤ negsuc k)) × (up (x *ℤ negsuc k) ≤ suc k * l.bot) × (dn (x *ℤ negsuc k) ≤ suc k * l.top)
mul_neg_r_is k {x} l t = subst (λ (z : ℤ). (up z + suc k * l.p ≡ suc k * l.n + dn z) × (up z ≤ suc k * l.bot) × (dn z ≤ suc k * l.top)) (*ℤ_comm (negsuc k) x) (mul_neg_is k l t)

abbrev pub v_mul_neg_r : (k : ℕ) {x : ℤ} → View x → View (x *ℤ negsuc k)
v_mul_neg_r k l = record { ok = l.ok; p = suc k * l.n; n = suc k * l.p; top = suc k * l.bot; bot = suc k * l.top; is = mul_neg_r_is k l }

-- of two numbers of which neither is a literal: only its size is known. Not in the sets: list it
pub prod_is : {x y : ℤ} (l : View x) (m : View y) → T (◌&&◌ l.ok m.ok) → (up (x *ℤ y) + dn (x *ℤ y) ≡ up (x *ℤ y) + dn (x *ℤ y)) × (up (x *ℤ y) ≤ max l.top l.bot * max m.top m.bot) × (dn (x *ℤ y) ≤ max l.top l.bot * max m.top m.bot)
prod_is {x} {y} l m t =
    let a = l.is (both_left l.ok m.ok t) in
    let b = m.is (both_right l.ok m.ok t) in
    let h : up x + dn x ≤ max l.top l.bot = omega (arith, up_dn x) in
    let k : up y + dn y ≤ max m.top m.bot = omega (arith, up_dn y) in
    (refl, le_trans (prod_up x y) (mul-le-mul h k), le_trans (prod_dn x y) (mul-le-mul h k))

abbrev pub v_prod : {x y : ℤ} → View x → View y → View (x *ℤ y)
v_prod {x} {y} l m = record { ok = ◌&&◌ l.ok m.ok; p = up (x *ℤ y); n = dn (x *ℤ y); top = max l.top l.bot * max m.top m.bot; bot = max l.top l.bot * max m.top m.bot; is = prod_is l m }

-- toward zero, and its remainder, by a number above 0
monus_up : {x : ℤ} (l : View x) → T l.ok → l.p - l.n ≡ up x
monus_up {x} l t = omega (arith, (l.is t).0, up_dn x)

monus_dn : {x : ℤ} (l : View x) → T l.ok → l.n - l.p ≡ dn x
monus_dn {x} l t = omega (arith, (l.is t).0, up_dn x)

pub div_le_div_right : (k : ℕ) {a b : ℕ} → a ≤ b → a / k ≤ b / k
div_le_div_right zero {a} {b} h = omega (arith, div-zero a, div-zero b)
div_le_div_right (suc k) {a} {b} h = (le-div_iff_mul-le {k = suc k} {x = a / suc k} {y = b} (omega arith)).1 (le_trans (div-mul-le_self a (suc k)) h)

pub quot_is : (k : ℕ) {x : ℤ} (l : View x) → T l.ok → (up (quot_z x (pos k)) + (l.n - l.p) / k ≡ (l.p - l.n) / k + dn (quot_z x (pos k))) × (up (quot_z x (pos k)) ≤ l.top / k) × (dn (quot_z x (pos k)) ≤ l.bot / k)
quot_is k {x} l t = rw (monus_up l t, monus_dn l t) (rw (quot_up x k, quot_dn x k) (refl, div_le_div_right k (l.is t).1, div_le_div_right k (l.is t).2))

abbrev pub v_quot : (k : ℕ) {x : ℤ} → View x → View (quot_z x (pos k))
v_quot k l = record { ok = l.ok; p = (l.p - l.n) / k; n = (l.n - l.p) / k; top = l.top / k; bot = l.bot / k; is = quot_is k l }

pub rem_is : (k : ℕ) {x : ℤ} (l : View x) → T l.ok → (up (rem_z x (pos k)) + (l.n - l.p) % k ≡ (l.p - l.n) % k + dn (rem_z x (pos k))) × (up (rem_z x (pos k)) ≤ l.top) × (dn (rem_z x (pos k)) ≤ l.bot)
rem_is k {x} l t = rw (monus_up l t, monus_dn l t) (rw (rem_up x k, rem_dn x k) (refl, le_trans (mod-le (up x) k) (l.is t).1, le_trans (mod-le (dn x) k) (l.is t).2))

abbrev pub v_rem : (k : ℕ) {x : ℤ} → View x → View (rem_z x (pos k))
v_rem k l = record { ok = l.ok; p = (l.p - l.n) % k; n = (l.n - l.p) % k; top = l.top; bot = l.bot; is = rem_is k l }

-- rounded down, by a number above 0
pub shr_is : (m : ℕ) {x : ℤ} → T (ltb 0 m) → (l : View x) → T l.ok → (up (shr_z x m) + (l.n - l.p + (m - 1)) / m ≡ (l.p - l.n) / m + dn (shr_z x m)) × (up (shr_z x m) ≤ l.top / m) × (dn (shr_z x m) ≤ (l.bot + (m - 1)) / m)
shr_is m {x} h l t =
    rw (monus_up l t, monus_dn l t)
    (rw (shr_up x m, shr_dn x (ltb→lt 0 m h)) (refl, div_le_div_right m (l.is t).1, div_le_div_right m (grow (dn x) l.bot (m - 1) (l.is t).2)))
  where
    grow : (a b c : ℕ) → a ≤ b → a + c ≤ b + c
    grow a b c h = omega arith

abbrev pub v_shr : (m : ℕ) {x : ℤ} → T (ltb 0 m) → View x → View (shr_z x m)
v_shr m h l = record { ok = l.ok; p = (l.p - l.n) / m; n = (l.n - l.p + (m - 1)) / m; top = l.top / m; bot = (l.bot + (m - 1)) / m; is = shr_is m h l }

-- the two parts
pub parts_of : {x : ℤ} (l : View x) → T l.ok → (up x ≡ l.p - l.n) × (dn x ≡ l.n - l.p)
parts_of l t = (sym (monus_up l t), sym (monus_dn l t))

-- a bound on a part
pub up_by : {x : ℤ} {k : ℕ} (l : View x) → T l.ok → l.p ≤ l.n + k → up x ≤ k
up_by {x} {k} l t h = omega (arith, (parts_of l t).0)

pub dn_by : {x : ℤ} {k : ℕ} (l : View x) → T l.ok → l.n ≤ l.p + k → dn x ≤ k
dn_by {x} {k} l t h = omega (arith, (parts_of l t).1)

-- ---- what fits, and what is read back
abbrev pub inside : Width → ℕ → ℕ → Bool
inside w top bot = ◌&&◌ (ltb top (2 ^ hbits w)) (leb bot (2 ^ hbits w))

pub fits : {w : Width} {z : ℤ} (v : View z) → T (◌&&◌ v.ok (inside w v.top v.bot)) → SFits w z
fits {w} {z} v t =
    let i = both_right v.ok (inside w v.top v.bot) t in
    let h = ltb→lt v.top (2 ^ hbits w) (both_left (ltb v.top (2 ^ hbits w)) (leb v.bot (2 ^ hbits w)) i) in
    let l = leb→le v.bot (2 ^ hbits w) (both_right (ltb v.top (2 ^ hbits w)) (leb v.bot (2 ^ hbits w)) i) in
    let b = v.is (both_left v.ok (inside w v.top v.bot) t) in
    record { sfits = parts_mag z (2 ^ hbits w) (omega (arith, h, b.1)) (omega (arith, l, b.2)) }

-- the same, where what bounds z is known otherwise
pub fits_by : {w : Width} {z : ℤ} (v : View z) → T v.ok → v.p < v.n + 2 ^ hbits w → v.n ≤ v.p + 2 ^ hbits w → SFits w z
fits_by {w} {z} v t h l =
    let e = (v.is t).0 in
    record { sfits = parts_mag z (2 ^ hbits w) (omega arith) (omega arith) }

pub fits_of : {w : Width} {z : ℤ} (v : View z) → T v.ok → SFits w z → (v.p < v.n + 2 ^ hbits w) × (v.n ≤ v.p + 2 ^ hbits w)
fits_of {w} {z} v t f = omega (arith, (v.is t).0, mag_parts z f.sfits)

pub bits_is : (w : Width) (z : ℤ) (v : View z) → T (◌&&◌ v.ok (inside w v.top v.bot)) → (up (to_z w (of_z w z)) + v.n ≡ v.p + dn (to_z w (of_z w z))) × (up (to_z w (of_z w z)) ≤ v.top) × (dn (to_z w (of_z w z)) ≤ v.bot)
bits_is w z v t = subst (λ (y : ℤ). (up y + v.n ≡ v.p + dn y) × (up y ≤ v.top) × (dn y ≤ v.bot)) (sym (to_z-of_z w z (fits {w = w} v t))) (v.is (both_left v.ok (inside w v.top v.bot) t))

abbrev pub v_bits : (w : Width) (z : ℤ) → View z → View (to_z w (of_z w z))
v_bits w z v = record { ok = ◌&&◌ v.ok (inside w v.top v.bot); p = v.p; n = v.n; top = v.top; bot = v.bot; is = bits_is w z v }

-- what a cast of an unsigned number that is at most hi gives
abbrev pub v_unsigned : (w : Width) (k hi : ℕ) → k ≤ hi → View (to_z w k)
v_unsigned w k hi h = v_bits w (pos k) (v_upto k hi h)

-- read back, of a number that is known otherwise to fit
pub in_is : {w : Width} {z : ℤ} (f : SFits w z) (v : View z) → T v.ok → (up (to_z w (of_z w z)) + v.n ≡ v.p + dn (to_z w (of_z w z))) × (up (to_z w (of_z w z)) ≤ 2 ^ hbits w - 1) × (dn (to_z w (of_z w z)) ≤ 2 ^ hbits w)
in_is {w} {z} f v t = subst (λ (y : ℤ). (up y + v.n ≡ v.p + dn y) × (up y ≤ 2 ^ hbits w - 1) × (dn y ≤ 2 ^ hbits w)) (sym (to_z-of_z w z f)) (omega (arith, (v.is t).0, mag_is w z f.sfits))

abbrev pub v_in : {w : Width} {z : ℤ} → SFits w z → View z → View (to_z w (of_z w z))
v_in {w} f v = record { ok = v.ok; p = v.p; n = v.n; top = 2 ^ hbits w - 1; bot = 2 ^ hbits w; is = in_is f v }

-- a result as a local or a field has it, where what it equals fits
pub kept : (w : Width) {z y : ℤ} → z ≡ y → (v : View y) → T (◌&&◌ v.ok (inside w v.top v.bot)) → to_z w (of_z w z) ≡ y
kept w {z} {y} e v t = ap (λ (x : ℤ). to_z w (of_z w x)) e ∙ to_z-of_z w y (fits v t)

pub ruleset view = (v_pos, v_negsuc, v_add, v_neg, v_mul, v_mul_r, v_mul_neg, v_mul_neg_r, v_quot, v_rem, v_shr, v_bits, tt)

-- with the leaves found too: a number that a hypothesis, or a field of one, says to fit
abbrev pub v_i32 : (x : ℤ) → mag x < 2 ^ 31 → View x
v_i32 x f = v_mag w32 x f

abbrev pub v_i64 : (x : ℤ) → mag x < 2 ^ 63 → View x
v_i64 x f = v_mag w64 x f

abbrev pub v_fit32 : (x : ℤ) → SFits w32 x → View x
v_fit32 x f = v_mag w32 x f.sfits

abbrev pub v_fit64 : (x : ℤ) → SFits w64 x → View x
v_fit64 x f = v_mag w64 x f.sfits

pub ruleset seen = (view, v_i32, v_fit32, v_i64, v_fit64)

-- ---- what is shown of two numbers by their views, and what is read off
module _ {x y : ℤ} (l : View x) (m : View y) (t : T (◌&&◌ l.ok m.ok)) where
  pub eq_by : l.p + m.n ≡ m.p + l.n → x ≡ y
  eq_by e = eq_parts x y (omega (arith, (l.is (both_left l.ok m.ok t)).0, (m.is (both_right l.ok m.ok t)).0))

  pub le_by : l.p + m.n ≤ m.p + l.n → x ≤ℤ y
  le_by e = le_parts x y (omega (arith, (l.is (both_left l.ok m.ok t)).0, (m.is (both_right l.ok m.ok t)).0))

  pub lt_by : l.p + m.n < m.p + l.n → x <ℤ y
  lt_by e = lt_parts x y (omega (arith, (l.is (both_left l.ok m.ok t)).0, (m.is (both_right l.ok m.ok t)).0))

  pub eq_of : x ≡ y → l.p + m.n ≡ m.p + l.n
  eq_of e = omega (arith, parts_eq e, (l.is (both_left l.ok m.ok t)).0, (m.is (both_right l.ok m.ok t)).0)

  pub le_of : x ≤ℤ y → l.p + m.n ≤ m.p + l.n
  le_of e = omega (arith, parts_le e, (l.is (both_left l.ok m.ok t)).0, (m.is (both_right l.ok m.ok t)).0)

  pub lt_of : x <ℤ y → l.p + m.n < m.p + l.n
  lt_of e = omega (arith, parts_lt e, (l.is (both_left l.ok m.ok t)).0, (m.is (both_right l.ok m.ok t)).0)

-- ---- what a branch on signed numbers tells. The two numbers stand under functions that compute, so antt does not infer them: `search (told, fact)` reads them off the fact
pub data Rel : Type 0 where
  below upto same other : Rel

abbrev pub Is : Rel → ℕ → ℕ → Type 0
Is below a b = a < b
Is upto a b = a ≤ b
Is same a b = a ≡ b
Is other a b = a ≡ b → ⊥

-- x and y are so related
pub record Compared : Type 0 where
  pub x : ℤ
  pub y : ℤ
  pub rel : Rel
  pub fact : Is rel (up x + dn y) (up y + dn x)

shift : (r : Rel) (a b c d j k : ℕ) → Is r a b → a + j ≡ c + k → b + j ≡ d + k → Is r c d
shift below a b c d j k f e g = omega arith
shift upto a b c d j k f e g = omega arith
shift same a b c d j k f e g = omega arith
shift other a b c d j k f e g = λ h. f (omega arith)

pub fact_of : (f : Compared) (l : View f.x) (m : View f.y) → T (◌&&◌ l.ok m.ok) → Is f.rel (l.p + m.n) (m.p + l.n)
fact_of f l m t =
    let a = (l.is (both_left l.ok m.ok t)).0 in
    let b = (m.is (both_right l.ok m.ok t)).0 in
    shift f.rel _ _ _ _ (l.n + m.n) (dn f.x + dn f.y) f.fact (omega arith) (omega arith)

pub lt_true_is : (x y : ℤ) → lt_z x y ≡ true → up x + dn y < up y + dn x
lt_true_is x y e = parts_lt (lt_z_yes {a = x} {b = y} (subst T (sym e) tt))

abbrev pub lt_true : (x y : ℤ) → lt_z x y ≡ true → Compared
lt_true x y e = record { x = x; y = y; rel = below; fact = lt_true_is x y e }

pub lt_false_is : (x y : ℤ) → lt_z x y ≡ false → up y + dn x ≤ up x + dn y
lt_false_is x y e = parts_le (lt_z_no {a = x} {b = y} (subst (λ (b : Bool). T (not b)) (sym e) tt))

abbrev pub lt_false : (x y : ℤ) → lt_z x y ≡ false → Compared
lt_false x y e = record { x = y; y = x; rel = upto; fact = lt_false_is x y e }

pub le_true_is : (x y : ℤ) → le_z x y ≡ true → up x + dn y ≤ up y + dn x
le_true_is x y e = parts_le (le_z_yes {a = x} {b = y} (subst T (sym e) tt))

abbrev pub le_true : (x y : ℤ) → le_z x y ≡ true → Compared
le_true x y e = record { x = x; y = y; rel = upto; fact = le_true_is x y e }

pub le_false_is : (x y : ℤ) → le_z x y ≡ false → up y + dn x < up x + dn y
le_false_is x y e = parts_lt (le_z_no {x = x} {y = y} (subst (λ (b : Bool). T (not b)) (sym e) tt))

abbrev pub le_false : (x y : ℤ) → le_z x y ≡ false → Compared
le_false x y e = record { x = y; y = x; rel = below; fact = le_false_is x y e }

-- `==` and `!=` compare bits: with a literal, or with the bits of another number
pub bits_same : (w : Width) {m n : ℕ} → m ≡ n → to_z w m ≡ to_z w n
bits_same w e = ap (to_z w) e

abbrev pub same_lit : (w : Width) (x : ℤ) (n : ℕ) → of_z w x ≡ n → T (ltb n (2 ^ bits w)) → Compared
same_lit w x n e t = record { x = to_z w (of_z w x); y = to_z w n; rel = same; fact = parts_eq (bits_same w e) }

abbrev pub same_both : (w : Width) (x y : ℤ) → of_z w x ≡ of_z w y → Compared
same_both w x y e = record { x = to_z w (of_z w x); y = to_z w (of_z w y); rel = same; fact = parts_eq (bits_same w e) }

-- a function type is no fact for `search`: `differ h`
pub record Differ (m n : ℕ) : Type 0 where
  pub differ_is : m ≡ n → ⊥

pub differ : {m n : ℕ} → (m ≡ n → ⊥) → Differ m n
differ f = record { differ_is = f }

pub other_lit_is : (w : Width) (x : ℤ) (n : ℕ) → (of_z w x ≡ n → ⊥) → T (ltb n (2 ^ bits w)) → up x + dn (to_z w n) ≡ up (to_z w n) + dn x → ⊥
other_lit_is w x n f t e = f (ap (of_z w) (eq_parts x (to_z w n) e) ∙ of_z-to_z w n (record { fits = ltb→lt n (2 ^ bits w) t }))

abbrev pub other_lit : (w : Width) (x : ℤ) (n : ℕ) → Differ (of_z w x) n → T (ltb n (2 ^ bits w)) → Compared
other_lit w x n f t = record { x = x; y = to_z w n; rel = other; fact = other_lit_is w x n f.differ_is t }

pub other_both_is : (w : Width) (x y : ℤ) → (of_z w x ≡ of_z w y → ⊥) → up x + dn y ≡ up y + dn x → ⊥
other_both_is w x y f e = f (ap (of_z w) (eq_parts x y e))

abbrev pub other_both : (w : Width) (x y : ℤ) → Differ (of_z w x) (of_z w y) → Compared
other_both w x y f = record { x = x; y = y; rel = other; fact = other_both_is w x y f.differ_is }

-- the same, where what is known is the flag
abbrev pub same_flag : (w : Width) (x : ℤ) (n : ℕ) → eqb (of_z w x) n ≡ true → T (ltb n (2 ^ bits w)) → Compared
same_flag w x n e t = same_lit w x n (eqb-true (of_z w x) n e) t

abbrev pub same_flags : (w : Width) (x y : ℤ) → eqb (of_z w x) (of_z w y) ≡ true → Compared
same_flags w x y e = same_both w x y (eqb-true (of_z w x) (of_z w y) e)

abbrev pub other_flag : (w : Width) (x : ℤ) (n : ℕ) → eqb (of_z w x) n ≡ false → T (ltb n (2 ^ bits w)) → Compared
other_flag w x n e t = other_lit w x n (differ (eqb-false (of_z w x) n e)) t

abbrev pub other_flags : (w : Width) (x y : ℤ) → eqb (of_z w x) (of_z w y) ≡ false → Compared
other_flags w x y e = other_both w x y (differ (eqb-false (of_z w x) (of_z w y) e))

abbrev pub not_flag : (w : Width) (x : ℤ) (n : ℕ) → not (eqb (of_z w x) n) ≡ true → T (ltb n (2 ^ bits w)) → Compared
not_flag w x n e t = other_flag w x n (not-true (eqb (of_z w x) n) e) t

abbrev pub not_flags : (w : Width) (x y : ℤ) → not (eqb (of_z w x) (of_z w y)) ≡ true → Compared
not_flags w x y e = other_flags w x y (not-true (eqb (of_z w x) (of_z w y)) e)

abbrev pub not_not_flag : (w : Width) (x : ℤ) (n : ℕ) → not (eqb (of_z w x) n) ≡ false → T (ltb n (2 ^ bits w)) → Compared
not_not_flag w x n e t = same_flag w x n (not-false (eqb (of_z w x) n) e) t

abbrev pub not_not_flags : (w : Width) (x y : ℤ) → not (eqb (of_z w x) (of_z w y)) ≡ false → Compared
not_not_flags w x y e = same_flags w x y (not-false (eqb (of_z w x) (of_z w y)) e)

pub ruleset told = (same_flag, same_flags, other_flag, other_flags, not_flag, not_flags, not_not_flag, not_not_flags, lt_true, lt_false, le_true, le_false, same_lit, same_both, other_lit, other_both, tt)

-- ---- a cast to an unsigned type, of a number that is not negative
pub nat_is : {z : ℤ} (v : View z) → T v.ok → v.n ≤ v.p → (T (non_neg z)) × (nat_abs z + v.n ≡ v.p)
unfolding up dn
nat_is {z = pos a} v t h = (tt, omega (arith, (v.is t).0))
nat_is {z = negsuc a} v t h = absurd (omega (arith, (v.is t).0))

pub to_nat : (w : Width) (z : ℤ) (v : View z) → T (◌&&◌ v.ok (ltb v.top (2 ^ bits w))) → v.n ≤ v.p → T (non_neg z) × Fits w (nat_abs z)
unfolding up dn
to_nat w (pos a) v t h = (tt, record { fits = omega (arith, v.is (both_left v.ok (ltb v.top (2 ^ bits w)) t), ltb→lt v.top (2 ^ bits w) (both_right v.ok (ltb v.top (2 ^ bits w)) t)) })
to_nat w (negsuc a) v t h = absurd (omega (arith, (v.is (both_left v.ok (ltb v.top (2 ^ bits w)) t)).0))
