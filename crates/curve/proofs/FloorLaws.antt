-- The floor from the bits: equal fractions have the same floor, and the fields of a pattern give one.
use mathlib.Core.Path.{◌≡◌, refl, sym, ap, ◌∙◌, subst}
use mathlib.Core.Bool.{Bool, true, false, cond, false≢true}
use Prim.Native.Nat.{ℕ, zero, suc, ◌+◌, ◌-◌, ◌*◌, ◌/◌, ◌%◌, ◌^◌, ◌≤◌, ◌<◌}
use native.Mathlib.Omega.{arith}
use native.Mathlib.Decide.{dec_lt}
use native.Mathlib.Nat.{mul-one, mul-pos, mul_assoc, mul_right_comm, mul-le-mul_right, le_trans, le_of_eq, lt_irrefl, lt_of_lt_of_le, mod-lt, sub-add_cancel, eq_of_mul-eq-mul_right, div-lt_iff_lt-mul, div-eq_of_lt, div-le_self, div-le_of_le-mul, mul_comm, suc-mul, le_of_suc-le-suc}
use lib.Dec.{T, leb, eqb, le→leb, lt→ltb, lit≤, lit<}
use lib.IntN.{ℤ, pos, negsuc, neg_ℤ, nat_abs, ◌-ℤ◌}
use lib.Pow.{pow_pos, pow_mono, pow-lt, pow-add, shl_lt}
use lib.Ieee.{Float, nan, inf, fin, binary64, up, down, of_fields, of_bits, to_bits, in_float}
use lib.Ieee.Fits.{down_pos}
use lib.Ieee.Exact.{HasValue, odd_sign}
use lib.Ieee.Bits.{of_bits-to_bits, to_bits-lt}
use denote.Floats.{passes}
use borrow.Author.Tests.{le-leb, lt-leb, leb-true}
use mir.Syntax.{w64}
use mir.Val.{SFits, to_z}
use Rattle.whole.proofs.Fractions.{same_down, same_up, up_by_less}
use Rattle.whole.proofs.View.{rd, View, v_abs, v_pos, v_upto, v_negsuc, v_add, v_neg, v_unsigned, v_bits, eq_by, kept, fits}
use Rattle.curve.specs.Points.{near, floor_at, floor}
use Rattle.curve.proofs.NearLaws.{near_size}

-- ---- equal fractions: x is a / c in size, with the sign s
floor_value : (x : Float) (s : Bool) (a c : ℕ) → 0 < c → HasValue x s a c → floor x ≡ floor_at s a c
unfolding floor
floor_value nan s a c C v = absurd v
floor_value (inf z) s a c C v = absurd v
floor_value (fin z m e) s a c C v = ap (λ (u : Bool). floor_at u (m * up e) (down e)) v.0 ∙ go s
  where
    go : (u : Bool) → floor_at u (m * up e) (down e) ≡ floor_at u a c
    go false = ap pos (same_down (m * up e) (down e) a c (down_pos e) C v.1)
    go true = ap (λ (n : ℕ). neg_ℤ (pos n)) (same_up (m * up e) (down e) a c (down_pos e) C v.1)

-- d * 2 ^ x over 2 ^ l is d over 2 ^ (l - x)
reduced : (y : Float) (s : Bool) (d x l : ℕ) → x ≤ l → HasValue y s (d * 2 ^ x) (2 ^ l) → HasValue y s d (2 ^ (l - x))
reduced nan s d x l h v = v
reduced (inf t) s d x l h v = v
reduced (fin t m e) s d x l h v = (
  v.0,
  eq_of_mul-eq-mul_right (2 ^ x) (pow_pos x) (m * up e * 2 ^ (l - x)) (d * down e)
      (mul_assoc (m * up e) (2 ^ (l - x)) (2 ^ x)
      ∙ ap (λ (z : ℕ). m * up e * z) (sym (pow-add 2 (l - x) x) ∙ ap (λ (z : ℕ). 2 ^ z) (sub-add_cancel h))
      ∙ v.1
      ∙ mul_right_comm d (2 ^ x) (down e)),
)

-- ---- a pattern's fields: the sign, the exponent, and the digits below the leading one
abbrev pub sign : ℕ → Bool
sign b = leb (2 ^ 63) b

abbrev pub exponent : ℕ → ℕ
exponent b = b % 2 ^ 63 / 2 ^ 52

abbrev pub digits : ℕ → ℕ
digits b = b % 2 ^ 52

-- of no exponent, in units of 2 ^ -1074; of one, with the leading digit
plain_value : (b : ℕ) → exponent b ≡ 0 → HasValue (of_bits binary64 b) (sign b) (digits b) (2 ^ 1074)
unfolding of_bits of_fields
plain_value b z = rw z (rw mul-one at (odd_sign 53 (sign b) (digits b) 0 1074))

leading_is : (p q s : Bool) (y : Float) → near (cond p (cond q (inf s) nan) y) ≡ true → cond p (cond q (inf s) nan) y ≡ y
unfolding near
leading_is true true s y t = absurd (false≢true t)
leading_is true false s y t = absurd (false≢true t)
leading_is false q s y t = refl

leading_value : (b x : ℕ) → near (of_bits binary64 b) ≡ true → exponent b ≡ suc x → HasValue (of_bits binary64 b) (sign b) ((2 ^ 52 + digits b) * 2 ^ x) (2 ^ 1074)
unfolding of_bits of_fields
leading_value b x n z =
    rw z (subst (λ (y : Float). HasValue y (sign b) ((2 ^ 52 + digits b) * 2 ^ x) (2 ^ 1074)) (sym (leading_is (eqb (suc x) 2047) (eqb (digits b) 0) (sign b) _ (rw z at n))) (odd_sign 53 (sign b) (2 ^ 52 + digits b) x 1074))

-- a number of size at most 2 ^ 31 has an exponent of at most 1054
exponent_most : (d x : ℕ) → 2 ^ 52 ≤ d → d * 2 ^ x ≤ 2 ^ 31 * 2 ^ 1074 → x ≤ 1053
exponent_most d x h k = elim (dec_lt 1053 x) [
  | yes l ↦ absurd (lt_irrefl (2 ^ 1105) (lt_of_lt_of_le (pow-lt {j = 52 + x} (more x l)) (le_trans (le_of_eq (pow-add 2 52 x)) (le_trans (mul-le-mul_right (2 ^ x) h) k))))
  | no l ↦ omega arith
]
  where
    more : (x : ℕ) → 1053 < x → 1105 < 52 + x
    more x h = omega arith

-- ---- a number below 1 in size, in units of 2 ^ -1074. There are none where the pattern, but for its sign, is 0
record Small (b : ℕ) : Type 0 where
  n : ℕ
  value : HasValue (of_bits binary64 b) (sign b) n (2 ^ 1074)
  below : n < 2 ^ 1074
  none : b % 2 ^ 63 ≡ 0 → n ≡ 0
  some : 0 < b % 2 ^ 63 → 0 < n

small : (b : ℕ) → near (of_bits binary64 b) ≡ true → exponent b < 1023 → Small b
small b t h = go (exponent b) refl h
  where
    go : (k : ℕ) → exponent b ≡ k → k < 1023 → Small b
    go zero z h = record { n = digits b; value = plain_value b z; below = lt_of_lt_of_le (mod-lt b (lit< tt)) (lit≤ tt); none = λ p. omega arith; some = λ p. omega arith }
    go (suc x) z h = record {
      n = (2 ^ 52 + digits b) * 2 ^ x;
      value = leading_value b x t z;
      below = lt_of_lt_of_le (shl_lt 53 x (omega arith)) (pow_mono {j = 1074} (omega arith));
      none = λ p. absurd (omega arith);
      some = λ p. mul-pos (omega arith) (pow_pos x);
    }

-- the floor of n / c below 1, and of - n / c
below_one : (n c : ℕ) → n < c → floor_at false n c ≡ pos 0
below_one n c h = ap pos (div-eq_of_lt h)

above_minus_one : (n c : ℕ) → 0 < n → n < c → floor_at true n c ≡ negsuc 0
above_minus_one n c N h = ap (λ (q : ℕ). neg_ℤ (pos q)) (up_by_less n c N (omega arith) ∙ ap (λ (q : ℕ). q + 1) (div-eq_of_lt (omega arith)))

minus_zero : (c : ℕ) → 0 < c → floor_at true 0 c ≡ pos 0
minus_zero c C = ap (λ (q : ℕ). neg_ℤ (pos q)) (div-eq_of_lt {n = 0 + (c - 1)} {m = c} (omega arith))

-- ---- the floor is at most 2 ^ 31 in size
neg_size : (n : ℕ) → nat_abs (neg_ℤ (pos n)) ≡ n
neg_size zero = refl
neg_size (suc n) = refl

floor_at_size : (s : Bool) (a c k : ℕ) → 0 < c → a ≤ k * c → nat_abs (floor_at s a c) ≤ k
floor_at_size false a c k C h = div-le_of_le-mul c (omega (arith, mul_comm c k))
floor_at_size true a c k C h = rw neg_size (le_of_suc-le-suc ((div-lt_iff_lt-mul {x = a + (c - 1)} {y = suc k} C).1 (omega (arith, suc-mul k c))))

pub floor_size : (x : Float) → near x ≡ true → nat_abs (floor x) ≤ 2 ^ 31
unfolding near floor
floor_size nan t = absurd (false≢true t)
floor_size (inf s) t = absurd (false≢true t)
floor_size (fin s m e) t = floor_at_size s (m * up e) (down e) (2 ^ 31) (down_pos e) (leb-true (m * up e) (2 ^ 31 * down e) t)

-- ---- what the code has of x: its bits, and that it is near
module _ (x : Float) (f : lib.Ieee.fits binary64 x ≡ true) (t : near x ≡ true) where
  abbrev pub bits : ℕ
  bits = to_bits binary64 x

  own : of_bits binary64 bits ≡ x
  own = of_bits-to_bits binary64 x (passes (lib.Ieee.fits binary64 x) f)

  own_near : near (of_bits binary64 bits) ≡ true
  own_near = ap near own ∙ t

  bits_most : bits < 2 ^ 64
  bits_most = to_bits-lt binary64 x (passes (lib.Ieee.fits binary64 x) f)

  -- its floor, by a fraction that its pattern equals
  floor_own : (s : Bool) (a c : ℕ) → sign bits ≡ s → 0 < c → HasValue (of_bits binary64 bits) (sign bits) a c → floor_at s a c ≡ floor x
  floor_own s a c e C v = ap (λ (u : Bool). floor_at u a c) (sym e) ∙ sym (floor_value (of_bits binary64 bits) (sign bits) a c C v) ∙ ap floor own

  pub floor_minus_one : exponent bits < 1023 → 2 ^ 63 < bits → negsuc 0 ≡ floor x
  floor_minus_one h l =
      let v = small bits own_near h in
      sym (above_minus_one v.n (2 ^ 1074) (v.some (omega (arith, bits_most))) v.below)
      ∙ floor_own true v.n (2 ^ 1074) (le-leb (2 ^ 63) bits (omega arith)) (pow_pos 1074) v.value

  pub floor_zero : exponent bits < 1023 → bits ≤ 2 ^ 63 → pos 0 ≡ floor x
  floor_zero h l =
      let v = small bits own_near h in
      elim (dec_lt bits (2 ^ 63)) [
        | yes k ↦ sym (below_one v.n (2 ^ 1074) v.below) ∙ floor_own false v.n (2 ^ 1074) (lt-leb (2 ^ 63) bits k) (pow_pos 1074) v.value
        | no k ↦
            sym (minus_zero (2 ^ 1074) (pow_pos 1074))
            ∙ floor_own true 0 (2 ^ 1074) (le-leb (2 ^ 63) bits (omega arith)) (pow_pos 1074)
            (subst (λ (n : ℕ). HasValue (of_bits binary64 bits) (sign bits) n (2 ^ 1074)) (v.none (omega arith)) v.value)
      ]

  -- of an exponent: digits / 2 ^ places
  leading_places : (k : ℕ) → exponent bits ≡ k → 0 < k → (k ≤ 1054) × HasValue (of_bits binary64 bits) (sign bits) (2 ^ 52 + digits bits) (2 ^ (1075 - k))
  leading_places zero z h = absurd (omega arith)
  leading_places (suc y) z h =
      let v = leading_value bits y own_near z in
      let l = exponent_most (2 ^ 52 + digits bits) y (omega arith) (near_size (of_bits binary64 bits) (sign bits) ((2 ^ 52 + digits bits) * 2 ^ y) (2 ^ 1074) own_near v) in
      let p : 1074 - y ≡ 1075 - suc y = omega arith in
      (omega arith, subst (λ (k : ℕ). HasValue (of_bits binary64 bits) (sign bits) (2 ^ 52 + digits bits) (2 ^ k)) p (reduced (of_bits binary64 bits) (sign bits) (2 ^ 52 + digits bits) y 1074 (omega arith) v))

  -- from 1 up
  module _ (h : 1023 ≤ exponent bits) where
    from_one : (exponent bits ≤ 1054) × HasValue (of_bits binary64 bits) (sign bits) (2 ^ 52 + digits bits) (2 ^ (1075 - exponent bits))
    from_one = leading_places (exponent bits) refl (omega arith)

    pub exponent_fits : exponent bits ≤ 1075
    exponent_fits = omega (arith, from_one.0)

    pub floor_leading : {z : ℤ} → z ≡ floor_at (sign bits) (2 ^ 52 + digits bits) (2 ^ (1075 - exponent bits)) → rd w64 z ≡ floor x
    floor_leading e =
        kept w64 (e ∙ floor_own (sign bits) (2 ^ 52 + digits bits) (2 ^ (1075 - exponent bits)) refl (pow_pos (1075 - exponent bits)) from_one.1) (v_abs (floor x) (2 ^ 31) (floor_size x t)) tt

  -- ---- x as a fraction of its pattern's fields
  pub value_own : (s : Bool) (a c : ℕ) → HasValue (of_bits binary64 bits) s a c → HasValue x s a c
  value_own s a c v = subst (λ (y : Float). HasValue y s a c) own v

  pub plain : exponent bits ≡ 0 → HasValue x (sign bits) (digits bits) (2 ^ 1074)
  plain z = value_own (sign bits) (digits bits) (2 ^ 1074) (plain_value bits z)

  pub leading : 0 < exponent bits → (exponent bits ≤ 1054) × HasValue x (sign bits) (2 ^ 52 + digits bits) (2 ^ (1075 - exponent bits))
  leading h =
      let v = leading_places (exponent bits) refl h in
      (v.0, value_own (sign bits) (2 ^ 52 + digits bits) (2 ^ (1075 - exponent bits)) v.1)

-- ---- the floor of digits / 2 ^ places, and of that below 0, by a shift
whole_most : (d k : ℕ) → d < 2 ^ 53 → d / 2 ^ k ≤ 2 ^ 53
whole_most d k h = omega (arith, div-le_self d (2 ^ k))

module _ (s : Bool) (d k : ℕ) (h : d < 2 ^ 53) where
  short_most : (d - 1) / 2 ^ k ≤ 2 ^ 53
  short_most = whole_most (d - 1) k (omega arith)

  abbrev v_below : View (negsuc 0 -ℤ to_z w64 ((d - 1) / 2 ^ k))
  v_below = v_add (v_negsuc 0) (v_neg (v_unsigned w64 ((d - 1) / 2 ^ k) (2 ^ 53) short_most))

  pub whole_fits : SFits w64 (pos (d / 2 ^ k))
  whole_fits = fits (v_upto (d / 2 ^ k) (2 ^ 53) (whole_most d k h)) tt

  pub short_fits : SFits w64 (pos ((d - 1) / 2 ^ k))
  short_fits = fits (v_upto ((d - 1) / 2 ^ k) (2 ^ 53) short_most) tt

  pub below_fits : SFits w64 (negsuc 0 -ℤ to_z w64 ((d - 1) / 2 ^ k))
  below_fits = fits v_below tt

  pub floor_at_above : s ≡ false → to_z w64 (d / 2 ^ k) ≡ floor_at s d (2 ^ k)
  floor_at_above e = rw e (eq_by (v_unsigned w64 (d / 2 ^ k) (2 ^ 53) (whole_most d k h)) (v_pos (d / 2 ^ k)) tt (omega arith))

  pub floor_at_below : 0 < d → s ≡ true → rd w64 (negsuc 0 -ℤ to_z w64 ((d - 1) / 2 ^ k)) ≡ floor_at s d (2 ^ k)
  floor_at_below D e =
      rw e (eq_by (v_bits w64 (negsuc 0 -ℤ to_z w64 ((d - 1) / 2 ^ k)) v_below) (v_neg (v_pos ((d + (2 ^ k - 1)) / 2 ^ k))) tt (omega (arith, up_by_less d (2 ^ k) D (pow_pos k))))

-- ---- a whole number of this size is an f64
small_exact : (z : ℤ) → nat_abs z ≤ 2 ^ 31 → T (in_float binary64 z)
unfolding in_float
small_exact (pos n) h = le→leb n (2 ^ 53) (omega arith)
small_exact (negsuc n) h = lt→ltb n (2 ^ 53) (omega arith)

pub cast_exact : (m : ℤ) → nat_abs m ≤ 2 ^ 31 → T (in_float binary64 (rd w64 m))
cast_exact m h = rw (kept w64 refl (v_abs m (2 ^ 31) h) tt) (small_exact m h)

pub ruleset floors = (floor_minus_one, floor_zero, exponent_fits, floor_leading)

pub ruleset shifts = (whole_fits, floor_at_above, short_fits, below_fits, floor_at_below)
