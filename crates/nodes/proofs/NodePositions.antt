-- A node's positions: which floats are good, by the whole number that each is cut to, and that casts lose nothing of them.
use Rattle.std.proofs.Common.{◌≡◌, ℕ, zero, suc, ◌*◌, ◌/◌, ◌%◌, ◌^◌, ◌<◌, ◌≤◌, Bool, true, false, cond, not, ◌&&◌, T, eqb, ltb, leb, ℤ, pos, negsuc, neg_ℤ, nat_abs, sym, refl, ap, ◌∙◌, true≢false, arith, lit<, lit≤, eqb→eq, leb→le, w64, SFits, to_z, of_z, lt-ltb, eq-eqb, ne_eqb, le-leb}
use native.Mathlib.Nat as N
use native.Mathlib.Decide.{ℕ_discrete}
use lib.Dec.{eqb-suc-zero}
use lib.Arith.{mod-mul}
use lib.Signed.{quot_z, rem_z}
use lib.Ieee.{Float, nan, inf, fin, up, down, binary64, of_int, to_signed, in_signed, whole, fits, to_bits, is_nan, in_float, le, lt}
use lib.Ieee.Fits.{down_pos, and_l, and_r, of_int-fits}
use lib.Ieee.Exact.{HasValue}
use lib.Ieee.Casts.{to_signed_cut}
use lib.Ieee.Back.{Float-back_signed}
use mir.ValLaws.{to_z-of_z}
use Rattle.whole.proofs.Bools.{is_true, is_false, from_true}
use Rattle.whole.proofs.View.{view, v_abs, fits as seen_fits}
use Rattle.whole.proofs.Floats.{within, in_range, out_low, out_high, castable, cut_small, cut_fits, within_not_nan, signed_size, is_below, int_value, int_in, value_not_nan, same_bits}
use Rattle.nodes.specs.Nodes.{good_position}

zero_same : (a b : ℕ) → (a ≡ 0 → b ≡ 0) → (b ≡ 0 → a ≡ 0) → eqb a 0 ≡ eqb b 0
zero_same a b f g = elim (ℕ_discrete a 0) [ yes h ↦ rw (eq-eqb a 0 h, eq-eqb b 0 (f h)) | no h ↦ rw (ne_eqb a 0 h, ne_eqb b 0 (λ e. h (g e))) ]

-- ---- fractions with the denominator d: which are whole multiples of 4
zero_first : (a d : ℕ) → 0 < d → a * d ≡ 0 → a ≡ 0
zero_first zero d D h = refl
zero_first (suc a) d D h = absurd (omega (arith, N.suc-mul a d))

module _ (n d : ℕ) (D : 0 < d) where
  fourth : eqb (n * d % (4 * d)) 0 ≡ eqb (n % 4) 0
  fourth =
      let e : n * d % (4 * d) ≡ (n % 4) * d = mod-mul (n * d) (lit< tt) D ∙ rw (N.mul-div_cancel n D, N.mul-mod_left n d) (omega arith) in
      zero_same _ _ (λ z. zero_first (n % 4) d D (sym e ∙ z)) (λ z. e ∙ rw z (N.zero-mul d))

  whole_of_fours : n % (4 * d) ≡ 0 → n % d ≡ 0
  whole_of_fours h = omega (arith, mod-mul n {m = 4} {c = d} (lit< tt) D)

-- ---- a whole number of size at most 2 ^ 36, as a float; 0 has no sign
value_position : (x : Float) (s : Bool) (n : ℕ) → HasValue x s n 1 → n ≤ 2 ^ 36 → (s ≡ true → 0 < n) → good_position x ≡ eqb (n % 4) 0
unfolding good_position
value_position nan s n v l z = absurd v
value_position (inf t) s n v l z = absurd v
value_position (fin t m e) s n v l z =
    let is : m * up e ≡ n * down e = sym (N.mul-one (m * up e)) ∙ v.1 in
    rw (unsigned t v.0 is, is, le-leb (n * down e) (2 ^ 36 * down e) (N.mul-le-mul_right (down e) l), fourth n (down e) (down_pos e)) (and_true (eqb (n % 4) 0))
  where
    and_true : (a : Bool) → (a && true && true) ≡ a
    and_true true = refl
    and_true false = refl

    some : (m : ℕ) → m * up e ≡ n * down e → 0 < n → eqb m 0 ≡ false
    some zero is h = let p = N.mul-pos h (down_pos e) in absurd (omega (arith, N.zero-mul (up e)))
    some (suc m) is h = eqb-suc-zero m

    unsigned : (t : Bool) → t ≡ s → m * up e ≡ n * down e → not (t && eqb m 0) ≡ true
    unsigned false w is = refl
    unsigned true w is = ap not (some m is (z (sym w)))

pub int_position : (v : ℤ) → nat_abs v ≤ 2 ^ 36 → good_position (of_int binary64 v) ≡ eqb (nat_abs v % 4) 0
int_position v h = value_position (of_int binary64 v) (is_below v) (nat_abs v) (int_value v (N.le_trans h (lit≤ tt))) h (above v)
  where
    above : (v : ℤ) → is_below v ≡ true → 0 < nat_abs v
    above (pos n) e = absurd (true≢false (sym e))
    above (negsuc n) e = N.zero-lt-suc n

-- ---- what a good position is
pub record GoodPosition (x : Float) : Type 0 where
  pub ranged : T (within 36 x)
  pub exact : T (in_signed binary64 63 x)
  pub small : nat_abs (to_signed 63 x) ≤ 2 ^ 36

position_exact : (s : Bool) (m : ℕ) (e : ℤ) → m * up e % down e ≡ 0 → m * up e / down e ≤ 2 ^ 36 → T (not (s && eqb m 0)) → T (in_signed binary64 63 (fin s m e))
unfolding in_signed whole
position_exact s m e flat small unsigned =
    let q = m * up e / down e in
    rw (eq-eqb (m * up e % down e) 0 flat, le-leb q (2 ^ 53) (N.le_trans small (lit≤ tt)), ← is_true (not (s && eqb m 0)) unsigned, side s q small) tt
  where
    side : (s : Bool) (q : ℕ) → q ≤ 2 ^ 36 → cond s (leb q (2 ^ 63)) (ltb q (2 ^ 63)) ≡ true
    side true q h = le-leb q (2 ^ 63) (N.le_trans h (lit≤ tt))
    side false q h = lt-ltb q (2 ^ 63) (N.lt_of_le_of_lt h (lit< tt))

pub position_of_lem : (x : Float) → T (good_position x) → GoodPosition x
unfolding good_position within
position_of_lem nan t = absurd t
position_of_lem (inf s) t = absurd t
position_of_lem (fin s m e) t =
    let n = m * up e in
    let d = down e in
    let four = eqb (n % (4 * d)) 0 in
    let near = leb n (2 ^ 36 * d) in
    let unsigned = not (s && eqb m 0) in
    let sized = and_l (four && near) unsigned t in
    let flat = whole_of_fours n d (down_pos e) (eqb→eq _ 0 (and_l four near sized)) in
    let l = and_r four near sized in
    let small : n / d ≤ 2 ^ 36 = N.le_of_mul-le-mul_right (N.le_trans (N.div-mul-le_self n d) (leb→le n (2 ^ 36 * d) l)) (down_pos e) in
    let exact = position_exact s m e flat small (and_r (four && near) unsigned t) in
    let size : nat_abs (to_signed 63 (fin s m e)) ≡ n / d = ap nat_abs (to_signed_cut binary64 63 s m e exact) ∙ signed_size s (n / d) in
    record { ranged = l; exact = exact; small = rw size small }

-- ---- the code's test of x: within 2 ^ 36, cut to t, cast back
pub position_low : (x : Float) → le (fin true 1 (pos 36)) x ≡ false → false ≡ good_position x
position_low x e = is_false _ (λ t. true≢false (is_true _ (position_of_lem x t).ranged ∙ out_low 36 x e))

pub position_high : (x : Float) → le x (fin false 1 (pos 36)) ≡ false → false ≡ good_position x
position_high x e = is_false _ (λ t. true≢false (is_true _ (position_of_lem x t).ranged ∙ out_high 36 x e))

neg_bits : (n : ℕ) → n < 4 → of_z w64 (neg_ℤ (pos n)) ≡ 0 → n ≡ 0
neg_bits zero l h = refl
neg_bits (suc n) l h = omega arith

rem_says : (t : ℤ) → eqb (of_z w64 (rem_z t (pos 4))) 0 ≡ eqb (nat_abs t % 4) 0
rem_says (pos n) = refl
rem_says (negsuc n) =
    zero_same _ _ (neg_bits (suc n % 4) (N.mod-lt (suc n) (lit< tt))) (ap (λ (z : ℕ). of_z w64 (neg_ℤ (pos z))))

module _ (x : Float) (low : le (fin true 1 (pos 36)) x ≡ true) (high : le x (fin false 1 (pos 36)) ≡ true) where
  ranged : within 36 x ≡ true
  ranged = in_range 36 x low high

  pub castable_low : T (le (fin true 1 (pos 63)) x)
  castable_low = (castable 36 x (lit< tt) (from_true ranged)).0

  pub castable_high : T (lt x (fin false 1 (pos 63)))
  castable_high = (castable 36 x (lit< tt) (from_true ranged)).1

  pub position_not_nan : T (not (is_nan x))
  position_not_nan = within_not_nan 36 x (from_true ranged)

  module _ (t : ℤ) (cut : t ≡ to_signed 63 x) where
    pub cut_read : to_z w64 (of_z w64 t) ≡ t
    cut_read = to_z-of_z w64 t (cut_fits 36 x t (lit< tt) ranged cut)

    cut_size : nat_abs t ≤ 2 ^ 36
    cut_size = rw cut (cut_small 36 x (lit< tt) (from_true ranged))

    pub cut_in : T (in_float binary64 (to_z w64 (of_z w64 t)))
    cut_in = rw cut_read (int_in t (N.le_trans cut_size (lit≤ tt)))

    pub cut_not_nan : T (not (is_nan (of_int binary64 (to_z w64 (of_z w64 t)))))
    cut_not_nan = rw cut_read (value_not_nan _ _ _ _ (int_value t (N.le_trans cut_size (lit≤ tt))))

    pub cut_quarter : SFits w64 (quot_z (to_z w64 (of_z w64 t)) (pos 4))
    cut_quarter = rw cut_read (let v = v_abs t (2 ^ 36) cut_size in seen_fits (search view) tt)

    module _ (f : T (fits binary64 x)) where
      pub position_other : (to_bits binary64 (of_int binary64 (to_z w64 (of_z w64 t))) ≡ to_bits binary64 x → ⊥) → false ≡ good_position x
      position_other n = is_false _ (λ g. n (ap (to_bits binary64) (rw (cut_read, cut) (Float-back_signed binary64 63 x f (position_of_lem x g).exact).1)))

      pub position_same : to_bits binary64 (of_int binary64 (to_z w64 (of_z w64 t))) ≡ to_bits binary64 x → eqb (of_z w64 (rem_z (to_z w64 (of_z w64 t)) (pos 4))) 0 ≡ good_position x
      position_same e =
          let is : of_int binary64 t ≡ x = same_bits _ x (of_int-fits binary64 t) f (rw cut_read at e) in
          rw cut_read (rem_says t) ∙ sym (int_position t cut_size) ∙ ap good_position is

pub ruleset positions = (position_low, position_high, castable_low, castable_high, position_not_nan, cut_in, cut_not_nan, cut_quarter, position_other, position_same)
