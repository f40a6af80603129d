-- Floats of size at most 2 ^ k, by two comparisons, and the whole numbers that they are cut to; whole numbers as floats, of which casts lose nothing.
use mathlib.Core.Path.{◌≡◌, refl, sym, ap, ◌∙◌}
use mathlib.Core.Bool.{Bool, true, false, not, ◌&&◌, ◌||◌, cond, and-true}
use Prim.Native.Nat.{ℕ, zero, suc, ◌+◌, ◌-◌, ◌*◌, ◌/◌, ◌^◌, ◌≤◌, ◌<◌, min}
use native.Mathlib.Nat.{mul-one, one-mul, mul-pos, le_trans, lt_of_le_of_lt, div-mul-le_self, le_of_mul-le-mul_right, mul-le-mul_right, le_of_suc-le-suc}
use native.Mathlib.Omega.{arith}
use native.Mathlib.Decide.{dec_lt}
use borrow.Author.Tests.{lt-ltb, le-ltb, le-leb, lt-leb, eq-eqb, ne_eqb}
use lib.Dec.{T, ltb, leb, eqb, leb→le, le→leb, lt→ltb, lit≤, lit<}
use lib.IntN.{ℤ, pos, negsuc, neg_ℤ, nat_abs}
use lib.Signed.{mag}
use lib.Pow.{pow_pos, pow_mono, pow-lt}
use lib.Ieee.{Float, nan, inf, fin, up, down, lt, le, binary64, of_int, to_signed, in_float, fits, is_nan, to_bits, of_bits}
use lib.Ieee.Fits.{down_pos}
use lib.Ieee.Exact.{HasValue}
use lib.Ieee.Back.{positive_back, negative_back, round_whole}
use lib.Ieee.Bits.{of_bits-to_bits}
use mir.Syntax.{w64}
use mir.Val.{SFits}
use Rattle.whole.proofs.Bools.{from_true}

-- ---- a number of size at most 2 ^ k: the size of fin s m e is m * up e / down e
unfoldable pub within : ℕ → Float → Bool
within k nan = false
within k (inf s) = false
within k (fin s m e) = leb (m * up e) (2 ^ k * down e)

-- a ≤ b, as `le` tests it: u is whether they are the same
less_or_same : (a b : ℕ) (u r : Bool) → (a ≡ b → u ≡ true) → ((a ≡ b → ⊥) → u ≡ false) → (ltb a b || (u && (true || r))) ≡ leb a b
less_or_same a b u r same other = elim (dec_lt a b) [
  | yes h ↦ simp (lt-ltb a b h, le-leb a b (omega arith))
  | no h ↦ elim (dec_lt b a) [
    | yes k ↦ simp (le-ltb a b (omega arith), other (omega arith), lt-leb a b k)
    | no k ↦ simp (le-ltb a b (omega arith), same (omega arith), le-leb a b (omega arith))
  ]
]

-- a size B against A, as a comparison with A and with -A has it
module _ (A B : ℕ) where
  at_most : (r : Bool) → (ltb (B * 1) A || (eqb (B * 1) A && (true || r))) ≡ leb B A
  at_most r = less_or_same (B * 1) A (eqb (B * 1) A) r (eq-eqb (B * 1) A) (ne_eqb (B * 1) A) ∙ ap (λ (n : ℕ). leb n A) (mul-one B)

  at_least : (r : Bool) → (ltb (B * 1) A || (eqb A (B * 1) && (true || r))) ≡ leb B A
  at_least r = less_or_same (B * 1) A (eqb A (B * 1)) r (λ h. eq-eqb A (B * 1) (sym h)) (λ h. ne_eqb A (B * 1) (λ k. h (sym k))) ∙ ap (λ (n : ℕ). leb n A) (mul-one B)

within_is : (k : ℕ) (x : Float) → (le (fin true 1 (pos k)) x && le x (fin false 1 (pos k))) ≡ within k x
unfolding within le
within_is k nan = refl
within_is k (inf true) = refl
within_is k (inf false) = refl
within_is k (fin false m e) =
    let A = 2 ^ k * down e in
    let B = m * up e in
    let P : 0 < A = mul-pos (pow_pos k) (down_pos e) in
    simp (one-mul, lt-ltb 0 (A + B * 1) (omega arith), at_most A B (eqb (B * 1) 0))
within_is k (fin true m e) =
    let A = 2 ^ k * down e in
    let B = m * up e in
    let P : 0 < A = mul-pos (pow_pos k) (down_pos e) in
    simp (one-mul, lt-ltb 0 (B * 1 + A) (omega arith), at_least A B (eqb A 0)) (and-true (leb B A))

pub in_range : (k : ℕ) (x : Float) → le (fin true 1 (pos k)) x ≡ true → le x (fin false 1 (pos k)) ≡ true → within k x ≡ true
in_range k x p q = sym (within_is k x) ∙ rw (p, q)

pub out_low : (k : ℕ) (x : Float) → le (fin true 1 (pos k)) x ≡ false → within k x ≡ false
out_low k x p = sym (within_is k x) ∙ rw p

pub out_high : (k : ℕ) (x : Float) → le x (fin false 1 (pos k)) ≡ false → within k x ≡ false
out_high k x p = sym (within_is k x) ∙ rw p (and_false (le (fin true 1 (pos k)) x))
  where
    and_false : (b : Bool) → (b && false) ≡ false
    and_false true = refl
    and_false false = refl

-- ---- the cut toward zero
abbrev pub signed : Bool → ℕ → ℤ
signed s q = cond s (neg_ℤ (pos q)) (pos q)

pub signed_size : (s : Bool) (q : ℕ) → nat_abs (signed s q) ≡ q
signed_size false q = refl
signed_size true zero = refl
signed_size true (suc q) = refl

whole_part_le : (k : ℕ) (s : Bool) (m : ℕ) (e : ℤ) → T (within k (fin s m e)) → m * up e / down e ≤ 2 ^ k
unfolding within
whole_part_le k s m e t =
    le_of_mul-le-mul_right (le_trans (div-mul-le_self (m * up e) (down e)) (leb→le (m * up e) (2 ^ k * down e) t)) (down_pos e)

-- `to_signed`, with the whole part as a variable
cut_at : (s : Bool) (q : ℕ) → q ≤ 2 ^ 62 → cond s (neg_ℤ (pos (min q (2 ^ 63)))) (pos (min q (2 ^ 63 - 1))) ≡ signed s q
cut_at true q b = let e : min q (2 ^ 63) ≡ q = omega arith in rw e
cut_at false q b = let e : min q (2 ^ 63 - 1) ≡ q = omega arith in rw e

pub cut_small : (k : ℕ) (x : Float) → k < 63 → T (within k x) → nat_abs (to_signed 63 x) ≤ 2 ^ k
unfolding within to_signed
cut_small k nan K t = absurd t
cut_small k (inf s) K t = absurd t
cut_small k (fin s m e) K t =
    let q = whole_part_le k s m e t in
    rw (cut_at s (m * up e / down e) (le_trans q (pow_mono (le_of_suc-le-suc K))), signed_size s (m * up e / down e)) q

size_fits : (z : ℤ) (h : ℕ) → nat_abs z < h → mag z < h
size_fits (pos n) h l = l
size_fits (negsuc n) h l = omega arith

pub cut_fits : (k : ℕ) (x : Float) (t : ℤ) → k < 63 → within k x ≡ true → t ≡ to_signed 63 x → SFits w64 t
cut_fits k x t K w e = record { sfits = rw e (size_fits (to_signed 63 x) (2 ^ 63) (lt_of_le_of_lt (cut_small k x K (from_true w)) (pow-lt {j = 63} K))) }

-- what `truncating_f64_to_i64` asks, and `to_bits`
pub castable : (k : ℕ) (x : Float) → k < 63 → T (within k x) → T (le (fin true 1 (pos 63)) x) × T (lt x (fin false 1 (pos 63)))
unfolding within le lt
castable k nan K t = absurd t
castable k (inf s) K t = absurd t
castable k (fin s m e) K t =
    let small : m * up e ≤ 2 ^ 62 * down e = le_trans (leb→le (m * up e) (2 ^ k * down e) t) (mul-le-mul_right (down e) (pow_mono (le_of_suc-le-suc K))) in
    go s small (down_pos e)
  where
    go : (s : Bool) → m * up e ≤ 2 ^ 62 * down e → 0 < down e → T (le (fin true 1 (pos 63)) (fin s m e)) × T (lt (fin s m e) (fin false 1 (pos 63)))
    go false h d = (rw (lt-ltb 0 (2 ^ 63 * down e + m * up e * 1) (omega arith)) tt, lt→ltb (m * up e * 1) (2 ^ 63 * down e) (omega arith))
    go true h d = (rw (lt-ltb (m * up e * 1) (2 ^ 63 * down e) (omega arith)) tt, lt→ltb 0 (m * up e * 1 + 2 ^ 63 * down e) (omega arith))

pub within_not_nan : (k : ℕ) (x : Float) → T (within k x) → T (not (is_nan x))
unfolding within is_nan
within_not_nan k nan t = t
within_not_nan k (inf s) t = tt
within_not_nan k (fin s m e) t = tt

-- ---- whole numbers as floats and back
abbrev pub is_below : ℤ → Bool
is_below (pos n) = false
is_below (negsuc n) = true

pub int_value : (v : ℤ) → nat_abs v ≤ 2 ^ 53 → HasValue (of_int binary64 v) (is_below v) (nat_abs v) 1
unfolding of_int
int_value (pos n) h = round_whole binary64 false n h
int_value (negsuc n) h = round_whole binary64 true (suc n) h

pub int_in : (v : ℤ) → nat_abs v ≤ 2 ^ 53 → T (in_float binary64 v)
unfolding in_float
int_in (pos n) h = le→leb n (2 ^ 53) h
int_in (negsuc n) h = lt→ltb n (2 ^ 53) h

pub int_back : (v : ℤ) → nat_abs v ≤ 2 ^ 53 → to_signed 63 (of_int binary64 v) ≡ v
int_back (pos n) h = (positive_back binary64 63 n (int_in (pos n) h) (lt_of_le_of_lt h (lit< tt))).1
int_back (negsuc n) h = (negative_back binary64 63 n (int_in (negsuc n) h) (le_trans h (lit≤ tt))).1

pub value_not_nan : (x : Float) (s : Bool) (a c : ℕ) → HasValue x s a c → T (not (is_nan x))
unfolding is_nan
value_not_nan nan s a c v = v
value_not_nan (inf t) s a c v = tt
value_not_nan (fin t m e) s a c v = tt

-- the bits tell two floats apart
pub same_bits : (x y : Float) → T (fits binary64 x) → T (fits binary64 y) → to_bits binary64 x ≡ to_bits binary64 y → x ≡ y
same_bits x y p q e = sym (of_bits-to_bits binary64 x p) ∙ ap (of_bits binary64) e ∙ of_bits-to_bits binary64 y q
