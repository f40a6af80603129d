-- Number words, in the form of what their readers have in hand: a byte that is no digit by the arms that it passed; digits of any base one by one, where the number read so far only grows.
use mathlib.Core.Path.{◌≡◌, refl, sym, ap, ◌∙◌}
use mathlib.Core.Bool.{Bool, true, false, ◌&&◌, cond, and-false}
use mathlib.Core.List.{List, [], ◌∷◌}
use Prim.Native.Nat.{ℕ, zero, suc, ◌+◌, ◌-◌, ◌*◌, ◌/◌, ◌^◌, ◌≤◌, ◌<◌}
use native.Mathlib.Nat.{le_refl, le_trans, le-mul_of_pos_right, mul-le-mul_right, mul_assoc, mul-one, suc-mul, pow-zero, pow-succ', le-div_iff_mul-le, div-lt_iff_lt-mul}
use native.Mathlib.Numerals.{add-one}
use native.Mathlib.Decide.{dec_lt}
use native.Mathlib.Omega.{arith}
use borrow.Author.Tests.{lt-ltb, le-ltb, lt-leb, le-leb, eq-eqb, ne_eqb, ltb-true, leb-true}
use lib.Dec.{leb, ltb, eqb}
use lib.ListN.{length, get_or, take, drop, drop_of_length-le}
use lib.Seq.{drop-cons, take_all}
use lib.IntN.{ℤ, pos, negsuc, neg_ℤ, ◌-ℤ◌}
use lib.Signed.{mag}
use lib.Ieee.{Float, binary64, of_bits}
use mir.Syntax.{w8, w32, w64}
use mir.Val.{Fits, SFits, to_z, of_z}
use mir.ValLaws.{to_z_pos, to_z-of_z}
use Rattle.std.specs.Prelude.{Some, None, Option}
use Rattle.whole.proofs.Bools.{both_true}
use Rattle.whole.proofs.View.{view, v_upto, v_unsigned, fits, eq_by}
use Rattle.text.specs.Digits.{digit_of, all_digits, value_after}
use Rattle.text.specs.Decimals.{is_decimal, up_to, plain, negated, signed}
use Rattle.text.specs.Patterns.{f64}
use Rattle.text.specs.Inside.Reading.{digits_up_to}

-- ---- a byte's digit
-- b is none of n numbers from a first one on, nor what was asked before, in the form of a match's rest
abbrev Apart : ℕ → ℕ → ℕ → Type 0 → Type 0
Apart b first zero before = before
Apart b first (suc n) before = Apart b first n before × (b ≡ first + n → ⊥)

apart : (b first n : ℕ) (before : Type 0) → Apart b first n before → before × (first ≤ b → first + n ≤ b)
apart b first zero before h = (h, λ l. omega arith)
apart b first (suc n) before h =
    let i = apart b first n before h.0 in
    let j = h.1 in
    (i.0, λ l. let k = i.1 l in omega arith)

pub other_byte : (b : ℕ) → Apart b 65 6 (Apart b 48 10 Unit) → 16 ≡ digit_of b
unfolding digit_of
other_byte b h =
    let letters = apart b 65 6 (Apart b 48 10 Unit) h in
    let decimals = apart b 48 10 Unit letters.0 in
    elim (dec_lt b 48) [
      | yes l ↦ let m : b < 65 = omega arith in simp (lt-leb 48 b l, lt-leb 65 b m)
      | no l ↦
          let k : 57 < b = let d = decimals.1 (omega arith) in omega arith in
          let l' : 48 ≤ b = omega arith in
          elim (dec_lt b 65) [
            | yes m ↦ simp (le-leb 48 b l', lt-leb b 57 k, lt-leb 65 b m)
            | no m ↦
                let m' : 65 ≤ b = omega arith in
                let n : 70 < b = let d = letters.1 m' in omega arith in
                simp (le-leb 48 b l', lt-leb b 57 k, le-leb 65 b m', lt-leb b 70 n)
          ]
    ]

-- ---- digits of any base
grows : (base : ℕ) → 0 < base → (v : ℕ) (w : List ℕ) → v ≤ value_after base v w
grows base h v [] = le_refl v
grows base h v (b ∷ w) = let k : v ≤ v * base + digit_of b = omega (arith, le-mul_of_pos_right v h) in le_trans k (grows base h (v * base + digit_of b) w)

module _ (base most v : ℕ) where
  cons_bad : (b : ℕ) (w : List ℕ) → base ≤ digit_of b → None ≡ digits_up_to base most v (b ∷ w)
  unfolding digits_up_to
  cons_bad b w k = simp (le-ltb (digit_of b) base k)

  cons_go : (b : ℕ) (w : List ℕ) → digit_of b < base → digits_up_to base most (v * base + digit_of b) w ≡ digits_up_to base most v (b ∷ w)
  unfolding digits_up_to
  cons_go b w k = simp (lt-ltb (digit_of b) base k)

  -- a number above the most stays above it
  past : (w : List ℕ) → 0 < base → most < v → None ≡ digits_up_to base most v w
  unfolding digits_up_to
  past w h k =
      let l : most < value_after base v w = omega (arith, grows base h v w) in
      simp (lt-leb (value_after base v w) most l, and-false)

  nothing_more : v ≤ most → Some v ≡ digits_up_to base most v []
  unfolding digits_up_to
  nothing_more k = simp (le-leb v most k)

-- d is the digit at i; the word's rest from i, after v, gives x
module _ (base most v : ℕ) (word : List ℕ) (i d : ℕ) (x : Option ℕ) (h : 0 < base) (o : digits_up_to base most v (drop i word) ≡ x) where
  pub word_ends : v ≤ most → length word ≤ i → Some v ≡ x
  word_ends k l = nothing_more base most v k ∙ ap (digits_up_to base most v) (sym (drop_of_length-le word l)) ∙ o

  module _ (l : i < length word) (e : d ≡ digit_of (get_or word i 0)) where
    open_up : digits_up_to base most v (get_or word i 0 ∷ drop (i + 1) word) ≡ x
    open_up = ap (digits_up_to base most v) (rw (add-one i) (sym (drop-cons word i 0 l))) ∙ o

    pub no_digit : base ≤ d → None ≡ x
    no_digit k = cons_bad base most v (get_or word i 0) (drop (i + 1) word) (rw e at k) ∙ open_up

    module _ (m : d < base) where
      pub digit_more : digits_up_to base most (v * base + d) (drop (i + 1) word) ≡ x
      digit_more = rw e (cons_go base most v (get_or word i 0) (drop (i + 1) word) (rw e at m) ∙ open_up)

      pub above_most : most / base < v → None ≡ x
      above_most k = past base most (v * base + d) (drop (i + 1) word) h (omega (arith, (div-lt_iff_lt-mul {k = base} {x = most} {y = v} h).0 k)) ∙ digit_more

      pub digit_above_most : most - v * base < d → None ≡ x
      digit_above_most k = past base most (v * base + d) (drop (i + 1) word) h (omega arith) ∙ digit_more

-- what the tests show of the numbers
module _ (base most v : ℕ) (h : 0 < base) (k : v ≤ most / base) where
  pub shifted_most : v * base ≤ most
  shifted_most = (le-div_iff_mul-le {k = base} {x = v} {y = most} h).0 k

  pub next_most : (d : ℕ) → d ≤ most - v * base → v * base + d ≤ most
  next_most d m = omega (arith, shifted_most)

pub ruleset word_laws = (word_ends, no_digit, digit_more, above_most, digit_above_most, next_most)

-- ---- decimals
module _ (most : ℕ) where
  decimal_by : (w : List ℕ) → is_decimal w ≡ all_digits 10 w → digits_up_to 10 most 0 w ≡ up_to most w
  unfolding digits_up_to up_to
  decimal_by w e = simp e

  pub empty_decimal : (w : List ℕ) → length w ≡ 0 → None ≡ up_to most w
  unfolding up_to is_decimal
  empty_decimal [] e = refl
  empty_decimal (b ∷ w) e = absurd (omega arith)

  pub one_digit : (w : List ℕ) (x : Option ℕ) → length w ≡ 1 → x ≡ digits_up_to 10 most 0 w → x ≡ up_to most w
  unfolding is_decimal
  one_digit [] x e p = absurd (omega arith)
  one_digit (b ∷ []) x e p = p ∙ decimal_by (b ∷ []) refl
  one_digit (b ∷ c ∷ w) x e p = absurd (omega arith)

  pub leading_zero : (w : List ℕ) → (length w ≡ 0 → ⊥) → (length w ≡ 1 → ⊥) → get_or w 0 0 ≡ 48 → None ≡ up_to most w
  unfolding up_to is_decimal
  leading_zero [] e f z = absurd (e refl)
  leading_zero (b ∷ []) e f z = absurd (f refl)
  leading_zero (b ∷ c ∷ w) e f z = simp (eq-eqb b 48 z)

  pub more_digits : (w : List ℕ) (x : Option ℕ) → (length w ≡ 0 → ⊥) → (length w ≡ 1 → ⊥) → (get_or w 0 0 ≡ 48 → ⊥) → x ≡ digits_up_to 10 most 0 w → x ≡ up_to most w
  unfolding is_decimal
  more_digits [] x e f z p = absurd (e refl)
  more_digits (b ∷ []) x e f z p = absurd (f refl)
  more_digits (b ∷ c ∷ w) x e f z p = p ∙ decimal_by (b ∷ c ∷ w) (simp (ne_eqb b 48 z))

pub ruleset decimal_laws = (empty_decimal, one_digit, leading_zero, more_digits)

-- ---- what a reader said
-- a test lets a number through
pub through : {A : Type 0} (t : Bool) (v n : A) → cond t (Some v) None ≡ Some n → (t ≡ true) × (v ≡ n)
through true v n p = (refl, cc)
through false v n p = let z : ◌≡◌ {A = ℕ} 0 1 = cc in absurd (omega arith)

up_to_most : (most n : ℕ) (w : List ℕ) → up_to most w ≡ Some n → n ≤ most
unfolding up_to
up_to_most most n w p =
    let v = value_after 10 0 w in
    let t = through (is_decimal w && leb v most) v n p in
    omega (arith, leb-true v most (both_true (is_decimal w) (leb v most) t.0).1, t.1)

module _ (r : Option ℕ) where
  pub natural_unread : (x : Option ℕ) → r ≡ None → r ≡ x → None ≡ x
  natural_unread x e p = sym e ∙ p

  pub natural_read : (x : Option ℕ) (n : ℕ) → r ≡ Some n → r ≡ x → Some n ≡ x
  natural_read x n e p = sym e ∙ p

  pub at_most : (most n : ℕ) (w : List ℕ) → r ≡ Some n → r ≡ up_to most w → n ≤ most
  at_most most n w e p = up_to_most most n w (sym (natural_read (up_to most w) n e p))

  pub byte_fits : (n : ℕ) (w : List ℕ) → r ≡ Some n → r ≡ up_to 255 w → Fits w8 n
  byte_fits n w e p = record { fits = omega (arith, at_most 255 n w e p) }

pub ruleset read_laws = (natural_unread, natural_read, at_most, byte_fits)

-- ---- signed numbers: what stands after a minus sign is a part of the word
negated_some : (n : ℕ) (z : ℤ) → (n ≡ 0 → ⊥) → z ≡ neg_ℤ (pos n) → Some z ≡ negated (Some n)
negated_some zero z h e = absurd (h refl)
negated_some (suc n) z h e = ap Some e

pub negated_none : (n : ℕ) → n ≡ 0 → None ≡ negated (Some n)
negated_none n e = rw e

-- -1 less one less than the number
module _ (n : ℕ) (m : n ≤ 2 ^ 63) (h : n ≡ 0 → ⊥) where
  pub less_fits : SFits w64 (negsuc 0 -ℤ to_z w64 (n - 1))
  less_fits = let v = v_unsigned w64 (n - 1) 9223372036854775807 (omega arith) in fits (search view) tt

  pub less_read : Some (to_z w64 (of_z w64 (negsuc 0 -ℤ to_z w64 (n - 1)))) ≡ negated (Some n)
  less_read = let v = v_unsigned w64 (n - 1) 9223372036854775807 (omega arith) in negated_some n _ h (eq_by (search view depth 9) (search view) tt (omega arith))

pub ruleset negated_laws = (negated_none, less_fits, less_read)

after_sign : (b : ℕ) (w : List ℕ) → take (length (b ∷ w) - 1) (drop 1 (b ∷ w)) ≡ w
after_sign b w = take_all (suc (length w) - 1) w (omega arith)

module _ (bound : ℕ) (w : List ℕ) where
  pub signed_empty : length w ≡ 0 → None ≡ signed bound w
  unfolding signed
  signed_empty e = go w e
    where
      go : (w : List ℕ) → length w ≡ 0 → None ≡ signed bound w
      go [] e = refl
      go (b ∷ w) e = absurd (omega arith)

  signed_minus : (length w ≡ 0 → ⊥) → get_or w 0 0 ≡ 45 → negated (up_to bound (take (length w - 1) (drop 1 w))) ≡ signed bound w
  unfolding signed
  signed_minus = go w
    where
      go : (w : List ℕ) → (length w ≡ 0 → ⊥) → get_or w 0 0 ≡ 45 → negated (up_to bound (take (length w - 1) (drop 1 w))) ≡ signed bound w
      go [] z s = absurd (z refl)
      go (b ∷ w) z s = simp (eq-eqb b 45 s, after_sign b w)

  pub signed_plain : (length w ≡ 0 → ⊥) → (get_or w 0 0 ≡ 45 → ⊥) → plain (up_to (bound - 1) w) ≡ signed bound w
  unfolding signed
  signed_plain = go w
    where
      go : (w : List ℕ) → (length w ≡ 0 → ⊥) → (get_or w 0 0 ≡ 45 → ⊥) → plain (up_to (bound - 1) w) ≡ signed bound w
      go [] z s = absurd (z refl)
      go (b ∷ w) z s = simp (ne_eqb b 45 s)

  module _ (r : Option ℕ) (z : length w ≡ 0 → ⊥) where
    module _ (s : get_or w 0 0 ≡ 45) (p : r ≡ up_to bound (take (length w - 1) (drop 1 w))) where
      pub minus_unread : r ≡ None → None ≡ signed bound w
      minus_unread e = rw (← p, e) at (signed_minus z s)

      pub minus_read : (n : ℕ) → r ≡ Some n → (x : Option ℤ) → x ≡ negated (Some n) → x ≡ signed bound w
      minus_read n e x q = q ∙ (rw (← p, e) at (signed_minus z s))

      pub minus_most : (n : ℕ) → r ≡ Some n → bound ≤ 2 ^ 63 → n ≤ 2 ^ 63
      minus_most n e b = omega (arith, at_most r bound n (take (length w - 1) (drop 1 w)) e p)

    module _ (s : get_or w 0 0 ≡ 45 → ⊥) (p : r ≡ up_to (bound - 1) w) where
      pub plain_unread : r ≡ None → None ≡ signed bound w
      plain_unread e = rw (← p, e) at (signed_plain z s)

      module _ (n : ℕ) (e : r ≡ Some n) (h : 0 < bound) (b : bound ≤ 2 ^ 63) where
        plain_most : n ≤ 9223372036854775807
        plain_most = omega (arith, at_most r (bound - 1) n w e p)

        pub plain_read : Some (to_z w64 n) ≡ signed bound w
        plain_read = ap Some (to_z_pos w64 n (omega (arith, plain_most))) ∙ (rw (← p, e) at (signed_plain z s))

        pub plain_fits : SFits w64 (pos n)
        plain_fits = fits (v_upto n 9223372036854775807 plain_most) tt

pub ruleset signed_laws = (signed_empty, minus_unread, minus_read, minus_most, plain_unread, plain_read, plain_fits)

-- a number that is read lies within its bound
pub signed_within : (bound : ℕ) (w : List ℕ) (z : ℤ) → 0 < bound → signed bound w ≡ Some z → mag z < bound
unfolding signed
signed_within bound [] z h p = let q : ◌≡◌ {A = ℕ} 0 1 = cc in absurd (omega arith)
signed_within bound (b ∷ w) z h p = go (eqb b 45) p
  where
    minus : (o : Option ℕ) → up_to bound w ≡ o → negated o ≡ Some z → mag z < bound
    minus None q e = let q : ◌≡◌ {A = ℕ} 0 1 = cc in absurd (omega arith)
    minus (Some zero) q e = let q : ◌≡◌ {A = ℕ} 0 1 = cc in absurd (omega arith)
    minus (Some (suc n)) q e = let f : negsuc n ≡ z = cc in rw (← f) (omega (arith, up_to_most bound (suc n) w q))

    straight : (o : Option ℕ) → up_to (bound - 1) (b ∷ w) ≡ o → plain o ≡ Some z → mag z < bound
    straight None q e = let q : ◌≡◌ {A = ℕ} 0 1 = cc in absurd (omega arith)
    straight (Some n) q e = let f : pos n ≡ z = cc in rw (← f) (omega (arith, up_to_most (bound - 1) n (b ∷ w) q))

    go : (u : Bool) → cond u (negated (up_to bound w)) (plain (up_to (bound - 1) (b ∷ w))) ≡ Some z → mag z < bound
    go true p = minus (up_to bound w) refl p
    go false p = straight (up_to (bound - 1) (b ∷ w)) refl p

module _ (r : Option ℤ) (w : List ℕ) (p : r ≡ signed 2147483648 w) where
  pub integer_unread : r ≡ None → None ≡ signed 2147483648 w
  integer_unread e = sym e ∙ p

  module _ (z : ℤ) (e : r ≡ Some z) where
    is_some : Some z ≡ signed 2147483648 w
    is_some = sym e ∙ p

    pub integer_fits : SFits w32 z
    integer_fits = record { sfits = signed_within 2147483648 w z (omega arith) (sym is_some) }

    pub integer_read : Some (to_z w32 (of_z w32 z)) ≡ signed 2147483648 w
    integer_read = ap Some (to_z-of_z w32 z integer_fits) ∙ is_some

pub ruleset integer_laws = (integer_unread, integer_fits, integer_read)

-- ---- floats: sixteen hex digits write a number below 2 ^ 64
below_power : (base v : ℕ) (w : List ℕ) → all_digits base w ≡ true → value_after base v w < suc v * base ^ length w
below_power base v [] a = simp (pow-zero, mul-one) (omega arith)
below_power base v (b ∷ w) a =
    let d : digit_of b < base = ltb-true (digit_of b) base (both_true (ltb (digit_of b) base) (all_digits base w) a).0 in
    let k : value_after base (v * base + digit_of b) w < suc (v * base + digit_of b) * base ^ length w = below_power base (v * base + digit_of b) w (both_true (ltb (digit_of b) base) (all_digits base w) a).1 in
    let l : suc (v * base + digit_of b) ≤ suc v * base = omega (arith, suc-mul v base) in
    let m : suc (v * base + digit_of b) * base ^ length w ≤ suc v * base * base ^ length w = mul-le-mul_right (base ^ length w) l in
    let e : suc v * base * base ^ length w ≡ suc v * base ^ suc (length w) = simp (pow-succ', mul_assoc) in
    omega arith

-- the float of a number that was read
abbrev floated : Option ℕ → Option Float
floated None = None
floated (Some n) = Some (of_bits binary64 n)

float_by : (w : List ℕ) → length w ≡ 16 → floated (digits_up_to 16 18446744073709551615 0 w) ≡ f64 w
unfolding digits_up_to f64
float_by w e = go (all_digits 16 w) refl
  where
    go : (a : Bool) → all_digits 16 w ≡ a
        → floated (cond (a && leb (value_after 16 0 w) 18446744073709551615) (Some (value_after 16 0 w)) None) ≡ cond (eqb (length w) 16 && a) (Some (of_bits binary64 (value_after 16 0 w))) None
    go true a =
        let k : value_after 16 0 w ≤ 18446744073709551615 = omega (arith, rw e at (below_power 16 0 w a)) in
        simp (eq-eqb (length w) 16 e, le-leb (value_after 16 0 w) 18446744073709551615 k)
    go false a = simp (eq-eqb (length w) 16 e)

module _ (w : List ℕ) where
  pub float_size : (length w ≡ 16 → ⊥) → None ≡ f64 w
  unfolding f64
  float_size e = simp (ne_eqb (length w) 16 e)

  module _ (r : Option ℕ) (l : length w ≡ 16) (p : r ≡ digits_up_to 16 18446744073709551615 0 w) where
    pub float_unread : r ≡ None → None ≡ f64 w
    float_unread e = rw (← p, e) at (float_by w l)

    pub float_read : (n : ℕ) (x : Float) → r ≡ Some n → x ≡ of_bits binary64 n → Some x ≡ f64 w
    float_read n x e f = ap Some f ∙ (rw (← p, e) at (float_by w l))

pub ruleset float_laws = (float_size, float_unread, float_read)
