-- What is written is read back, and a number is read from nothing but what it is written as: so a decimal of a number is one word, and a word is the decimal of one number.
use Rattle.std.specs.Prelude.{Option, Some, None}
use mathlib.Core.Path.{◌≡◌, refl, sym, ap, ap₂, ◌∙◌}
use mathlib.Core.Bool.{Bool, true, false, not, ◌&&◌, cond, and-false}
use mathlib.Core.Logic.{◌⊎◌, inl, inr}
use mathlib.Core.List.{List, [], ◌∷◌, ◌++◌, append_assoc, append-nil}
use Prim.Native.Nat.{ℕ, zero, suc, ◌+◌, ◌-◌, ◌*◌, ◌/◌, ◌%◌, ◌^◌, ◌≤◌, ◌<◌}
use native.Mathlib.Decide.{dec_lt}
use native.Mathlib.Nat.{pow-zero, pow-suc}
use native.Mathlib.Omega.{arith}
use borrow.Author.Tests.{lt-ltb, lt-leb, le-leb, eq-eqb, ne_eqb, ltb-true, eqb-true, eqb-false, not-true, leb-true}
use lib.Dec.{T, leb, ltb, eqb}
use lib.Ieee.{Float, binary64, to_bits, fits}
use lib.Ieee.Bits.{of_bits-to_bits, to_bits-lt}
use lib.IntN.{ℤ, pos, negsuc}
use lib.Signed.{mag}
use lib.ListN.{length, get_or, take, drop, length-append, take-append-drop, get_or-append}
use lib.Seq.{take_at, drop-drop, length-take-le}
use Rattle.whole.proofs.Bools.{both_true}
use Rattle.whole.proofs.Lists.{firsts_agree}
use Rattle.text.specs.Digits.{digit_of, digit_byte, all_digits, value_after}
use Rattle.text.specs.Decimals.{is_decimal, up_to, plain, negated, signed, i64, digit_count, decimal_length, with_place, decimal_at, natural, integer}
use Rattle.text.specs.Patterns.{f64, hex_digits, pattern}
use Rattle.text.proofs.DecimalLaws.{natural_one, natural_more, length_more, some_digit}
use Rattle.text.proofs.NumberLaws.{through, signed_plain}
use Rattle.text.proofs.PlaceLaws.{length_plain, decimal_length_most}
use Rattle.text.proofs.DigitLaws.{hex_length}

-- ---- digits and their bytes
pub digit_back : (d : ℕ) → d < 16 → digit_of (digit_byte d) ≡ d
unfolding digit_of digit_byte
digit_back d h = firsts_agree (λ n. digit_of (digit_byte n)) (λ n. n) 16 refl d h

decimal_digit : (d : ℕ) → d < 10 → digit_of (48 + d) ≡ d
unfolding digit_of
decimal_digit d h = firsts_agree (λ n. digit_of (48 + n)) (λ n. n) 10 refl d h

-- a decimal digit's byte is 48 more
no_letter : (b : ℕ) → (b < 48) ⊎ (57 < b) → 10 ≤ digit_of b
unfolding digit_of
no_letter b h = go (leb 48 b && leb b 57) (leb 65 b && leb b 70) refl refl
  where
    outside : (b : ℕ) → (b < 48) ⊎ (57 < b) → (leb 48 b && leb b 57) ≡ false
    outside b (inl l) = simp (lt-leb 48 b l)
    outside b (inr l) = simp (lt-leb b 57 l, and-false)

    go : (t u : Bool) → (leb 48 b && leb b 57) ≡ t → (leb 65 b && leb b 70) ≡ u → 10 ≤ cond t (b - 48) (cond u (b - 55) 16)
    go true u e f = let z : ◌≡◌ {A = ℕ} 0 1 = cc (outside b h) in absurd (omega arith)
    go false true e f = omega (arith, leb-true 65 b (both_true (leb 65 b) (leb b 70) f).0)
    go false false e f = omega arith

between : (b : ℕ) → 48 ≤ b → b ≤ 57 → digit_of b ≡ b - 48
unfolding digit_of
between b l k = simp (le-leb 48 b l, le-leb b 57 k)

byte_back : (b : ℕ) → digit_of b < 10 → (48 + digit_of b ≡ b) × (48 ≤ b)
byte_back b h = elim (dec_lt b 48) [
  | yes l ↦ absurd (omega (arith, no_letter b (inl l)))
  | no l ↦ elim (dec_lt 57 b) [ yes k ↦ absurd (omega (arith, no_letter b (inr k))) | no k ↦ (omega (arith, between b (omega arith) (omega arith)), omega arith) ]
]

-- ---- digits one after another
value_then : (base v : ℕ) (u w : List ℕ) → value_after base v (u ++ w) ≡ value_after base (value_after base v u) w
value_then base v [] w = refl
value_then base v (b ∷ u) w = value_then base (v * base + digit_of b) u w

digits_then : (base : ℕ) (u w : List ℕ) → all_digits base u ≡ true → all_digits base (u ++ w) ≡ all_digits base w
digits_then base [] w e = refl
digits_then base (b ∷ u) w e =
    let t = both_true (ltb (digit_of b) base) (all_digits base u) e in
    rw t.0 (digits_then base u w t.1)

-- ---- a decimal that was written: its digits, its value and its first byte
record Written (n : ℕ) : Type 0 where
  all : all_digits 10 (natural n) ≡ true
  value : value_after 10 0 (natural n) ≡ n
  first : 1 ≤ n → 49 ≤ get_or (natural n) 0 0

written_one : (n : ℕ) → n < 10 → Written n
written_one n h = record {
  all = rw (natural_one n h, decimal_digit n h, lt-ltb n 10 h);
  value = rw (natural_one n h, decimal_digit n h) (omega arith);
  first = λ l. rw (natural_one n h) (omega arith);
}

written_more : (n : ℕ) → 10 ≤ n → Written (n / 10) → Written n
written_more n h w =
    let m : n % 10 < 10 = omega arith in
    record {
      all = rw (natural_more n h, digits_then 10 (natural (n / 10)) ((48 + n % 10) ∷ []) w.all, decimal_digit (n % 10) m, lt-ltb (n % 10) 10 m);
      value = rw (natural_more n h, value_then 10 0 (natural (n / 10)) ((48 + n % 10) ∷ []), w.value, decimal_digit (n % 10) m) (omega arith);
      first = λ l. rw (natural_more n h, get_or-append (natural (n / 10)) ((48 + n % 10) ∷ []) 0 0 (some_digit (n / 10))) (w.first (omega arith));
    }

written_below : (most n : ℕ) → n ≤ most → Written n
written_below zero n h = written_one n (omega arith)
written_below (suc most) n h = elim (dec_lt n 10) [ yes l ↦ written_one n l | no l ↦ written_more n (omega arith) (written_below most (n / 10) (omega arith)) ]

written : (n : ℕ) → Written n
written n = written_below n n (omega arith)

several_decimal : (w : List ℕ) → 2 ≤ length w → 49 ≤ get_or w 0 0 → all_digits 10 w ≡ true → is_decimal w ≡ true
unfolding is_decimal
several_decimal [] l f a = absurd (omega arith)
several_decimal (b ∷ []) l f a = absurd (omega arith)
several_decimal (b ∷ c ∷ w) l f a = rw (ne_eqb b 48 (λ e. omega arith)) a

one_decimal : (w : List ℕ) → length w ≡ 1 → all_digits 10 w ≡ true → is_decimal w ≡ true
unfolding is_decimal
one_decimal [] l a = absurd (omega arith)
one_decimal (b ∷ []) l a = a
one_decimal (b ∷ c ∷ w) l a = absurd (omega arith)

natural_decimal : (n : ℕ) → is_decimal (natural n) ≡ true
natural_decimal n = elim (dec_lt n 10) [
  | yes l ↦ one_decimal (natural n) (ap length (natural_one n l)) (written n).all
  | no l ↦ several_decimal (natural n) (omega (arith, length_more n (omega arith), some_digit (n / 10))) ((written n).first (omega arith)) (written n).all
]

-- WHAT IS WRITTEN is read back
pub natural_read_back : (most n : ℕ) → n ≤ most → up_to most (natural n) ≡ Some n
unfolding up_to
natural_read_back most n h = rw (natural_decimal n, (written n).value, le-leb n most h)

-- ---- a decimal that was read
more_back : (v : ℕ) (w : List ℕ) → 1 ≤ v → all_digits 10 w ≡ true → natural (value_after 10 v w) ≡ natural v ++ w
more_back v [] l a = sym (append-nil (natural v))
more_back v (b ∷ w) l a =
    let t = both_true (ltb (digit_of b) 10) (all_digits 10 w) a in
    let d : digit_of b < 10 = ltb-true (digit_of b) 10 t.0 in
    let q : (v * 10 + digit_of b) / 10 ≡ v = omega arith in
    let r : 48 + (v * 10 + digit_of b) % 10 ≡ b = omega (arith, (byte_back b d).0) in
    more_back (v * 10 + digit_of b) w (omega arith) t.1
    ∙ ap (λ (l : List ℕ). l ++ w) (natural_more (v * 10 + digit_of b) (omega arith) ∙ ap₂ (λ (k : ℕ) (c : ℕ). natural k ++ (c ∷ [])) q r)
    ∙ append_assoc (natural v) (b ∷ []) w

decimal_back : (w : List ℕ) → is_decimal w ≡ true → natural (value_after 10 0 w) ≡ w
unfolding is_decimal
decimal_back [] e = let z : ◌≡◌ {A = ℕ} 0 1 = cc in absurd (omega arith)
decimal_back (b ∷ []) e =
    let d : digit_of b < 10 = ltb-true (digit_of b) 10 (both_true (ltb (digit_of b) 10) true e).0 in
    let q : 0 * 10 + digit_of b ≡ digit_of b = omega arith in
    ap natural q ∙ natural_one (digit_of b) d ∙ ap (λ (c : ℕ). c ∷ []) (byte_back b d).0
decimal_back (b ∷ c ∷ w) e =
    let t = both_true (not (eqb b 48)) (all_digits 10 (b ∷ c ∷ w)) e in
    let u = both_true (ltb (digit_of b) 10) (all_digits 10 (c ∷ w)) t.1 in
    let d : digit_of b < 10 = ltb-true (digit_of b) 10 u.0 in
    let z : b ≡ 48 → ⊥ = eqb-false b 48 (not-true (eqb b 48) t.0) in
    let q : 0 * 10 + digit_of b ≡ digit_of b = omega arith in
    ap (λ (v : ℕ). natural (value_after 10 v (c ∷ w))) q
    ∙ more_back (digit_of b) (c ∷ w) (omega (arith, (byte_back b d).0)) u.1
    ∙ ap (λ (l : List ℕ). l ++ (c ∷ w)) (natural_one (digit_of b) d ∙ ap (λ (v : ℕ). v ∷ []) (byte_back b d).0)

-- A NUMBER IS READ from its decimal alone
pub natural_read_only : (most n : ℕ) (w : List ℕ) → up_to most w ≡ Some n → w ≡ natural n
unfolding up_to
natural_read_only most n w p =
    let v = value_after 10 0 w in
    let t = through (is_decimal w && leb v most) v n p in
    sym (decimal_back w (both_true (is_decimal w) (leb v most) t.0).0) ∙ ap natural t.1

-- ---- signed numbers
first_digit_lem : (n : ℕ) → 48 ≤ get_or (natural n) 0 0
first_digit_lem n = elim (dec_lt n 1) [ yes l ↦ rw (natural_one n (omega arith)) (omega arith) | no l ↦ omega (arith, (written n).first (omega arith)) ]

pub integer_read_back : (bound : ℕ) (z : ℤ) → mag z < bound → signed bound (integer z) ≡ Some z
unfolding integer signed
integer_read_back bound (pos n) h =
    let e : length (natural n) ≡ 0 → ⊥ = λ e. omega (arith, some_digit n) in
    let f : get_or (natural n) 0 0 ≡ 45 → ⊥ = λ e. omega (arith, first_digit_lem n) in
    sym (signed_plain bound (natural n) e f) ∙ ap plain (natural_read_back (bound - 1) n (omega arith))
integer_read_back bound (negsuc n) h = ap negated (natural_read_back bound (suc n) (omega arith))

pub integer_read_only : (bound : ℕ) (z : ℤ) (w : List ℕ) → signed bound w ≡ Some z → w ≡ integer z
unfolding signed integer
integer_read_only bound z [] p = let q : ◌≡◌ {A = ℕ} 0 1 = cc in absurd (omega arith)
integer_read_only bound z (b ∷ w) p = go (eqb b 45) refl p
  where
    minus : b ≡ 45 → (o : Option ℕ) → up_to bound w ≡ o → negated o ≡ Some z → b ∷ w ≡ integer z
    minus s None q e = let x : ◌≡◌ {A = ℕ} 0 1 = cc in absurd (omega arith)
    minus s (Some zero) q e = let x : ◌≡◌ {A = ℕ} 0 1 = cc in absurd (omega arith)
    minus s (Some (suc n)) q e = let f : negsuc n ≡ z = cc in rw (s, ← f) (ap (λ (l : List ℕ). 45 ∷ l) (natural_read_only bound (suc n) w q))

    straight : (o : Option ℕ) → up_to (bound - 1) (b ∷ w) ≡ o → plain o ≡ Some z → b ∷ w ≡ integer z
    straight None q e = let x : ◌≡◌ {A = ℕ} 0 1 = cc in absurd (omega arith)
    straight (Some n) q e = let f : pos n ≡ z = cc in rw (← f) (natural_read_only (bound - 1) n (b ∷ w) q)

    go : (u : Bool) → eqb b 45 ≡ u → cond u (negated (up_to bound w)) (plain (up_to (bound - 1) (b ∷ w))) ≡ Some z → b ∷ w ≡ integer z
    go true e p = minus (eqb-true b 45 e) (up_to bound w) refl p
    go false e p = straight (up_to (bound - 1) (b ∷ w)) refl p

-- ---- at a place: what stands behind the number begins with no digit
count_then : (u rest : List ℕ) → all_digits 10 u ≡ true → digit_count (u ++ rest) ≡ length u + digit_count rest
unfolding digit_count
count_then [] rest a = omega arith
count_then (b ∷ u) rest a =
    let t = both_true (ltb (digit_of b) 10) (all_digits 10 u) a in
    rw t.0 (omega (arith, count_then u rest t.1))

length_then : (z : ℤ) (rest : List ℕ) → digit_count rest ≡ 0 → decimal_length (integer z ++ rest) ≡ length (integer z)
unfolding integer decimal_length
length_then (pos n) rest e =
    let l : length (natural n ++ rest) ≡ 0 → ⊥ = λ f. omega (arith, length-append (natural n) rest, some_digit n) in
    let g : get_or (natural n ++ rest) 0 0 ≡ get_or (natural n) 0 0 = get_or-append (natural n) rest 0 0 (some_digit n) in
    let m : get_or (natural n ++ rest) 0 0 ≡ 45 → ⊥ = λ f. omega (arith, first_digit_lem n) in
    let c : length (natural n) ≡ digit_count (natural n ++ rest) = omega (arith, count_then (natural n) rest (written n).all) in
    sym (length_plain (natural n ++ rest) (length (natural n)) l m c)
length_then (negsuc n) rest e = omega (arith, count_then (natural (suc n)) rest (written (suc n)).all)

pub decimal_read_back : (s : List ℕ) (at : ℕ) (z : ℤ) (rest : List ℕ) → mag z < 2 ^ 63 → drop at s ≡ integer z ++ rest → digit_count rest ≡ 0 → decimal_at s at ≡ Some (z, at + length (integer z))
unfolding decimal_at
decimal_read_back s at z rest m e f = rw (e, length_then z rest f, take_at (integer z) rest (length (integer z)) refl, integer_read_back (2 ^ 63) z m)

pub decimal_read_only : (s : List ℕ) (at : ℕ) (z : ℤ) (next : ℕ) → decimal_at s at ≡ Some (z, next) → (next ≡ at + length (integer z)) × (drop at s ≡ integer z ++ drop next s)
unfolding decimal_at
decimal_read_only s at z next p =
    let n = decimal_length (drop at s) in
    let q = go (at + n) (i64 (take n (drop at s))) p in
    let w : take n (drop at s) ≡ integer z = integer_read_only (2 ^ 63) z (take n (drop at s)) q.0 in
    let l : n ≡ length (integer z) = sym (length-take-le n (drop at s) (decimal_length_most (drop at s))) ∙ ap length w in
    let d : drop next s ≡ drop n (drop at s) = sym (drop-drop n at s ∙ ap (λ (k : ℕ). drop k s) q.1) in
    (sym q.1 ∙ ap (λ (k : ℕ). at + k) l, sym (ap₂ (λ (u : List ℕ) (v : List ℕ). u ++ v) (sym w) d ∙ take-append-drop n (drop at s)))
  where
    go : (place : ℕ) (o : Option ℤ) → with_place place o ≡ Some (z, next) → (o ≡ Some z) × (place ≡ next)
    go place None e = let x : ◌≡◌ {A = ℕ} 0 1 = cc in absurd (omega arith)
    go place (Some y) e = let f : ◌≡◌ {A = ℤ × ℕ} (y, place) (z, next) = cc in (ap (λ (t : ℤ × ℕ). Some t.0) f, ap (λ (t : ℤ × ℕ). t.1) f)

-- ---- patterns
hex_read : (n v : ℕ) → v < 16 ^ n → (all_digits 16 (hex_digits n v) ≡ true) × (value_after 16 0 (hex_digits n v) ≡ v)
unfolding hex_digits
hex_read zero v h = (refl, omega (arith, pow-zero 16))
hex_read (suc n) v h =
    let m : v % 16 < 16 = omega arith in
    let r = hex_read n (v / 16) (omega (arith, pow-suc 16 n)) in
    let last : List ℕ = digit_byte (v % 16) ∷ [] in (
      rw (digits_then 16 (hex_digits n (v / 16)) last r.0, digit_back (v % 16) m, lt-ltb (v % 16) 16 m),
      rw (value_then 16 0 (hex_digits n (v / 16)) last, r.1, digit_back (v % 16) m) (omega arith),
    )

pub float_read_back : (x : Float) → T (fits binary64 x) → f64 (pattern x) ≡ Some x
unfolding f64 pattern
float_read_back x f =
    let r = hex_read 16 (to_bits binary64 x) (omega (arith, to_bits-lt binary64 x f)) in
    rw (eq-eqb (length (hex_digits 16 (to_bits binary64 x))) 16 (hex_length 16 (to_bits binary64 x)), r.0, r.1, of_bits-to_bits binary64 x f)
