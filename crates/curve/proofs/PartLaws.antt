-- Parts of 1, digits over a power of two: how two of them compare and what they sum to, from what the code has in hand.
use mathlib.Core.Path.{◌≡◌, refl, sym, ap, ap₂, ◌∙◌, subst}
use mathlib.Core.Bool.{Bool, true, false}
use Prim.Native.Nat.{ℕ, zero, suc, ◌+◌, ◌-◌, ◌*◌, ◌/◌, ◌%◌, ◌^◌, ◌≤◌, ◌<◌, zero-le}
use native.Mathlib.Omega.{arith}
use native.Mathlib.Nat.{one-mul, zero-mul, mul_comm, mul_assoc, mul_right_comm, mul-sub, mul-le-mul_right, mul-lt-mul_of_pos_right, le_of_mul-le-mul_right, le_trans, le_of_eq, le_of_lt, lt_of_lt_of_le, mod-lt, mod_self, mod-eq_of_lt, sub-add_cancel, le-div_iff_mul-le, div-lt_iff_lt-mul}
use lib.Dec.{T, leb, ltb, leb→le, le→leb, ltb→lt, lt→ltb}
use lib.Pow.{pow_pos, pow_mono, pow-add, pow-lt}
use borrow.Author.Tests.{le-leb, lt-leb}
use Rattle.curve.specs.declared.exact.Part.{Part}
use Rattle.curve.specs.Inside.Parts.{rest_at, sum_reaches, parts_reach, rest_of, Small}

-- ---- tests that say the same
same : (p q : Bool) → (T p → T q) → (T q → T p) → p ≡ q
same true true f g = refl
same true false f g = absurd (f tt)
same false true f g = absurd (g tt)
same false false f g = refl

pub leb_same : (a b c d : ℕ) → (a ≤ b → c ≤ d) → (c ≤ d → a ≤ b) → leb a b ≡ leb c d
leb_same a b c d f g = same (leb a b) (leb c d) (λ t. le→leb c d (f (leb→le a b t))) (λ t. le→leb a b (g (leb→le c d t)))

ltb_leb : (a b c d : ℕ) → (a < b → c ≤ d) → (c ≤ d → a < b) → ltb a b ≡ leb c d
ltb_leb a b c d f g = same (ltb a b) (leb c d) (λ t. le→leb c d (f (ltb→lt a b t))) (λ t. lt→ltb a b (g (leb→le c d t)))

pub sub_mul : (a b k : ℕ) → (a - b) * k ≡ a * k - b * k
sub_mul a b k = mul_comm (a - b) k ∙ mul-sub k a b ∙ ap₂ ◌-◌ (mul_comm k a) (mul_comm k b)

-- ---- a shift, by any number of places
pub shifted_out : (a d : ℕ) → a < 2 ^ 64 → 64 ≤ d → 0 ≡ a / 2 ^ d
shifted_out a d h k =
    let l : a / 2 ^ d < 1 = (div-lt_iff_lt-mul (pow_pos d)).1 (lt_of_lt_of_le h (le_trans (pow_mono k) (le_of_eq (sym (one-mul (2 ^ d)))))) in
    omega arith

-- ---- the lowest digits
one_shifted : (k : ℕ) → k ≤ 63 → 1 * 2 ^ k % 2 ^ 64 ≡ 2 ^ k
one_shifted k h = ap (λ (z : ℕ). z % 2 ^ 64) (one-mul (2 ^ k)) ∙ mod-eq_of_lt (pow-lt {j = 64} (less k h))
  where
    less : (k : ℕ) → k ≤ 63 → k < 64
    less k h = omega arith

module _ (d k : ℕ) where
  pub lowest_all : d < 2 ^ 53 → 63 < k → d ≡ d % 2 ^ k
  lowest_all h l = sym (mod-eq_of_lt (lt_of_lt_of_le h (pow_mono {j = k} (more k l))))
    where
      more : (k : ℕ) → 63 < k → 53 ≤ k
      more k l = omega arith

  pub power_some : k ≤ 63 → 0 < 1 * 2 ^ k % 2 ^ 64
  power_some h = subst (λ (z : ℕ). 0 < z) (sym (one_shifted k h)) (pow_pos k)

  pub lowest_cut : k ≤ 63 → d % (1 * 2 ^ k % 2 ^ 64) ≡ d % 2 ^ k
  lowest_cut h = ap (λ (z : ℕ). d % z) (one_shifted k h)

pub ruleset lowest_digits = (lowest_all, power_some, lowest_cut)

-- ---- one against the other
whole : (k l : ℕ) → l ≤ k → 2 ^ (k - l) * 2 ^ l ≡ 2 ^ k
whole k l h = sym (pow-add 2 (k - l) l) ∙ ap (λ (z : ℕ). 2 ^ z) (sub-add_cancel h)

shift_first : (a k b l : ℕ) → l ≤ k → leb b (a / 2 ^ (k - l)) ≡ leb (b * 2 ^ k) (a * 2 ^ l)
shift_first a k b l h =
    let d = 2 ^ (k - l) in
    let e : b * d * 2 ^ l ≡ b * 2 ^ k = mul_assoc b d (2 ^ l) ∙ ap (λ (z : ℕ). b * z) (whole k l h) in
    leb_same b (a / d) (b * 2 ^ k) (a * 2 ^ l)
    (λ p. le_trans (le_of_eq (sym e)) (mul-le-mul_right (2 ^ l) ((le-div_iff_mul-le (pow_pos (k - l))).0 p)))
    (λ p. (le-div_iff_mul-le (pow_pos (k - l))).1 (le_of_mul-le-mul_right (le_trans (le_of_eq e) p) (pow_pos l)))

shift_second : (a k b l : ℕ) → k < l → (b ≡ 0 → ⊥) → ltb ((b - 1) / 2 ^ (l - k)) a ≡ leb (b * 2 ^ k) (a * 2 ^ l)
shift_second a k zero l h n = absurd (n refl)
shift_second a k (suc b) l h n =
    let d = 2 ^ (l - k) in
    let e : a * d * 2 ^ k ≡ a * 2 ^ l = mul_assoc a d (2 ^ k) ∙ ap (λ (z : ℕ). a * z) (whole l k (le_of_lt h)) in
    let z : suc b - 1 ≡ b = omega arith in
    ap (λ (x : ℕ). ltb (x / d) a) z
    ∙ ltb_leb (b / d) a (suc b * 2 ^ k) (a * 2 ^ l)
    (λ p. le_trans (mul-le-mul_right (2 ^ k) ((div-lt_iff_lt-mul (pow_pos (l - k))).0 p)) (le_of_eq e))
    (λ p. (div-lt_iff_lt-mul (pow_pos (l - k))).1 (le_of_mul-le-mul_right (le_trans p (le_of_eq (sym e))) (pow_pos k)))

module _ (p q : Part) where
  -- whether p is q at least
  abbrev pub at_least : Bool
  at_least = leb (q.digits * 2 ^ p.places) (p.digits * 2 ^ q.places)

  pub least_first : q.places ≤ p.places → {n : ℕ} → n ≡ p.digits / 2 ^ (p.places - q.places) → leb q.digits n ≡ at_least
  least_first h e = ap (leb q.digits) e ∙ shift_first p.digits p.places q.digits q.places h

  pub least_none : q.digits ≡ 0 → true ≡ at_least
  least_none e =
      sym (le-leb (q.digits * 2 ^ p.places) (p.digits * 2 ^ q.places) (le_trans (le_of_eq (ap (λ (z : ℕ). z * 2 ^ p.places) e ∙ zero-mul (2 ^ p.places))) zero-le))

  pub least_second : p.places < q.places → (q.digits ≡ 0 → ⊥) → {n : ℕ} → n ≡ (q.digits - 1) / 2 ^ (q.places - p.places) → ltb n p.digits ≡ at_least
  least_second h n e = ap (λ (z : ℕ). ltb z p.digits) e ∙ shift_second p.digits p.places q.digits q.places h n

pub ruleset leasts = (least_first, least_none, least_second)

-- ---- 1 less a part
module _ (p : Part) (h : p.digits < 2 ^ p.places) (l : p.places ≤ 62) where
  short : p.places ≤ 63
  short = omega arith

  pub rest_fits : p.digits ≤ 1 * 2 ^ p.places % 2 ^ 64
  rest_fits = subst (λ (z : ℕ). p.digits ≤ z) (sym (one_shifted p.places short)) (le_of_lt h)

  pub rest_is : {r : Part} → r ≡ record { negative = p.negative; digits = 1 * 2 ^ p.places % 2 ^ 64 - p.digits; places = p.places } → r ≡ rest_of p
  rest_is e = e ∙ λ i. record { negative = p.negative; digits = one_shifted p.places short i - p.digits; places = p.places }

pub ruleset rests = (rest_fits, rest_is)

-- ---- sums against 1, for c and d above the numerators a and b
module _ (a c b d : ℕ) (A : a ≤ c) (B : b ≤ d) where
  left : (c - a) * d ≡ c * d - a * d
  left = sub_mul c a d

  right : (d - b) * c ≡ c * d - b * c
  right = sub_mul d b c ∙ ap (λ (z : ℕ). z - b * c) (mul_comm d c)

  left_most : a * d ≤ c * d
  left_most = mul-le-mul_right d A

  right_most : b * c ≤ c * d
  right_most = le_trans (mul-le-mul_right c B) (le_of_eq (mul_comm d c))

  full_second : leb ((d - b) * c) (a * d) ≡ leb (c * d) (a * d + b * c)
  full_second = let r = right in let l = right_most in leb_same ((d - b) * c) (a * d) (c * d) (a * d + b * c) (λ p. omega arith) (λ p. omega arith)

  full_first : leb ((c - a) * d) (b * c) ≡ leb (c * d) (a * d + b * c)
  full_first = let r = left in let l = left_most in leb_same ((c - a) * d) (b * c) (c * d) (a * d + b * c) (λ p. omega arith) (λ p. omega arith)

  within_first : leb (b * c) ((c - a) * d) ≡ leb (a * d + b * c) (c * d)
  within_first = let r = left in let l = left_most in leb_same (b * c) ((c - a) * d) (a * d + b * c) (c * d) (λ p. omega arith) (λ p. omega arith)

  within_second : leb (a * d) ((d - b) * c) ≡ leb (a * d + b * c) (c * d)
  within_second = let r = right in let l = right_most in leb_same (a * d) ((d - b) * c) (a * d + b * c) (c * d) (λ p. omega arith) (λ p. omega arith)

  -- the same of what each is above its floor, where one is below 0 or both are
  both_below : leb (a * d + b * c) (c * d) ≡ leb (c * d) ((c - a) * d + (d - b) * c)
  both_below =
      let r = left in
      let l = left_most in
      let q = right in
      let k = right_most in
      leb_same (a * d + b * c) (c * d) (c * d) ((c - a) * d + (d - b) * c) (λ p. omega arith) (λ p. omega arith)

  first_below : leb (a * d) (b * c) ≡ leb (c * d) ((c - a) * d + b * c)
  first_below = let r = left in let l = left_most in leb_same (a * d) (b * c) (c * d) ((c - a) * d + b * c) (λ p. omega arith) (λ p. omega arith)

  second_below : leb (b * c) (a * d) ≡ leb (c * d) (a * d + (d - b) * c)
  second_below = let r = right in let l = right_most in leb_same (b * c) (a * d) (c * d) (a * d + (d - b) * c) (λ p. omega arith) (λ p. omega arith)

-- two parts below a half
halves : (a c b d : ℕ) → a * 2 < c → b * 2 < d → a * d + b * c < c * d
halves a c b d h k =
    let p : a * 2 * d < c * d = mul-lt-mul_of_pos_right h (omega arith) in
    let q : b * 2 * c < d * c = mul-lt-mul_of_pos_right k (omega arith) in
    omega (arith, mul_right_comm a 2 d, mul_right_comm b 2 c, mul_comm d c)

tiny : (a k : ℕ) → a < 2 ^ 53 → 62 < k → a * 2 < 2 ^ k
tiny a k h l = lt_of_lt_of_le (small a h) (pow_mono l)
  where
    small : (a : ℕ) → a < 2 ^ 53 → a * 2 < 2 ^ 63
    small a h = omega arith

module _ (p q : Part) (P : Small p) (Q : Small q) where
  abbrev c : ℕ
  c = 2 ^ p.places

  abbrev d : ℕ
  d = 2 ^ q.places

  abbrev total : ℕ
  total = p.digits * d + q.digits * c

  p_most : p.digits ≤ c
  p_most = le_of_lt P.low

  q_most : q.digits ≤ d
  q_most = le_of_lt Q.low

  -- p + q >= 1
  pub full_by_second : {r : Part} {b : Bool} → r ≡ rest_of q → b ≡ at_least p r → b ≡ leb (c * d) total
  full_by_second e f = f ∙ ap (at_least p) e ∙ full_second p.digits c q.digits d p_most q_most

  pub full_by_first : {r : Part} {b : Bool} → r ≡ rest_of p → b ≡ at_least q r → b ≡ leb (c * d) total
  full_by_first e f = f ∙ ap (at_least q) e ∙ full_first p.digits c q.digits d p_most q_most

  -- p + q <= 1
  pub within_by_first : {r : Part} {b : Bool} → r ≡ rest_of p → b ≡ at_least r q → b ≡ leb total (c * d)
  within_by_first e f = f ∙ ap (λ r. at_least r q) e ∙ within_first p.digits c q.digits d p_most q_most

  pub within_by_second : {r : Part} {b : Bool} → r ≡ rest_of q → b ≡ at_least r p → b ≡ leb total (c * d)
  within_by_second e f = f ∙ ap (λ r. at_least r p) e ∙ within_second p.digits c q.digits d p_most q_most

  below_one : 62 < p.places → 62 < q.places → total < c * d
  below_one h k = halves p.digits c q.digits d (tiny p.digits p.places P.few h) (tiny q.digits q.places Q.few k)

  pub never_full : 62 < p.places → 62 < q.places → false ≡ leb (c * d) total
  never_full h k = sym (lt-leb (c * d) total (below_one h k))

  pub always_within : 62 < p.places → 62 < q.places → true ≡ leb total (c * d)
  always_within h k = sym (le-leb total (c * d) (le_of_lt (below_one h k)))

pub ruleset sums = (full_by_second, full_by_first, within_by_first, within_by_second, never_full, always_within)

-- ---- what a number below 1 in size is above its floor
rest_above : (a c : ℕ) → a < c → rest_at false a c ≡ a
rest_above a c h = mod-eq_of_lt h

rest_none : (a c : ℕ) → 0 < c → a ≡ 0 → rest_at true a c ≡ 0
rest_none a c C e =
    let z : a % c ≡ 0 = mod-eq_of_lt (omega arith) ∙ e in
    let y : c - a % c ≡ c = omega arith in
    ap (λ (n : ℕ). n % c) y ∙ mod_self c

rest_below : (a c : ℕ) → a < c → (a ≡ 0 → ⊥) → rest_at true a c ≡ c - a
rest_below zero c h n = absurd (n refl)
rest_below (suc a) c h n = ap (λ (x : ℕ). (c - x) % c) (mod-eq_of_lt h) ∙ mod-eq_of_lt (omega arith)

pub rest_small : (s : Bool) (a c : ℕ) → 0 < c → rest_at s a c < c
rest_small false a c C = mod-lt a C
rest_small true a c C = mod-lt (c - a % c) C

-- where one of them is 0, the other does not reach 1
first_none : (s t : Bool) (a c b d : ℕ) → 0 < c → 0 < d → rest_at s a c ≡ 0 → false ≡ sum_reaches s a c t b d
first_none s t a c b d C D z =
    let f = rest_at s a c in
    let g = rest_at t b d in
    let l : g * c < d * c = mul-lt-mul_of_pos_right (rest_small t b d D) C in
    let y : f * d ≡ 0 = ap (λ (n : ℕ). n * d) z ∙ zero-mul d in
    sym (lt-leb (c * d) (f * d + g * c) (omega (arith, mul_comm d c)))

second_none : (s t : Bool) (a c b d : ℕ) → 0 < c → 0 < d → rest_at t b d ≡ 0 → false ≡ sum_reaches s a c t b d
second_none s t a c b d C D z =
    let f = rest_at s a c in
    let g = rest_at t b d in
    let l : f * d < c * d = mul-lt-mul_of_pos_right (rest_small s a c C) D in
    let y : g * c ≡ 0 = ap (λ (n : ℕ). n * c) z ∙ zero-mul c in
    sym (lt-leb (c * d) (f * d + g * c) (omega arith))

by_rests : (s t : Bool) (a c b d f g : ℕ) {r : Bool} → rest_at s a c ≡ f → rest_at t b d ≡ g → r ≡ leb (c * d) (f * d + g * c) → r ≡ sum_reaches s a c t b d
by_rests s t a c b d f g p q e = e ∙ ap₂ (λ (x y : ℕ). leb (c * d) (x * d + y * c)) (sym p) (sym q)

module _ (p q : Part) where
  abbrev signed : Bool → Bool → Bool
  signed s t = sum_reaches s p.digits (2 ^ p.places) t q.digits (2 ^ q.places)

  -- by the signs that the tests found
  turned : {s t r : Bool} → p.negative ≡ s → q.negative ≡ t → r ≡ signed s t → r ≡ parts_reach p q
  unfolding parts_reach
  turned e f h = h ∙ ap₂ signed (sym e) (sym f)

  pub upper_first_none : p.negative ≡ true → p.digits ≡ 0 → false ≡ parts_reach p q
  upper_first_none e z =
      turned e refl (first_none true q.negative p.digits (2 ^ p.places) q.digits (2 ^ q.places) (pow_pos p.places) (pow_pos q.places) (rest_none p.digits (2 ^ p.places) (pow_pos p.places) z))

  pub upper_second_none : q.negative ≡ true → q.digits ≡ 0 → false ≡ parts_reach p q
  upper_second_none e z =
      turned refl e (second_none p.negative true p.digits (2 ^ p.places) q.digits (2 ^ q.places) (pow_pos p.places) (pow_pos q.places) (rest_none q.digits (2 ^ q.places) (pow_pos q.places) z))

  module _ (P : Small p) (Q : Small q) where
    -- what the calls answer, with the two rests in place
    joined : (s t : Bool) (f g : ℕ) {r : Bool} → p.negative ≡ s → q.negative ≡ t → rest_at s p.digits (2 ^ p.places) ≡ f → rest_at t q.digits (2 ^ q.places) ≡ g
        → r ≡ leb (2 ^ p.places * 2 ^ q.places) (f * 2 ^ q.places + g * 2 ^ p.places) → r ≡ parts_reach p q
    joined s t f g e k a b h = turned e k (by_rests s t p.digits (2 ^ p.places) q.digits (2 ^ q.places) f g a b h)

    p_above : rest_at false p.digits (2 ^ p.places) ≡ p.digits
    p_above = rest_above p.digits (2 ^ p.places) P.low

    q_above : rest_at false q.digits (2 ^ q.places) ≡ q.digits
    q_above = rest_above q.digits (2 ^ q.places) Q.low

    p_below : (p.digits ≡ 0 → ⊥) → rest_at true p.digits (2 ^ p.places) ≡ 2 ^ p.places - p.digits
    p_below = rest_below p.digits (2 ^ p.places) P.low

    q_below : (q.digits ≡ 0 → ⊥) → rest_at true q.digits (2 ^ q.places) ≡ 2 ^ q.places - q.digits
    q_below = rest_below q.digits (2 ^ q.places) Q.low

    pub upper_both : p.negative ≡ true → q.negative ≡ true → (p.digits ≡ 0 → ⊥) → (q.digits ≡ 0 → ⊥)
        → {b : Bool} → b ≡ leb (p.digits * 2 ^ q.places + q.digits * 2 ^ p.places) (2 ^ p.places * 2 ^ q.places) → b ≡ parts_reach p q
    upper_both s t m n e =
        joined true true (2 ^ p.places - p.digits) (2 ^ q.places - q.digits) s t (p_below m) (q_below n)
        (e ∙ both_below p.digits (2 ^ p.places) q.digits (2 ^ q.places) (le_of_lt P.low) (le_of_lt Q.low))

    pub upper_first : p.negative ≡ true → q.negative ≡ false → (p.digits ≡ 0 → ⊥) → {b : Bool} → b ≡ at_least q p → b ≡ parts_reach p q
    upper_first s t m e =
        joined true false (2 ^ p.places - p.digits) q.digits s t (p_below m) q_above
        (e ∙ first_below p.digits (2 ^ p.places) q.digits (2 ^ q.places) (le_of_lt P.low) (le_of_lt Q.low))

    pub upper_second : p.negative ≡ false → q.negative ≡ true → (q.digits ≡ 0 → ⊥) → {b : Bool} → b ≡ at_least p q → b ≡ parts_reach p q
    upper_second s t n e =
        joined false true p.digits (2 ^ q.places - q.digits) s t p_above (q_below n)
        (e ∙ second_below p.digits (2 ^ p.places) q.digits (2 ^ q.places) (le_of_lt P.low) (le_of_lt Q.low))

    pub upper_none : p.negative ≡ false → q.negative ≡ false
        → {b : Bool} → b ≡ leb (2 ^ p.places * 2 ^ q.places) (p.digits * 2 ^ q.places + q.digits * 2 ^ p.places) → b ≡ parts_reach p q
    upper_none s t e = joined false false p.digits q.digits s t p_above q_above e

pub ruleset uppers = (upper_first_none, upper_second_none, upper_both, upper_first, upper_second, upper_none)
