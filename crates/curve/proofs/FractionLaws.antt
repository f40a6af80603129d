-- A number's exact fraction: its bits give one, what it is above its floor, the exact parity by that, and the triangle that a point lies in.
use mathlib.Core.Path.{◌≡◌, refl, sym, ap, ap₂, ◌∙◌, subst}
use mathlib.Core.Logic.{inl, inr}
use mathlib.Core.Bool.{Bool, true, false, cond}
use Prim.Native.Nat.{ℕ, suc, ◌+◌, ◌-◌, ◌*◌, ◌/◌, ◌%◌, ◌^◌, ◌≤◌, ◌<◌}
use native.Mathlib.Omega.{arith}
use native.Mathlib.Nat.{one-mul, add-zero, mul_comm, mul_assoc, mul_left_comm, mul-pos, mul-le-mul_right, le_of_mul-le-mul_right, lt_of_lt_of_le, lt_of_le_of_lt, add-mul, suc-mul, div-add-mod', mod-lt, mod-le, mod_self, mod-eq_of_lt, eq-zero-or-pos, mul-mod_left, mul-div_cancel, mul-add-mod_self_right, div-eq_of_lt-le}
use lib.Dec.{leb, lit≤, lit<}
use lib.Arith.{mod-mul}
use lib.IntN.{ℤ, pos, neg_ℤ, nat_abs, ◌+ℤ◌, ◌-ℤ◌, ◌*ℤ◌, neg_ℤ-neg_ℤ}
use lib.Pow.{pow_pos}
use lib.Ieee.{Float, nan, inf, fin, binary64, up, down}
use lib.Ieee.Fits.{down_pos}
use lib.Ieee.Exact.{HasValue}
use lib.Ieee.Positive.{den, den_pos}
use Rattle.whole.proofs.Bools.{is_true, is_false}
use Rattle.whole.proofs.View.{View, v_var, v_pos, v_neg, v_add, v_mul_r, eq_by, eq_of, le_by, le_of}
use Rattle.triple.specs.declared.Triple.{Triple}
use Rattle.triple.specs.Triples.{sum_of}
use Rattle.curve.specs.declared.exact.Part.{Part}
use Rattle.curve.specs.Points.{near, floor_at, floor, own_triple}
use Rattle.curve.specs.ExactPoints.{reaches, fraction_of, beyond, exact_parity, LiesIn}
use Rattle.curve.specs.Inside.Parts.{rest_at, parts_reach, PartOf}
use Rattle.curve.proofs.FloorLaws.{sign, exponent, digits, bits, plain, leading}
use Rattle.curve.proofs.PartLaws.{leb_same, sub_mul, rest_small}

-- ---- the part of a number, from its bits
module _ (x : Float) (f : lib.Ieee.fits binary64 x ≡ true) (t : near x ≡ true) where
  pub part_plain : exponent (bits x f t) ≡ 0 → {p : Part} → p ≡ record { negative = sign (bits x f t); digits = digits (bits x f t); places = 1074 } → PartOf x p
  part_plain z e = rw e (record {
    whole = 0;
    value = subst (λ (n : ℕ). HasValue x (sign (bits x f t)) n (2 ^ 1074)) (no_more (digits (bits x f t)) (2 ^ 1074)) (plain x f t z);
    small = record { low = lt_of_lt_of_le few (lit≤ {m = 2 ^ 52} {n = 2 ^ 1074} tt); few = lt_of_lt_of_le few (lit≤ {m = 2 ^ 52} {n = 2 ^ 53} tt) };
  })
    where
      no_more : (d c : ℕ) → d ≡ 0 * c + d
      no_more d c = omega arith

      few : digits (bits x f t) < 2 ^ 52
      few = mod-lt (bits x f t) (lit< tt)

  module _ (h : exponent (bits x f t) ≡ 0 → ⊥) where
    some : 0 < exponent (bits x f t)
    some = elim (eq-zero-or-pos (exponent (bits x f t))) [
      | inl z ↦ absurd (h z)
      | inr p ↦ p
    ]

    pub part_places : exponent (bits x f t) ≤ 1075
    part_places = omega (arith, (leading x f t some).0)

    pub part_leading : {n : ℕ} → n ≡ (2 ^ 52 + digits (bits x f t)) % 2 ^ (1075 - exponent (bits x f t))
        → {p : Part} → p ≡ record { negative = sign (bits x f t); digits = n; places = 1075 - exponent (bits x f t) } → PartOf x p
    part_leading {n} e is =
        let d = 2 ^ 52 + digits (bits x f t) in
        let c = 2 ^ (1075 - exponent (bits x f t)) in
        let split : d / c * c + n ≡ d = ap (λ (r : ℕ). d / c * c + r) e ∙ div-add-mod' d c in
        rw is (record {
          whole = d / c;
          value = rw split (leading x f t some).1;
          small = record { low = rw e (mod-lt d (pow_pos (1075 - exponent (bits x f t)))); few = rw e (lt_of_le_of_lt (mod-le d c) (below_all (digits (bits x f t)) (mod-lt (bits x f t) (lit< tt)))) };
        })
      where
        below_all : (d : ℕ) → d < 2 ^ 52 → 2 ^ 52 + d < 2 ^ 53
        below_all d l = omega arith

pub ruleset parts = (part_plain, part_places, part_leading)

-- ---- what a / c, or - a / c, is above its floor
-- that much more is a multiple of c
pub filled : (a c : ℕ) → 0 < c → (a + (c - 1)) / c * c ≡ a + rest_at true a c
filled a c C = elim (eq-zero-or-pos (a % c)) [
  | inl z ↦
      let y : c - a % c ≡ c = omega arith in
      let r : rest_at true a c ≡ 0 = ap (λ (n : ℕ). n % c) y ∙ mod_self c in
      by (a / c) (omega (arith, div-add-mod' a c))
  | inr p ↦
      let r : rest_at true a c ≡ c - a % c = mod-eq_of_lt (omega (arith, mod-lt a C)) in
      by (suc (a / c)) (omega (arith, div-add-mod' a c, suc-mul (a / c) c, mod-lt a C))
]
  where
    by : (q : ℕ) → q * c ≡ a + rest_at true a c → (a + (c - 1)) / c * c ≡ a + rest_at true a c
    by q e =
        let l : rest_at true a c < c = rest_small true a c C in
        ap (λ (n : ℕ). n * c) (div-eq_of_lt-le c (omega arith) (omega (arith, suc-mul q c))) ∙ e

rest_is : (s : Bool) (a c : ℕ) → 0 < c → cond s (neg_ℤ (pos a)) (pos a) -ℤ floor_at s a c *ℤ pos c ≡ pos (rest_at s a c)
rest_is false a c C = eq_by (v_add (v_pos a) (v_neg (v_mul_r c (v_pos (a / c))))) (v_pos (a % c)) tt (omega (arith, div-add-mod' a c, mul_comm c (a / c)))
rest_is true a c C =
    let q = (a + (c - 1)) / c in
    eq_by (v_add (v_neg (v_pos a)) (v_neg (v_mul_r c (v_neg (v_pos q))))) (v_pos (rest_at true a c)) tt (omega (arith, filled a c C, mul_comm c q))

-- what x is above its floor, in units of 1 / den x
abbrev pub rest : Float → ℕ
rest nan = 0
rest (inf s) = 0
rest (fin s m e) = rest_at s (m * up e) (down e)

pub rest_below_one : (x : Float) → rest x < den x
rest_below_one nan = lit< tt
rest_below_one (inf s) = lit< tt
rest_below_one (fin s m e) = rest_small s (m * up e) (down e) (down_pos e)

-- ---- THE EXACT PARITY, over natural numbers
-- whether the two rests sum to 1 at least
abbrev pub rests_reach : Float → Float → Bool
rests_reach i j = leb (den i * den j) (rest i * den j + rest j * den i)

above : (x : Float) → (fraction_of x).over -ℤ floor x *ℤ pos (den x) ≡ pos (rest x)
unfolding fraction_of floor
above nan = refl
above (inf s) = refl
above (fin s m e) = rest_is s (m * up e) (down e) (down_pos e)

under : (x : Float) → (fraction_of x).under ≡ den x
unfolding fraction_of
under nan = refl
under (inf s) = refl
under (fin s m e) = refl

pub reaches_rests : (i j : Float) → reaches (pos 1) (beyond i j (floor i) (floor j)) ≡ rests_reach i j
unfolding beyond
reaches_rests i j =
    rw (under i, under j, above i, above j) (ap (λ (n : ℕ). leb n (rest i * den j + rest j * den i)) (one-mul (den i * den j)))

abbrev pub flag : Bool → ℕ
flag b = cond b 1 0

pub exact_rests : (i j : Float) → exact_parity i j ≡ flag (rests_reach i j)
unfolding exact_parity
exact_rests i j = ap flag (reaches_rests i j)

-- ---- equal fractions are as far above their floors
leb_scale : (a b k : ℕ) → 0 < k → leb a b ≡ leb (a * k) (b * k)
leb_scale a b k K = leb_same a b (a * k) (b * k) (λ h. mul-le-mul_right k h) (λ h. le_of_mul-le-mul_right h K)

mod_scale : (a b k : ℕ) → 0 < b → 0 < k → a % b * k ≡ a * k % (b * k)
mod_scale a b k B K = sym (mod-mul (a * k) B K ∙ ap₂ (λ (x y : ℕ). x % b * k + y) (mul-div_cancel a K) (mul-mod_left a k) ∙ add-zero (a % b * k))

left_scale : (b c d k : ℕ) → 0 < c → 0 < k → b * k ≡ d * c → b % c * k ≡ d % k * c
left_scale b c d k C K e = mod_scale b c k C K ∙ ap₂ ◌%◌ e (mul_comm c k) ∙ sym (mod_scale d k c K C)

rest_scale : (s : Bool) (b c d k : ℕ) → 0 < c → 0 < k → b * k ≡ d * c → rest_at s b c * k ≡ rest_at s d k * c
rest_scale false b c d k C K e = left_scale b c d k C K e
rest_scale true b c d k C K e =
    mod_scale (c - b % c) c k C K
    ∙ ap₂ ◌%◌ (sub_mul c (b % c) k ∙ ap₂ ◌-◌ (mul_comm c k) (left_scale b c d k C K e) ∙ sym (sub_mul k (d % k) c)) (mul_comm c k)
    ∙ sym (mod_scale (k - d % k) k c K C)

reach_scale : (f c F K g d G L : ℕ) → 0 < c → 0 < d → 0 < K → 0 < L → f * K ≡ F * c → g * L ≡ G * d → leb (c * d) (f * d + g * c) ≡ leb (K * L) (F * L + G * K)
reach_scale f c F K g d G L A B C D e h =
    leb_scale (c * d) (f * d + g * c) (K * L) (mul-pos C D)
    ∙ ap₂ leb (mul_comm (c * d) (K * L)) sums
    ∙ sym (leb_scale (K * L) (F * L + G * K) (c * d) (mul-pos A B))
  where
    first : f * d * (K * L) ≡ F * L * (c * d)
    first = simp (mul_assoc, mul_comm, mul_left_comm) (simp (mul_assoc, mul_comm, mul_left_comm) at (ap (λ (z : ℕ). z * (d * L)) e))

    second : g * c * (K * L) ≡ G * K * (c * d)
    second = simp (mul_assoc, mul_comm, mul_left_comm) (simp (mul_assoc, mul_comm, mul_left_comm) at (ap (λ (z : ℕ). z * (c * K)) h))

    sums : (f * d + g * c) * (K * L) ≡ (F * L + G * K) * (c * d)
    sums = add-mul (f * d) (g * c) (K * L) ∙ ap₂ ◌+◌ first second ∙ sym (add-mul (F * L) (G * K) (c * d))

-- what is whole adds nothing to it
rest_more : (s : Bool) (w a c : ℕ) → rest_at s (w * c + a) c ≡ rest_at s a c
rest_more false w a c = mul-add-mod_self_right w c a
rest_more true w a c = ap (λ (n : ℕ). (c - n) % c) (mul-add-mod_self_right w c a)

-- the part of x is as far above its floor as x
part_rest : (x : Float) (p : Part) → PartOf x p → rest x * 2 ^ p.places ≡ rest_at p.negative p.digits (2 ^ p.places) * den x
part_rest nan p of = absurd of.value
part_rest (inf s) p of = absurd of.value
part_rest (fin s m e) p of =
    let c = 2 ^ p.places in
    rest_scale s (m * up e) (down e) (of.whole * c + p.digits) c (down_pos e) (pow_pos p.places) of.value.1
    ∙ ap (λ (n : ℕ). n * down e) (rest_more s of.whole p.digits c ∙ ap (λ (b : Bool). rest_at b p.digits c) of.value.0)

parts_exact : (i j : Float) (p q : Part) → PartOf i p → PartOf j q → parts_reach p q ≡ rests_reach i j
unfolding parts_reach
parts_exact i j p q of_i of_j =
    sym
    (reach_scale (rest i) (den i) (rest_at p.negative p.digits (2 ^ p.places)) (2 ^ p.places) (rest j) (den j) (rest_at q.negative q.digits (2 ^ q.places)) (2 ^ q.places)
    (den_pos i) (den_pos j) (pow_pos p.places) (pow_pos q.places) (part_rest i p of_i) (part_rest j q of_j))

module _ (i j : Float) {p q : Part} (of_i : PartOf i p) (of_j : PartOf j q) {b : Bool} (e : b ≡ parts_reach p q) where
  told_by : {c : Bool} → b ≡ c → flag c ≡ exact_parity i j
  told_by {c} h = ap flag (sym h ∙ e ∙ parts_exact i j p q of_i of_j) ∙ sym (exact_rests i j)

  pub exact_one : b ≡ true → 1 ≡ exact_parity i j
  exact_one = told_by

  pub exact_zero : b ≡ false → 0 ≡ exact_parity i j
  exact_zero = told_by

pub ruleset exactly = (exact_one, exact_zero)

-- ---- the floor of a number is the whole number m with m <= x < m + 1
module _ (x : Float) where
  abbrev v_floor : View (floor x *ℤ pos (fraction_of x).under)
  v_floor = v_mul_r (fraction_of x).under (v_var (floor x))

  abbrev v_over : View (fraction_of x).over
  v_over = v_var (fraction_of x).over

  apart : (fraction_of x).over -ℤ floor x *ℤ pos (fraction_of x).under ≡ pos (rest x)
  apart = rw (under x) (above x)

  short : rest x < (fraction_of x).under
  short = rw (under x) (rest_below_one x)

  pub floor_least : reaches (floor x) (fraction_of x) ≡ true
  floor_least =
      sym (is_true (reaches (floor x) (fraction_of x)) (le_by v_floor v_over tt (omega (arith, eq_of (v_add v_over (v_neg v_floor)) (v_pos (rest x)) tt apart))).le)

  abbrev v_next : View ((floor x +ℤ pos 1) *ℤ pos (fraction_of x).under)
  v_next = v_mul_r (fraction_of x).under (v_add (v_var (floor x)) (v_pos 1))

  pub floor_most : reaches (floor x +ℤ pos 1) (fraction_of x) ≡ false
  floor_most =
      sym
      (is_false (reaches (floor x +ℤ pos 1) (fraction_of x))
      (λ h. omega (arith, short, le_of v_next v_over tt (record { le = h }), eq_of (v_add v_over (v_neg v_floor)) (v_pos (rest x)) tt apart)))

-- ---- THE TRIANGLE: the triple of a point's own floors and exact parity holds it
module _ (i j : Float) where
  abbrev reached : Bool
  reached = reaches (pos 1) (beyond i j (floor i) (floor j))

  zero_says : pos (exact_parity i j) ≡ pos 0 → reached ≡ false
  unfolding exact_parity
  zero_says e = go reached e
    where
      go : (b : Bool) → pos (flag b) ≡ pos 0 → b ≡ false
      go true e = let h : ◌≡◌ {A = ℕ} 1 0 = ap nat_abs e in absurd (omega arith)
      go false e = refl

  one_says : pos (exact_parity i j) ≡ pos 1 → reached ≡ true
  unfolding exact_parity
  one_says e = go reached e
    where
      go : (b : Bool) → pos (flag b) ≡ pos 1 → b ≡ true
      go true e = refl
      go false e = let h : ◌≡◌ {A = ℕ} 0 1 = ap nat_abs e in absurd (omega arith)

  abbrev own : Triple
  own = own_triple (floor i) (floor j) (exact_parity i j)

  -- its sum is the parity
  own_sum : (z : ℤ) → sum_of own ≡ z → pos (exact_parity i j) ≡ z
  own_sum z e =
      let m = v_var (floor i) in
      let n = v_var (floor j) in
      let p = v_pos (exact_parity i j) in
      eq_by p (v_add (v_add (v_neg n) (v_add (v_add m n) p)) (v_neg m)) tt (omega arith) ∙ e

  pub own_holds : LiesIn own i j
  own_holds = record {
    i_least = rw (neg_ℤ-neg_ℤ (floor i)) (floor_least i);
    i_most = rw (neg_ℤ-neg_ℤ (floor i)) (floor_most i);
    j_least = rw (neg_ℤ-neg_ℤ (floor j)) (floor_least j);
    j_most = rw (neg_ℤ-neg_ℤ (floor j)) (floor_most j);
    lower = λ e. rw (neg_ℤ-neg_ℤ (floor i), neg_ℤ-neg_ℤ (floor j)) (zero_says (own_sum (pos 0) e));
    upper = λ e. rw (neg_ℤ-neg_ℤ (floor i), neg_ℤ-neg_ℤ (floor j)) (one_says (own_sum (pos 1) e));
  }
