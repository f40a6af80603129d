-- THE TWO PARITIES: where the exact fractions of a point sum to 1 at least, so do the rounded ones. So where the two parities differ, the rounded one is 1 and the exact one is 0.
use mathlib.Core.Path.{◌≡◌, refl, sym, ap, ◌∙◌, subst}
use mathlib.Core.Logic.{inl, inr}
use mathlib.Core.Bool.{Bool, true, false, ◌&&◌, cond, true≢false, false≢true}
use Prim.Native.Nat.{ℕ, zero, suc, ◌+◌, ◌-◌, ◌*◌, ◌/◌, ◌%◌, ◌^◌, ◌≤◌, ◌<◌, suc-le-suc, zero-le}
use native.Mathlib.Omega.{arith}
use native.Mathlib.Decide.{dec_lt}
use native.Mathlib.Nat.{mul-one, mul_comm, mul_assoc, mul_left_comm, mul_right_comm, mul-pos, le_trans, le_of_eq, zero-mul, add-mul, div-add-mod', mod-lt, mod-le, mod_self, mod-eq_of_lt, mod-one, mul-le-mul_right, le_of_mul-le-mul_right, eq-zero-or-pos, mul-lt-mul_of_pos_right}
use lib.Dec.{T, ltb, ltb→lt, lt→ltb, leb→le}
use lib.IntN.{ℤ, pos, negsuc, neg_ℤ, nat_abs}
use lib.Ieee.{Float, nan, inf, fin, Format, binary64, up, down, round, sum, add, sub, neg, le, of_int, fits}
use lib.Ieee.Fits.{down_pos}
use lib.Ieee.Exact.{HasValue}
use lib.Ieee.Scale.{round_same}
use lib.Ieee.Positive.{den, den_pos}
use Rattle.whole.proofs.Bools.{both_left, both_right, is_true, from_true}
use Rattle.whole.proofs.Floats.{int_value}
use Rattle.curve.specs.Points.{near, floor, fraction, one, parity}
use Rattle.curve.specs.ExactPoints.{exact_parity}
use Rattle.curve.specs.Inside.Parts.{rest_at}
use Rattle.curve.proofs.FloorLaws.{floor_size}
use Rattle.curve.proofs.PartLaws.{sub_mul}
use Rattle.curve.proofs.FractionLaws.{rest, rest_below_one, rests_reach, flag, exact_rests, filled}
use Rattle.curve.proofs.RoundedFractions.{units, unit, rounded, grid_error, add_is, one_of_grid, same_value, fits_says, frac_exact, high_half}

-- ---- a difference of a number and a whole one, once rounded
-- ±: x - y for x = b / c, y = q, q ≤ x
low_pick : (f : Format) (a b c : ℕ) → b ≤ a → sum f false a true b c ≡ round f false (a - b) c
unfolding sum
low_pick f a b c h = go (ltb a b) (ltb→lt a b)
  where
    go : (t : Bool) → (T t → a < b) → cond t (round f true (b - a) c) (round f false (a - b) c) ≡ round f false (a - b) c
    go true k = let l = k tt in absurd (omega arith)
    go false k = refl

high_pick : (f : Format) (a b c : ℕ) → a < b → sum f true a false b c ≡ round f false (b - a) c
unfolding sum
high_pick f a b c h = go (ltb a b) (lt→ltb a b h)
  where
    go : (t : Bool) → T t → cond t (round f false (b - a) c) (round f (true && ltb b a) (a - b) c) ≡ round f false (b - a) c
    go true k = refl
    go false k = absurd k

-- n * u is q * d, so a fraction over c * d of the two is that of b and q * c over c
shrink : (b q c d n u : ℕ) → n * u * 1 ≡ q * d → n * u * c ≡ q * c * d
shrink b q c d n u h = ap (λ (z : ℕ). z * c) (sym (mul-one (n * u)) ∙ h) ∙ mul_right_comm q d c

sub_low : (m : ℕ) (e : ℤ) (y : Float) (q : ℕ) → HasValue y false q 1 → q * down e ≤ m * up e → sub binary64 (fin false m e) y ≡ round binary64 false (m * up e - q * down e) (down e)
unfolding sub neg add
sub_low m e nan q v h = absurd v
sub_low m e (inf t) q v h = absurd v
sub_low m e (fin true n d) q v h = absurd (true≢false v.0)
sub_low m e (fin false n d) q v h =
    let b = m * up e in
    let c = down e in
    let D = down d in
    let x : n * up d * c ≡ q * c * D = shrink b q c D n (up d) v.1 in
    low_pick binary64 (b * D) (n * up d * c) (c * D) (subst (λ (z : ℕ). z ≤ b * D) (sym x) (mul-le-mul_right D h))
    ∙ round_same binary64 false (b * D - n * up d * c) (c * D) (b - q * c) c (mul-pos (down_pos e) (down_pos d)) (down_pos e)
    (ap (λ (z : ℕ). (b * D - z) * c) x ∙ ap (λ (z : ℕ). z * c) (sym (sub_mul b (q * c) D)) ∙ mul_assoc (b - q * c) D c ∙ ap (λ (z : ℕ). (b - q * c) * z) (mul_comm D c))

sub_high : (m : ℕ) (e : ℤ) (y : Float) (q : ℕ) → HasValue y true q 1 → m * up e < q * down e → sub binary64 (fin true m e) y ≡ round binary64 false (q * down e - m * up e) (down e)
unfolding sub neg add
sub_high m e nan q v h = absurd v
sub_high m e (inf t) q v h = absurd v
sub_high m e (fin false n d) q v h = absurd (false≢true v.0)
sub_high m e (fin true n d) q v h =
    let b = m * up e in
    let c = down e in
    let D = down d in
    let x : n * up d * c ≡ q * c * D = shrink b q c D n (up d) v.1 in
    high_pick binary64 (b * D) (n * up d * c) (c * D) (subst (λ (z : ℕ). b * D < z) (sym x) (mul-lt-mul_of_pos_right h (down_pos d)))
    ∙ round_same binary64 false (n * up d * c - b * D) (c * D) (q * c - b) c (mul-pos (down_pos e) (down_pos d)) (down_pos e)
    (ap (λ (z : ℕ). (z - b * D) * c) x ∙ ap (λ (z : ℕ). z * c) (sym (sub_mul (q * c) b D)) ∙ mul_assoc (q * c - b) D c ∙ ap (λ (z : ℕ). (q * c - b) * z) (mul_comm D c))

-- ---- the fraction that the f64's arithmetic has is the exact one, rounded
below_whole : (m : ℕ) (e : ℤ) (r : ℕ) → 0 < r → (q : ℕ) → q * down e ≡ m * up e + r → nat_abs (neg_ℤ (pos q)) ≤ 2 ^ 31
    → sub binary64 (fin true m e) (of_int binary64 (neg_ℤ (pos q))) ≡ round binary64 false r (down e)
below_whole m e r R zero h l = let z : 0 * down e ≡ 0 = zero-mul (down e) in absurd (omega arith)
below_whole m e r R (suc k) h l =
    let k_is : suc k * down e - m * up e ≡ r = omega arith in
    sub_high m e (of_int binary64 (negsuc k)) (suc k) (int_value (negsuc k) (omega arith)) (omega arith) ∙ ap (λ (z : ℕ). round binary64 false z (down e)) k_is

fraction_is : (x : Float) → near x ≡ true → 0 < rest x → fraction x ≡ round binary64 false (rest x) (den x)
unfolding fraction floor
fraction_is nan t h = absurd (omega arith)
fraction_is (inf s) t h = absurd (omega arith)
fraction_is (fin false m e) t h =
    let b = m * up e in
    let c = down e in
    let k : b / c * c + b % c ≡ b = div-add-mod' b c in
    let r : b - b / c * c ≡ b % c = omega arith in
    let l : b / c ≤ 2 ^ 31 = floor_size (fin false m e) t in
    sub_low m e (of_int binary64 (pos (b / c))) (b / c) (int_value (pos (b / c)) (omega arith)) (omega arith)
    ∙ ap (λ (z : ℕ). round binary64 false z c) r
fraction_is (fin true m e) t h =
    below_whole m e (rest (fin true m e)) h ((m * up e + (down e - 1)) / down e) (filled (m * up e) (down e) (down_pos e)) (floor_size (fin true m e) t)

-- ---- below a half it is exact
-- it has few digits then
few : (s : Bool) (m c b : ℕ) → 0 < c → b % c ≤ m → m < 2 ^ 53 → rest_at s b c * 2 < c → rest_at s b c < 2 ^ 53
few false m c b C h l k = omega arith
few true m c b C h l k = elim (eq-zero-or-pos (b % c)) [
  | inl z ↦
      let y : c - b % c ≡ c = omega arith in
      let r : rest_at true b c ≡ 0 = ap (λ (n : ℕ). n % c) y ∙ mod_self c in
      omega arith
  | inr p ↦
      let r : rest_at true b c ≡ c - b % c = mod-eq_of_lt (omega (arith, mod-lt b C)) in
      omega arith
]

left_most : (m : ℕ) (e : ℤ) → m * up e % down e ≤ m
left_most m (pos k) = le_trans (le_of_eq (mod-one (m * 2 ^ k))) zero-le
left_most m (negsuc k) = le_trans (mod-le (m * 1) (2 ^ suc k)) (le_of_eq (mul-one m))

exact_low : (x : Float) → near x ≡ true → T (fits binary64 x) → rest x * 2 < den x → units (rest x) (den x) * den x ≡ rest x * unit
unfolding near
exact_low nan n t h = absurd (false≢true n)
exact_low (inf s) n t h = absurd (false≢true n)
exact_low (fin s m e) n t h =
    let a = rest (fin s m e) in
    let p = fits_says s m e t in
    same_value (round binary64 false a (down e)) (units a (down e)) unit a (down e) (rounded a (down e) (down_pos e) (rest_below_one (fin s m e)))
    (frac_exact a e p.1 (few s m (down e) (m * up e) (down_pos e) (left_most m e) p.0 h))

-- ---- the two sums
-- one fraction exact, the other off by at most half of w
close : (fi ci gi fj cj gj l w : ℕ) → 0 < ci → 0 < cj → fi * l * 2 ≤ gi * ci * 2 + ci * w → gj * cj ≡ fj * l → ci * cj ≤ fi * cj + fj * ci → l * 2 ≤ (gi + gj) * 2 + w
close fi ci gi fj cj gj l w CI CJ h e s =
    le_of_mul-le-mul_right
    (le_trans (le_of_eq (mul_comm (l * 2) (ci * cj)))
    (le_trans (mul-le-mul_right (l * 2) s)
    (le_trans (le_of_eq left)
    (le_trans (add_le (mul-le-mul_right cj h) (le_of_eq (ap (λ (z : ℕ). z * (2 * ci)) (sym e))))
    (le_of_eq right)))))
    (mul-pos CI CJ)
  where
    add_le : {a b c d : ℕ} → a ≤ b → c ≤ d → a + c ≤ b + d
    add_le h k = omega arith

    left : (fi * cj + fj * ci) * (l * 2) ≡ fi * l * 2 * cj + fj * l * (2 * ci)
    left = simp (add-mul, mul_assoc, mul_comm, mul_left_comm)

    right : (gi * ci * 2 + ci * w) * cj + gj * cj * (2 * ci) ≡ ((gi + gj) * 2 + w) * (ci * cj)
    right = simp (add-mul, mul_assoc, mul_comm, mul_left_comm) (omega arith)

both_high : (gi gj l w : ℕ) → l ≤ gi * 2 → l ≤ gj * 2 → l * 2 ≤ (gi + gj) * 2 + w
both_high gi gj l w h k = omega arith

swap_sum : (gi gj l w : ℕ) → l * 2 ≤ (gj + gi) * 2 + w → l * 2 ≤ (gi + gj) * 2 + w
swap_sum gi gj l w h = omega arith

swap_cross : (ci cj a b : ℕ) → ci * cj ≤ a + b → cj * ci ≤ b + a
swap_cross ci cj a b h = let e : ci * cj ≡ cj * ci = mul_comm ci cj in omega arith

-- neither fraction is 0, since the other is below 1
some_rest : (fi ci fj cj : ℕ) → 0 < ci → fj < cj → ci * cj ≤ fi * cj + fj * ci → 0 < fi
some_rest zero ci fj cj C l h =
    let z : zero * cj ≡ 0 = zero-mul cj in
    let k : fj * ci < cj * ci = mul-lt-mul_of_pos_right l C in
    let e : ci * cj ≡ cj * ci = mul_comm ci cj in
    absurd (omega arith)
some_rest (suc fi) ci fj cj C l h = suc-le-suc zero-le

-- ---- from the exact sum to the rounded one
module _ (i j : Float) (ni : near i ≡ true) (nj : near j ≡ true) (fi : T (fits binary64 i)) (fj : T (fits binary64 j)) (h : den i * den j ≤ rest i * den j + rest j * den i) where
  sums_close : unit * 2 ≤ (units (rest i) (den i) + units (rest j) (den j)) * 2 + 2 ^ 1021
  sums_close = elim (dec_lt (rest i * 2) (den i)) [
    | yes a ↦
        swap_sum (units (rest i) (den i)) (units (rest j) (den j)) unit (2 ^ 1021)
        (close (rest j) (den j) (units (rest j) (den j)) (rest i) (den i) (units (rest i) (den i)) unit (2 ^ 1021) (den_pos j) (den_pos i) (grid_error (rest j) (den j) (den_pos j) (rest_below_one j)) (exact_low i ni fi a) (swap_cross (den i) (den j) (rest i * den j) (rest j * den i) h))
    | no a ↦ elim (dec_lt (rest j * 2) (den j)) [
      | yes b ↦
          close (rest i) (den i) (units (rest i) (den i)) (rest j) (den j) (units (rest j) (den j)) unit (2 ^ 1021) (den_pos i) (den_pos j) (grid_error (rest i) (den i) (den_pos i) (rest_below_one i)) (exact_low j nj fj b) h
      | no b ↦
          both_high (units (rest i) (den i)) (units (rest j) (den j)) unit (2 ^ 1021)
          (high_half (rest i) (den i) (den_pos i) (rest_below_one i) (omega arith)) (high_half (rest j) (den j) (den_pos j) (rest_below_one j) (omega arith))
    ]
  ]

  fraction_i : fraction i ≡ round binary64 false (rest i) (den i)
  fraction_i = fraction_is i ni (some_rest (rest i) (den i) (rest j) (den j) (den_pos i) (rest_below_one j) h)

  fraction_j : fraction j ≡ round binary64 false (rest j) (den j)
  fraction_j = fraction_is j nj (some_rest (rest j) (den j) (rest i) (den i) (den_pos j) (rest_below_one i) (swap_cross (den i) (den j) (rest i * den j) (rest j * den i) h))

  added : add binary64 (fraction i) (fraction j) ≡ round binary64 false (units (rest i) (den i) + units (rest j) (den j)) unit
  added =
      (λ k. add binary64 (fraction_i k) (fraction_j k))
      ∙ add_is (round binary64 false (rest i) (den i)) (round binary64 false (rest j) (den j)) (units (rest i) (den i)) (units (rest j) (den j))
      (rounded (rest i) (den i) (den_pos i) (rest_below_one i)) (rounded (rest j) (den j) (den_pos j) (rest_below_one j))

  rounded_reaches : T (le one (add binary64 (fraction i) (fraction j)))
  rounded_reaches = subst (λ (x : Float). T (le one x)) (sym added) (one_of_grid (units (rest i) (den i) + units (rest j) (den j)) sums_close)

-- where the two parities of two f64 differ, the rounded one is 1 and the exact one is 0
pub differ : (i j : Float) → (near i && near j) ≡ true → fits binary64 i ≡ true → fits binary64 j ≡ true → (parity i j ≡ exact_parity i j → ⊥) → (parity i j ≡ 1) × (exact_parity i j ≡ 0)
unfolding parity
differ i j n fi fj apart =
    let ni = sym (is_true (near i) (both_left (near i) (near j) (from_true n))) in
    let nj = sym (is_true (near j) (both_right (near i) (near j) (from_true n))) in
    go (le one (add binary64 (fraction i) (fraction j))) (rests_reach i j) (exact_rests i j)
    (λ t. rounded_reaches i j ni nj (from_true fi) (from_true fj) (leb→le (den i * den j) (rest i * den j + rest j * den i) t)) apart
  where
    go : (a b : Bool) {e : ℕ} → e ≡ flag b → (T b → T a) → (flag a ≡ e → ⊥) → (flag a ≡ 1) × (e ≡ 0)
    go true true e f n = absurd (n (sym e))
    go true false e f n = (refl, e)
    go false true e f n = absurd (f tt)
    go false false e f n = absurd (n (sym e))
