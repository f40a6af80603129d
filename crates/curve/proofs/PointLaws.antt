-- What the definitions of a point's triple give in each case, from what the code has in hand in that case; and that a point's triple is in bounds.
use mathlib.Core.Path.{◌≡◌, refl, sym, ap, ◌∙◌}
use mathlib.Core.Bool.{Bool, true, false, not, ◌&&◌, cond, true≢false}
use Prim.Native.Nat.{ℕ, ◌+◌, ◌-◌, ◌^◌, ◌≤◌, ◌<◌}
use native.Mathlib.Omega.{arith}
use native.Mathlib.Decide.{dec_lt}
use borrow.Author.Tests.{lt-ltb, le-ltb, le-leb, lt-leb, ltb-true, not-true, not-false}
use lib.Dec.{T, ltb}
use lib.IntN.{ℤ, pos, negsuc, neg_ℤ, nat_abs, ◌-ℤ◌}
use lib.Signed.{lt_z, non_neg}
use lib.Pow.{pow_pos}
use lib.Ieee.{Float, binary64, le, add, sub, of_int}
use mir.Syntax.{w32, w64}
use mir.Val.{SFits, Fits, to_z}
use mir.ValLaws.{to_z-of_z}
use Rattle.whole.proofs.Bools.{both_left, both_right, is_true, from_true}
use Rattle.whole.proofs.TestLaws.{true_pass}
use Rattle.whole.proofs.View.{View, rd, v_pos, v_upto, v_neg, v_add, v_bits, v_unsigned, v_abs, eq_by, le_by, fits, kept}
use Rattle.triple.specs.declared.Triple.{Triple}
use Rattle.triple.specs.declared.refusal.Refusal.TheVariants as Is
use Rattle.triple.specs.Refusals.{told, refused, number_of}
use Rattle.triple.specs.Triples.{bounds, is_in_bounds}
use Rattle.triple.specs.Domain.{greatest_resolution, row_count}
use Rattle.triple.proofs.DomainLaws.{v_rows}
use Rattle.triple.proofs.RefusalLaws.{passed}
use Rattle.triple.proofs.TripleLaws.{row_most}
use Rattle.curve.specs.declared.PointCell.{PointCell}
use Rattle.curve.specs.Points.{near, floor, fraction, one, parity, clamped, cornered, settled, is_moved, point_cell, point_by, point_of}
use Rattle.curve.specs.ExactPoints.{reaches, beyond, exact_parity}
use Rattle.curve.specs.Inside.Parts.{parity_in}
use Rattle.curve.proofs.FloorLaws.{floor_size}

-- ---- both coordinates
module _ (i j : Float) where
  pub not_first : {b : Bool} → b ≡ near i → not b ≡ true → false ≡ (near i && near j)
  not_first {b} e n = ap (λ (a : Bool). a && near j) (sym (sym e ∙ not-true b n))

  pub second : {b c : Bool} → b ≡ near i → not b ≡ false → c ≡ near j → c ≡ (near i && near j)
  second {b} e n f = f ∙ ap (λ (a : Bool). a && near j) (sym (sym e ∙ not-false b n))

  pub near_told : {b : Bool} → b ≡ (near i && near j) → not b ≡ false → (near i && near j) ≡ true
  near_told {b} e n = sym e ∙ not-false b n

  pub near_first : (near i && near j) ≡ true → near i ≡ true
  near_first t = sym (is_true (near i) (both_left (near i) (near j) (from_true t)))

  pub near_second : (near i && near j) ≡ true → near j ≡ true
  near_second t = sym (is_true (near j) (both_right (near i) (near j) (from_true t)))

pub ruleset both_near = (not_first, second)

-- ---- a floor, as the code clamps it
module _ (z : ℤ) (f : SFits w64 z) where
  test_read : {b : Bool} → lt_z (rd w64 z) (pos 0) ≡ b → lt_z z (pos 0) ≡ b
  test_read h = ap (λ (y : ℤ). lt_z y (pos 0)) (sym (to_z-of_z w64 z f)) ∙ h

  pub clamped_below : lt_z (rd w64 z) (pos 0) ≡ true → pos 0 ≡ pos (clamped z)
  clamped_below h = go z (test_read h)
    where
      go : (y : ℤ) → lt_z y (pos 0) ≡ true → pos 0 ≡ pos (clamped y)
      go (pos n) h = let l : n < 0 = ltb-true n 0 h in absurd (omega arith)
      go (negsuc n) h = refl

  pub clamped_same : lt_z (rd w64 z) (pos 0) ≡ false → rd w64 z ≡ pos (clamped z)
  clamped_same h = to_z-of_z w64 z f ∙ go z (test_read h)
    where
      go : (y : ℤ) → lt_z y (pos 0) ≡ false → y ≡ pos (clamped y)
      go (pos n) h = refl
      go (negsuc n) h = absurd (true≢false h)

pub ruleset clamping = (clamped_below, clamped_same)

-- what the code has after it, of a coordinate x with the floor y
clamped_size : (y : ℤ) (k : ℕ) → nat_abs y ≤ k → clamped y ≤ k
clamped_size (pos n) k h = h
clamped_size (negsuc n) k h = omega arith

module _ (x : Float) (t : near x ≡ true) {y : ℤ} (e : y ≡ floor x) where
  pub floor_read : rd w64 y ≡ floor x
  floor_read = kept w64 e (v_abs (floor x) (2 ^ 31) (floor_size x t)) tt

  pub floor_small : nat_abs (rd w64 y) ≤ 2 ^ 31
  floor_small = rw floor_read (floor_size x t)

  fraction_is : {f : Float} → f ≡ sub binary64 x (of_int binary64 (rd w64 y)) → f ≡ fraction x
  unfolding fraction
  fraction_is a = a ∙ ap (λ (w : ℤ). sub binary64 x (of_int binary64 w)) floor_read

module _ (x : Float) (t : near x ≡ true) {y z : ℤ} (e : y ≡ floor x) (g : z ≡ pos (clamped (rd w64 y))) where
  clamped_most : clamped (floor x) ≤ 2 ^ 31
  clamped_most = clamped_size (floor x) (2 ^ 31) (floor_size x t)

  clamped_read : rd w64 z ≡ pos (clamped (floor x))
  clamped_read = kept w64 (g ∙ ap (λ (w : ℤ). pos (clamped w)) (floor_read x t e)) (v_upto (clamped (floor x)) (2 ^ 31) clamped_most) tt

  pub clamped_not_negative : T (non_neg (rd w64 z))
  clamped_not_negative = rw clamped_read tt

  pub clamped_fits : Fits w64 (nat_abs (rd w64 z))
  clamped_fits = rw clamped_read (record { fits = omega (arith, clamped_most) })

  pub clamped_small : nat_abs (rd w64 z) ≤ 2 ^ 31
  clamped_small = rw clamped_read clamped_most

  clamped_is : nat_abs (rd w64 z) ≡ clamped (floor x)
  clamped_is = ap nat_abs clamped_read

-- ---- the parity
module _ (f g : Float) where
  pub parity_one : le one (add binary64 f g) ≡ true → ◌≡◌ {A = ℕ} 1 (cond (le one (add binary64 f g)) 1 0)
  parity_one h = rw h

  pub parity_zero : le one (add binary64 f g) ≡ false → ◌≡◌ {A = ℕ} 0 (cond (le one (add binary64 f g)) 1 0)
  parity_zero h = rw h

pub ruleset parities = (parity_one, parity_zero)

flag_small : (b : Bool) → ◌≤◌ (cond b 1 0) 1
flag_small true = omega arith
flag_small false = omega arith

pub parity_small : (i j : Float) → parity i j ≤ 1
unfolding parity
parity_small i j = flag_small (le one (add binary64 (fraction i) (fraction j)))

pub exact_small : (i j : Float) → exact_parity i j ≤ 1
unfolding exact_parity
exact_small i j = flag_small (reaches (pos 1) (beyond i j (floor i) (floor j)))

-- of one way or the other
module _ (exact : Bool) (i j : Float) where
  pub told_small : {p : ℕ} → p ≡ parity_in exact i j → p ≤ 1
  told_small e = rw e (go exact)
    where
      go : (b : Bool) → parity_in b i j ≤ 1
      go true = exact_small i j
      go false = parity_small i j

  pub told_exactly : exact ≡ true → {p : ℕ} → p ≡ exact_parity i j → p ≡ parity_in exact i j
  told_exactly t e = rw t e

  pub told_rounded : exact ≡ false → (near i && near j) ≡ true → {m n : ℤ} → m ≡ floor i → n ≡ floor j → (f g : Float) → f ≡ sub binary64 i (of_int binary64 (rd w64 m))
      → g ≡ sub binary64 j (of_int binary64 (rd w64 n)) → {p : ℕ} → p ≡ cond (le one (add binary64 f g)) 1 0 → p ≡ parity_in exact i j
  unfolding parity
  told_rounded t both m n f g a b e =
      let f_is = fraction_is i (near_first i j both) m a in
      let g_is = fraction_is j (near_second i j both) n b in
      rw t (e ∙ λ k. cond (le one (add binary64 (f_is k) (g_is k))) 1 0)

pub ruleset telling = (near_first, near_second, floor_small, told_exactly, told_rounded)

-- ---- the triple of m, n and the parity
abbrev v_minus : (k : ℕ) → k ≤ 2 ^ 30 → View (pos 0 -ℤ to_z w32 k)
v_minus k h = v_add (v_pos 0) (v_neg (v_unsigned w32 k (2 ^ 30) h))

pub minus_m_fits : (m n p : ℕ) → m + n + p ≤ 2 ^ 30 → SFits w32 (pos 0 -ℤ to_z w32 m)
minus_m_fits m n p h = fits (v_minus m (omega arith)) tt

pub minus_n_fits : (m n p : ℕ) → m + n + p ≤ 2 ^ 30 → SFits w32 (pos 0 -ℤ to_z w32 n)
minus_n_fits m n p h = fits (v_minus n (omega arith)) tt

minus_is : (k : ℕ) → k ≤ 2 ^ 30 → rd w32 (pos 0 -ℤ to_z w32 k) ≡ neg_ℤ (pos k)
minus_is k h = eq_by (v_bits w32 (pos 0 -ℤ to_z w32 k) (v_minus k h)) (v_neg (v_pos k)) tt (omega arith)

row_is : (k : ℕ) → k ≤ 2 ^ 30 → to_z w32 k ≡ pos k
row_is k h = eq_by (v_unsigned w32 k (2 ^ 30) h) (v_pos k) tt (omega arith)

pub cornered_is : (m n p : ℕ) → m + n + p ≤ 2 ^ 30 → {t : Triple} → t ≡ record { x = rd w32 (pos 0 -ℤ to_z w32 n); y = to_z w32 (m + n + p); z = rd w32 (pos 0 -ℤ to_z w32 m) } → t ≡ cornered m n p
cornered_is m n p h e = e ∙ λ i. record { x = minus_is n (omega arith) i; y = row_is (m + n + p) h i; z = minus_is m (omega arith) i }

pub ruleset corners = (minus_n_fits, minus_m_fits, cornered_is)

-- ---- the last row, by the count of the rows
module _ (r : ℕ) (h : r ≤ 30) {n : ℤ} (e : n ≡ pos (row_count r)) where
  abbrev v_last : View (rd w64 n -ℤ pos 1)
  v_last = v_add (v_bits w64 n (v_rows r h e)) (v_neg (v_pos 1))

  pub last_fits : SFits w64 (rd w64 n -ℤ pos 1)
  last_fits = fits v_last tt

  last_read : rd w64 (rd w64 n -ℤ pos 1) ≡ pos (2 ^ r - 1)
  last_read = eq_by (v_bits w64 (rd w64 n -ℤ pos 1) v_last) (v_upto (2 ^ r - 1) (2 ^ 30) (row_most r h)) tt (omega (arith, pow_pos r))

  pub last_not_negative : T (non_neg (rd w64 (rd w64 n -ℤ pos 1)))
  last_not_negative = rw last_read tt

  pub last_cast : Fits w64 (nat_abs (rd w64 (rd w64 n -ℤ pos 1)))
  last_cast = rw last_read (record { fits = omega (arith, row_most r h) })

  pub last_is : nat_abs (rd w64 (rd w64 n -ℤ pos 1)) ≡ 2 ^ r - 1
  last_is = ap nat_abs last_read

pub ruleset last_rows = (last_fits, last_not_negative, last_cast, last_is)

-- ---- brought down to the last row
module _ (m n p last : ℕ) where
  pub settled_whole : m + n + p ≤ last → {t : Triple} → t ≡ cornered m n p → t ≡ settled last m n p
  unfolding settled
  settled_whole h e = simp (le-leb (m + n + p) last h) e

  settled_over : last < m + n + p → {k l : ℕ} → k ≡ m - (m + n - last) → l ≡ n - (m + n - last - m) → {t : Triple} → t ≡ cornered k l 0 → t ≡ settled last m n p
  unfolding settled
  settled_over h a b e = simp (lt-leb (m + n + p) last h) (e ∙ λ i. cornered (a i) (b i) 0)

  pub settled_even : last < m + n + p → m + n ≤ last → {t : Triple} → t ≡ cornered m n 0 → t ≡ settled last m n p
  settled_even h k = settled_over h (omega arith) (omega arith)

  pub settled_off_m : last < m + n + p → m + n - last ≤ m → {t : Triple} → t ≡ cornered (m - (m + n - last)) n 0 → t ≡ settled last m n p
  settled_off_m h k = settled_over h refl (omega arith)

  pub settled_off_n : last < m + n + p → m < m + n - last → {t : Triple} → t ≡ cornered 0 (n - (m + n - last - m)) 0 → t ≡ settled last m n p
  settled_off_n h k = settled_over h (omega arith) refl

pub ruleset settling = (settled_whole, settled_even, settled_off_m, settled_off_n)

-- the whole rounding, from what each step gives
pub rounded_is : (exact : Bool) (i j : Float) (last : ℕ) → (near i && near j) ≡ true → {y z m n : ℤ} → y ≡ floor i → z ≡ floor j → m ≡ pos (clamped (rd w64 y)) → n ≡ pos (clamped (rd w64 z))
    → {p : ℕ} → p ≡ parity_in exact i j → {t : Triple} → t ≡ settled last (nat_abs (rd w64 m)) (nat_abs (rd w64 n)) p → {b : Bool} → b ≡ is_moved last (rd w64 y) (rd w64 z) p
    → {c : PointCell} → c ≡ record { triple = t; moved = b } → c ≡ point_cell last (floor i) (floor j) (parity_in exact i j)
rounded_is exact i j last both y z m n p e moved is =
    let ni = near_first i j both in
    let nj = near_second i j both in
    let triple_same = e ∙ λ k. settled last (clamped_is i ni y m k) (clamped_is j nj z n k) (p k) in
    let Moved_same = moved ∙ λ k. is_moved last (floor_read i ni y k) (floor_read j nj z k) (p k) in
    is ∙ λ k. record { triple = triple_same k; moved = Moved_same k }

pub ruleset rounding = (near_first, near_second, floor_read, floor_small, clamped_not_negative, clamped_fits, clamped_small, told_small, rounded_is)

-- ---- the answers: refused, or told
module _ (exact : Bool) (r : ℕ) (i j : Float) where
  pub point_far : 30 < r → refused (number_of Is.Resolution) ≡ point_by (parity_in exact) r i j
  point_far h = rw (lt-ltb 30 r h)

  module _ (h : r ≤ 30) {b : Bool} (e : b ≡ (near i && near j)) where
    pub point_beyond : not b ≡ true → refused (number_of Is.Point) ≡ point_by (parity_in exact) r i j
    point_beyond n = rw (le-ltb 30 r h, ← e, not-true b n)

    pub point_told : not b ≡ false → {l : ℕ} → l ≡ 2 ^ r - 1 → {p : PointCell} → p ≡ point_cell l (floor i) (floor j) (parity_in exact i j) → told p ≡ point_by (parity_in exact) r i j
    point_told n l f = rw (le-ltb 30 r h, ← e, not-false b n, f, l)

pub last_small : (r : ℕ) → r ≤ 30 → {l : ℕ} → l ≡ 2 ^ r - 1 → l ≤ 2 ^ 30
last_small r h e = omega (arith, row_most r h)

pub ruleset answers = (near_told, last_small, point_far, point_beyond, point_told)

-- ---- always in bounds
cornered_in_bounds : (r m n p : ℕ) → m + n + p ≤ 2 ^ r - 1 → p ≤ 1 → is_in_bounds r (cornered m n p) ≡ true
unfolding is_in_bounds
cornered_in_bounds r m n p h l =
    let x = v_neg (v_pos n) in
    let y = v_pos (m + n + p) in
    let z = v_neg (v_pos m) in
    let sum = v_add (v_add x y) z in
    let sum_least = le_by (v_pos 0) sum tt (omega arith) in
    let sum_most = le_by sum (v_pos 1) tt (omega arith) in
    let x_most = le_by x (v_pos 0) tt (omega arith) in
    let z_most = le_by z (v_pos 0) tt (omega arith) in
    let y_least = le_by (v_pos 0) y tt (omega arith) in
    let y_most = le_by y (v_pos (2 ^ r - 1)) tt (omega arith) in
    let x_least = le_by (v_add sum (v_neg y)) x tt (omega arith) in
    let z_least = le_by (v_add sum (v_neg y)) z tt (omega arith) in
    sym (true_pass (bounds r (cornered m n p)) (sum_least, (sum_most, (x_most, (z_most, (y_least, (y_most, (x_least, (z_least, tt)))))))))

pub settled_in_bounds : (r m n p : ℕ) → p ≤ 1 → is_in_bounds r (settled (2 ^ r - 1) m n p) ≡ true
settled_in_bounds r m n p l = elim (dec_lt (2 ^ r - 1) (m + n + p)) [
  | yes h ↦ rw (← settled_over m n p (2 ^ r - 1) h refl refl refl) (cornered_in_bounds r (m - (m + n - (2 ^ r - 1))) (n - (m + n - (2 ^ r - 1) - m)) 0 (omega arith) (omega arith))
  | no h ↦ rw (← settled_whole m n p (2 ^ r - 1) (omega arith) refl) (cornered_in_bounds r m n p (omega arith) l)
]

-- what is told is the rounding's, whoever tells the parity
module _ (tell : Float → Float → ℕ) (r : ℕ) (i j : Float) (p : PointCell) (e : point_by tell r i j ≡ told p) where
  pub by_is : p ≡ point_cell (2 ^ r - 1) (floor i) (floor j) (tell i j)
  by_is =
      let deep = passed (ltb greatest_resolution r) Is.Resolution e in
      let beyond = passed (not (near i && near j)) Is.Point deep.1 in
      cc beyond.1

  pub by_near : (near i && near j) ≡ true
  by_near =
      let deep = passed (ltb greatest_resolution r) Is.Resolution e in
      not-false (near i && near j) (passed (not (near i && near j)) Is.Point deep.1).0

  pub by_in_bounds : tell i j ≤ 1 → is_in_bounds r p.triple ≡ true
  by_in_bounds small = ap (λ (p : PointCell). is_in_bounds r p.triple) by_is ∙ settled_in_bounds r (clamped (floor i)) (clamped (floor j)) (tell i j) small

module _ (r : ℕ) (i j : Float) (p : PointCell) where
  pub point_is : point_of r i j ≡ told p → p ≡ point_cell (2 ^ r - 1) (floor i) (floor j) (parity i j)
  unfolding point_of
  point_is = by_is parity r i j p

  pub point_in_bounds : point_of r i j ≡ told p → is_in_bounds r p.triple ≡ true
  unfolding point_of
  point_in_bounds e = by_in_bounds parity r i j p e (parity_small i j)
