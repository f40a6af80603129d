-- A separator's value at a cell is 48 times its slope times how far, in thirds, the cell is from the threshold: so it is a multiple of 48, never 0, and its
-- sign says on which side of the threshold the cell's triangle lies. The child that the table chooses is the one that has the cell, whatever the bits' own
-- threshold is from -47 to 48.
use mathlib.Core.Path.{◌≡◌, refl, sym, ap, ◌∙◌}
use mathlib.Core.Bool.{Bool, false, cond}
use mathlib.Core.List.{List, [], ◌∷◌}
use Prim.Native.Nat.{ℕ, zero, suc, ◌+◌, ◌-◌, ◌*◌, ◌/◌, ◌^◌, ◌<◌, ◌≤◌}
use native.Mathlib.Omega.{arith}
use native.Mathlib.Nat as N
use native.Mathlib.Decide.{dec_lt}
use borrow.Author.Tests.{lt-ltb, le-ltb}
use lib.Dec.{T, eqb, eqb→eq}
use lib.IntN.{ℤ, pos, negsuc, ◌+ℤ◌, ◌-ℤ◌, ◌*ℤ◌, +ℤ_idl, +ℤ_idr, zero-*ℤ}
use lib.Signed.{le_z, ◌≤ℤ◌}
use Rattle.whole.proofs.Bools.{is_true, is_false}
use Rattle.whole.proofs.Parts.{up, dn, up_pos, dn_pos, up_negsuc, dn_negsuc, up_dn, parts_le, le_parts, mul_up, mul_dn, neg_up, neg_dn, negsuc_mul}
use Rattle.whole.proofs.View.{view, v_pos, v_add, v_neg, parts_of, eq_by}
use Rattle.whole.proofs.Ring.{*ℤ_assoc, *ℤ_left_comm, *ℤ_distrib_l}
use Rattle.whole.proofs.Digits.{two_power, twice_power}
use Rattle.whole.proofs.Claims.{Claim, le, int, that, Hold, below, all, each}
use Rattle.turtle.specs.declared.AB.{AB}
use Rattle.turtle.specs.Plane.{◌⊕◌}
use Rattle.turtle.proofs.ScaleLaws.{doubled_a, doubled_b}
use Rattle.tables.specs.Table.{bit}
use Rattle.tables.specs.Descent.{entry}
use Rattle.a5.specs.A5Table.{a5_table}
use Rattle.a5.specs.Lookup.{factor_a, factor_b, constant, separator_value, side, chosen}
use Rattle.a5.specs.Inside.Footprints.{before_x, before_y, before_g, skew}
use Rattle.a5.specs.Inside.Spots.{Spot, HasParity}
use Rattle.a5.proofs.Finds.{before, axis, slope, upward, threshold, coarse, seen, bit_at, pick}
use Rattle.a5.proofs.Places.{base, spot_sum, place}

-- ---- the shape of a separator: it looks at one form of a pair, b, a or a + b
unfoldable form : ℕ → AB → ℤ
form zero p = p.b
form (suc zero) p = p.a
form (suc (suc axis)) p = p.a +ℤ p.b

unfoldable for_a : ℕ → ℤ → ℤ
for_a zero m = pos 0
for_a (suc axis) m = m

unfoldable for_b : ℕ → ℤ → ℤ
for_b zero m = m
for_b (suc zero) m = pos 0
for_b (suc (suc axis)) m = m

by_form : (axis : ℕ) (m : ℤ) (p : AB) → for_a axis m *ℤ p.a +ℤ for_b axis m *ℤ p.b ≡ m *ℤ form axis p
unfolding for_a for_b form
by_form zero m p = ap (λ z. z +ℤ m *ℤ p.b) (zero-*ℤ p.a) ∙ +ℤ_idl _
by_form (suc zero) m p = ap (λ z. m *ℤ p.a +ℤ z) (zero-*ℤ p.b) ∙ +ℤ_idr _
by_form (suc (suc axis)) m p = sym (*ℤ_distrib_l m p.a p.b)

abbrev normal : ℕ → ℕ → ℤ
normal k i = pos 12 *ℤ slope k i

-- where the line of the form stands, from the state's start, at the scale 1 of the children
abbrev level : ℕ → ℕ → ℕ → ℤ
level axis k t = pos 12 *ℤ (pos (2 * before axis k) -ℤ pos t)

unfoldable slope_test : ℤ → ℕ → Bool
slope_test (pos zero) u = false
slope_test (pos (suc c)) u = eqb u 1
slope_test (negsuc c) u = eqb u 0

abbrev Shaped : ℕ → ℕ → List Claim
Shaped k i =
    int (factor_a k i) (for_a (axis k i) (normal k i)) ∷ int (factor_b k i) (for_b (axis k i) (normal k i)) ∷ int (constant k i) (normal k i *ℤ level (axis k i) k (threshold k i))
    ∷ that (slope_test (slope k i) (upward k i)) ∷ le (before_g k) (before_x k + before_y k) ∷ []

shaped_all : T (all 28 3 Shaped)
unfolding all below for_a for_b slope_test axis slope upward threshold before before_x before_y before_g entry a5_table
shaped_all = tt

shaped : (k i : ℕ) → k < 28 → i < 3 → Hold (Shaped k i)
shaped = each 28 3 Shaped shaped_all

-- ---- how far a cell of parity q is from the threshold t, in thirds
-- what is left of its form, over 4: 1 or 2
unfoldable rest : ℕ → ℕ → ℕ
rest zero q = 2 - q
rest (suc zero) q = 2 - q
rest (suc (suc axis)) q = 1 + q

unfoldable gap : ℕ → ℕ → ℕ → Spot → ℕ → ℤ
gap n axis t p q = pos (3 * seen axis p + rest axis q) -ℤ pos (3 * (t * n))

module _ (n d t x y g q : ℕ) (s : q ≤ 1) (e : q + (g + d * (2 * n)) ≡ x + y + 1) where
  gap_one : (b : ℕ) → (pos (8 * x + 4 * g + 4) -ℤ pos (4 * y)) +ℤ pos (2 * n) *ℤ (pos (4 * d) -ℤ pos (12 * b)) +ℤ (pos 12 *ℤ (pos (2 * b) -ℤ pos t)) *ℤ pos n
      ≡ pos 4 *ℤ (pos (3 * x + (2 - q)) -ℤ pos (3 * (t * n)))
  gap_one b = eq_by (search view depth 12) (search view depth 12) tt (omega arith)

  gap_two : (b c h : ℕ) → d + h ≡ b + c → ((pos (8 * y + 4 * g + 4) -ℤ pos (4 * x)) +ℤ pos (2 * n) *ℤ (pos (4 * d) -ℤ pos (12 * c)))
      +ℤ ((pos (8 * x + 4 * g + 4) -ℤ pos (4 * y)) +ℤ pos (2 * n) *ℤ (pos (4 * d) -ℤ pos (12 * b))) +ℤ (pos 12 *ℤ (pos (2 * h) -ℤ pos t)) *ℤ pos n
      ≡ pos 4 *ℤ (pos (3 * g + (1 + q)) -ℤ pos (3 * (t * n)))
  gap_two b c h f = let fn = ap (λ m. m * n) f in eq_by (search view depth 12) (search view depth 12) tt (omega arith)

place_a : (n k : ℕ) (p : Spot) → (place (suc n) k p).a ≡ (spot_sum p).a +ℤ pos (2 * 2 ^ n) *ℤ (base k).a
unfolding place ◌⊕◌
place_a n k p = ap (λ z. (spot_sum p).a +ℤ z) (doubled_a (suc n) (base k) ∙ ap (λ m. pos m *ℤ (base k).a) (twice_power n))

place_b : (n k : ℕ) (p : Spot) → (place (suc n) k p).b ≡ (spot_sum p).b +ℤ pos (2 * 2 ^ n) *ℤ (base k).b
unfolding place ◌⊕◌
place_b n k p = ap (λ z. (spot_sum p).b +ℤ z) (doubled_b (suc n) (base k) ∙ ap (λ m. pos m *ℤ (base k).b) (twice_power n))

form_gap : (axis n k t : ℕ) (p : Spot) (q : ℕ) → before_g k ≤ before_x k + before_y k → q ≤ 1 → HasParity (2 * 2 ^ n) k p q →
    form axis (place (suc n) k p) +ℤ level axis k t *ℤ pos (2 ^ n) ≡ pos 4 *ℤ gap (2 ^ n) axis t p q
unfolding form before gap seen rest spot_sum base skew
form_gap zero n k t p q h s e = rw (place_b n k p) (gap_one (2 ^ n) (skew k) t p.x p.y p.g q s e (before_x k))
form_gap (suc zero) n k t p q h s e = rw (place_a n k p) (gap_one (2 ^ n) (skew k) t p.y p.x p.g q s (omega arith) (before_y k))
form_gap (suc (suc axis)) n k t p q h s e =
    rw (place_a n k p, place_b n k p) (gap_two (2 ^ n) (skew k) t p.x p.y p.g q s e (before_x k) (before_y k) (before_g k) (omega arith))

forty_eight : (m w : ℤ) → (pos 12 *ℤ m) *ℤ (pos 4 *ℤ w) ≡ pos 48 *ℤ (m *ℤ w)
forty_eight m w = *ℤ_assoc (pos 12) m (pos 4 *ℤ w) ∙ ap (λ z. pos 12 *ℤ z) (*ℤ_left_comm m (pos 4) w) ∙ sym (*ℤ_assoc (pos 12) (pos 4) (m *ℤ w))

value_is : (n k i : ℕ) (p : Spot) (q : ℕ) → k < 28 → i < 3 → q ≤ 1 → HasParity (2 * 2 ^ n) k p q →
    separator_value n k i (place (suc n) k p) ≡ pos 48 *ℤ (slope k i *ℤ gap (2 ^ n) (axis k i) (threshold k i) p q)
unfolding separator_value
value_is n k i p q h l s e =
    let v = place (suc n) k p in
    let a = axis k i in
    let m = normal k i in
    let c = level a k (threshold k i) in
    let t = shaped k i h l in
    rw (t.0, t.1.0, by_form a m v, t.1.1.0, *ℤ_assoc m c (pos (2 ^ n)), ← (*ℤ_distrib_l m (form a v) (c *ℤ pos (2 ^ n))), form_gap a n k (threshold k i) p q t.1.1.1.1.0 s e)
    (forty_eight (slope k i) (gap (2 ^ n) a (threshold k i) p q))

-- ---- its sign
rest_is : (axis q : ℕ) → q ≤ 1 → (1 ≤ rest axis q) × (rest axis q ≤ 2)
unfolding rest
rest_is zero q s = omega arith
rest_is (suc zero) q s = omega arith
rest_is (suc (suc axis)) q s = omega arith

seen_coarse : (axis n : ℕ) (p : Spot) → seen axis (coarse n p) ≡ seen axis p / n
unfolding seen coarse
seen_coarse zero n p = refl
seen_coarse (suc zero) n p = refl
seen_coarse (suc (suc axis)) n p = refl

module _ (n axis t : ℕ) (p : Spot) (q : ℕ) (s : q ≤ 1) (z : 0 < n) where
  gap_parts : (up (gap n axis t p q) ≡ 3 * seen axis p + rest axis q - 3 * (t * n)) × (dn (gap n axis t p q) ≡ 3 * (t * n) - (3 * seen axis p + rest axis q))
  unfolding gap
  gap_parts =
      let e = parts_of (v_add (v_pos (3 * seen axis p + rest axis q)) (v_neg (v_pos (3 * (t * n))))) tt in
      (omega arith, omega arith)

  gap_low : seen axis (coarse n p) < t → 0 < dn (gap n axis t p q)
  gap_low h =
      let l : seen axis p < t * n = (N.div-lt_iff_lt-mul z).0 (rw (seen_coarse axis n p) at h) in
      omega (arith, gap_parts.1, rest_is axis q s)

  gap_high : t ≤ seen axis (coarse n p) → 0 < up (gap n axis t p q)
  gap_high h =
      let l : t * n ≤ seen axis p = (N.le-div_iff_mul-le z).0 (rw (seen_coarse axis n p) at h) in
      omega (arith, gap_parts.0, rest_is axis q s)

-- the bit of a value of 48 z, by a threshold that no such value but 0 lies beyond
pub record Safe (threshold : ℤ) : Type 0 where
  pub low : negsuc 46 ≤ℤ threshold
  pub high : threshold ≤ℤ pos 48

module _ (h : ℤ) (s : Safe h) where
  above : (v : ℤ) → 48 ≤ up v → bit (le_z h v) ≡ 1
  above v l =
      let top = parts_le s.high in
      let z : h ≤ℤ v = le_parts h v (omega (arith, top, up_dn v, up_pos 48, dn_pos 48)) in
      ap bit (sym (is_true (le_z h v) z.le))

  under : (v : ℤ) → 48 ≤ dn v → bit (le_z h v) ≡ 0
  under v l =
      let bottom = parts_le s.low in
      ap bit (sym (is_false (le_z h v) (λ t. let z = parts_le {x = h} {y = v} (record { le = t }) in omega (arith, bottom, up_dn v, up_negsuc 46, dn_negsuc 46))))

  bit_above : (z : ℤ) → 0 < up z → bit (le_z h (pos 48 *ℤ z)) ≡ 1
  bit_above z l = above (pos 48 *ℤ z) (omega (arith, mul_up 48 z))

  bit_under : (z : ℤ) → 0 < dn z → bit (le_z h (pos 48 *ℤ z)) ≡ 0
  bit_under z l = under (pos 48 *ℤ z) (omega (arith, mul_dn 48 z))

-- the parts of a slope times w
module _ (c : ℕ) (w : ℤ) where
  some : (x : ℕ) → 0 < x → 0 < suc c * x
  some x h = omega (arith, N.suc-mul c x)

  rise_up : 0 < up w → 0 < up (pos (suc c) *ℤ w)
  rise_up h = rw (mul_up (suc c) w) (some (up w) h)

  rise_down : 0 < dn w → 0 < dn (pos (suc c) *ℤ w)
  rise_down h = rw (mul_dn (suc c) w) (some (dn w) h)

  fall_up : 0 < dn w → 0 < up (negsuc c *ℤ w)
  fall_up h = rw (negsuc_mul c w, neg_up) (rise_down h)

  fall_down : 0 < up w → 0 < dn (negsuc c *ℤ w)
  fall_down h = rw (negsuc_mul c w, neg_dn) (rise_up h)

module _ (w : ℤ) where
  bit_low : (h : ℤ) → Safe h → (m : ℤ) (u : ℕ) → T (slope_test m u) → 0 < dn w → bit (le_z h (pos 48 *ℤ (m *ℤ w))) ≡ 1 - u
  unfolding slope_test
  bit_low h s (pos zero) u t l = absurd t
  bit_low h s (pos (suc c)) u t l = bit_under h s (pos (suc c) *ℤ w) (rise_down c w l) ∙ omega (arith, eqb→eq u 1 t)
  bit_low h s (negsuc c) u t l = bit_above h s (negsuc c *ℤ w) (fall_up c w l) ∙ omega (arith, eqb→eq u 0 t)

  bit_high : (h : ℤ) → Safe h → (m : ℤ) (u : ℕ) → T (slope_test m u) → 0 < up w → bit (le_z h (pos 48 *ℤ (m *ℤ w))) ≡ u
  unfolding slope_test
  bit_high h s (pos zero) u t l = absurd t
  bit_high h s (pos (suc c)) u t l = bit_above h s (pos (suc c) *ℤ w) (rise_up c w l) ∙ omega (arith, eqb→eq u 1 t)
  bit_high h s (negsuc c) u t l = bit_under h s (negsuc c *ℤ w) (fall_down c w l) ∙ omega (arith, eqb→eq u 0 t)

  product_some : (m : ℤ) (u : ℕ) → T (slope_test m u) → 0 < up w + dn w → 0 < up (m *ℤ w) + dn (m *ℤ w)
  unfolding slope_test
  product_some (pos zero) u t h = absurd t
  product_some (pos (suc c)) u t h = omega (arith, mul_up (suc c) w, mul_dn (suc c) w)
  product_some (negsuc c) u t h = rw (negsuc_mul c w, neg_up, neg_dn) (omega (arith, mul_up (suc c) w, mul_dn (suc c) w))

-- ---- a multiple of 48 that is not 0
pub record Clear (v : ℤ) : Type 0 where
  pub part : ℤ
  pub is : v ≡ pos 48 *ℤ part
  pub some : v ≡ pos 0 → ⊥

not_zero : (v z : ℤ) → 0 < up z + dn z → v ≡ pos 48 *ℤ z → v ≡ pos 0 → ⊥
not_zero v z h e f =
    let g : pos 48 *ℤ z ≡ pos 0 = sym e ∙ f in
    omega (arith, ap up g, ap dn g, mul_up 48 z, mul_dn 48 z, up_pos 0, dn_pos 0)

-- ---- at a cell
module _ (n k : ℕ) (h : k < 28) (p : Spot) (q : ℕ) (s : q ≤ 1) (e : HasParity (2 * 2 ^ n) k p q) where
  module _ (f : ℤ) (j : Safe f) where
    side_bit : (i : ℕ) → i < 3 → side f n k i (place (suc n) k p) ≡ bit_at k i (coarse (2 ^ n) p)
    unfolding side bit_at
    side_bit i l =
        let a = axis k i in
        let t = threshold k i in
        let u = upward k i in
        let c = seen a (coarse (2 ^ n) p) in
        let w = gap (2 ^ n) a t p q in
        let r = (shaped k i h l).1.1.1.0 in
        ap (λ v. bit (le_z f v)) (value_is n k i p q h l s e)
        ∙ elim (dec_lt c t) [
          | yes b ↦ bit_low w f j (slope k i) u r (gap_low (2 ^ n) a t p q s (two_power n) b) ∙ sym (ap (λ b. cond b (1 - u) u) (lt-ltb c t b))
          | no b ↦ (let b' : t ≤ c = omega arith in bit_high w f j (slope k i) u r (gap_high (2 ^ n) a t p q s (two_power n) b') ∙ sym (ap (λ b. cond b (1 - u) u) (le-ltb c t b')))
        ]

    pub chosen_pick : chosen f n k (place (suc n) k p) ≡ pick k (coarse (2 ^ n) p)
    unfolding chosen pick
    chosen_pick = rw (side_bit 0 (omega arith), side_bit 1 (omega arith), side_bit 2 (omega arith))

  gap_some : (a t : ℕ) → 0 < up (gap (2 ^ n) a t p q) + dn (gap (2 ^ n) a t p q)
  gap_some a t = elim (dec_lt (seen a (coarse (2 ^ n) p)) t) [
    | yes b ↦ omega (arith, gap_low (2 ^ n) a t p q s (two_power n) b)
    | no b ↦ (let b' : t ≤ seen a (coarse (2 ^ n) p) = omega arith in omega (arith, gap_high (2 ^ n) a t p q s (two_power n) b'))
  ]

  pub value_clear : (i : ℕ) → i < 3 → Clear (separator_value n k i (place (suc n) k p))
  value_clear i l =
      let w = gap (2 ^ n) (axis k i) (threshold k i) p q in
      let v = value_is n k i p q h l s e in
      record { part = slope k i *ℤ w; is = v; some = not_zero _ (slope k i *ℤ w) (product_some w (slope k i) (upward k i) (shaped k i h l).1.1.1.0 (gap_some (axis k i) (threshold k i))) v }
