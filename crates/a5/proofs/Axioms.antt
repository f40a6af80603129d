-- The footprint of each forward axiom is the wedge: its spots and the triples in bounds name each other, by linear equations, and have the same corner sums.
use mathlib.Core.Path.{◌≡◌, refl, sym, ap, ◌∙◌}
use mathlib.Core.Bool.{true}
use Prim.Native.Nat.{ℕ, suc, ◌+◌, ◌*◌, ◌^◌, ◌<◌, ◌≤◌}
use native.Mathlib.Omega.{arith}
use lib.IntN.{ℤ, pos, neg_ℤ, ◌+ℤ◌, ◌-ℤ◌}
use Rattle.whole.proofs.Parts.{up, dn, up_dn, abs_parts}
use Rattle.whole.proofs.View.{view, v_pos, v_add, v_neg, v_var, parts_of, eq_by, le_by, le_of}
use Rattle.whole.proofs.Digits.{two_power, twice_power}
use Rattle.whole.proofs.TestLaws.{true_pass, pass_true}
use Rattle.triple.specs.declared.Triple.{Triple}
use Rattle.triple.specs.Triples.{sum_of, good_sum, bounds, is_in_bounds}
use Rattle.turtle.specs.declared.AB.{AB}
use Rattle.turtle.specs.Plane.{ab, origin, ◌⊕◌, neg, doubled}
use Rattle.turtle.specs.Corners.{corner_sum}
use Rattle.turtle.proofs.PlaneLaws.{⊕_comm, ⊕_idr, neg_origin}
use Rattle.turtle.proofs.ScaleLaws.{doubled_a, doubled_b}
use Rattle.turtle.proofs.CornerLaws.{pair_is, triple_is, good_true}
use Rattle.a5.specs.Lookup.{◌⊖◌}
use Rattle.a5.specs.Inside.Footprints.{before_x, before_y, before_g, skew, wide_x, wide_y, wide_g}
use Rattle.a5.specs.Inside.Spots.{Spot, In, triple_at, spot_at}
use Rattle.a5.proofs.Places.{base, spot_sum, place}
use Rattle.a5.proofs.FootprintLaws.{spot_is}

-- ---- differences of corner pairs
⊖_left_part : (a b : ℤ) → (a +ℤ b) +ℤ neg_ℤ a ≡ b
⊖_left_part a b =
    let va = v_var a in
    let vb = v_var b in
    eq_by (search view) (search view) tt (omega arith)

pub ⊖_left : (p q : AB) → (p ⊕ q) ⊖ p ≡ q
unfolding ◌⊖◌ ◌⊕◌ neg
⊖_left p q = pair_is (⊖_left_part p.a q.a) (⊖_left_part p.b q.b)

pub ⊖_right : (p q : AB) → (p ⊕ q) ⊖ q ≡ p
⊖_right p q = ap (λ r. r ⊖ q) (⊕_comm p q) ∙ ⊖_left q p

-- ---- the axioms
-- UV and VU draw A, UW and WU draw C, VW and WV draw B
pub data Axiom : Type 0 where
  axiom_a axiom_c axiom_b : Axiom

abbrev pub token : Axiom → ℕ
token axiom_a = 0
token axiom_c = 2
token axiom_b = 1

-- its state
abbrev pub first : Axiom → ℕ
first x = 2 * token x

-- what its corner sums are moved by at resolution r: the triples of B are moved by (- 2 ^ r, 2 ^ r, 0)
abbrev pub shift : Axiom → ℕ → AB
shift axiom_a r = origin
shift axiom_c r = origin
shift axiom_b r = ab (pos (12 * 2 ^ r)) (neg_ℤ (pos (12 * 2 ^ r)))

-- a triple of the wedge as it is drawn, before it is moved
abbrev pub drawn : Axiom → ℕ → Triple → Triple
drawn axiom_a r t = t
drawn axiom_c r t = t
drawn axiom_b r t = record { x = t.x +ℤ pos (2 ^ r); y = t.y -ℤ pos (2 ^ r); z = t.z }

-- ---- the footprint, in numbers: what `In` says of an axiom
pub record Shape (k : ℕ) : Type 0 where
  pub is_state : k < 28
  pub shape_x : wide_x k ≡ 2
  pub shape_y : wide_y k ≡ 2
  pub shape_g : wide_g k ≡ 2
  pub shape_skew : skew k ≡ 2

pub shape : (x : Axiom) → Shape (first x)
unfolding wide_x wide_y wide_g skew before_x before_y before_g
shape axiom_a = record { is_state = omega arith; shape_x = refl; shape_y = refl; shape_g = refl; shape_skew = refl }
shape axiom_c = record { is_state = omega arith; shape_x = refl; shape_y = refl; shape_g = refl; shape_skew = refl }
shape axiom_b = record { is_state = omega arith; shape_x = refl; shape_y = refl; shape_g = refl; shape_skew = refl }

pub record Wedge (n : ℕ) (p : Spot) : Type 0 where
  pub wedge_x : p.x < 2 * n
  pub wedge_y : p.y < 2 * n
  pub wedge_g : p.g < 2 * n
  pub wedge_low : p.x + p.y ≤ p.g + 2 * n
  pub wedge_high : p.g + 2 * n ≤ p.x + p.y + 1

pub in_wedge : (x : Axiom) (n : ℕ) (p : Spot) → In n (first x) p → Wedge n p
in_wedge x n p i =
    let s = shape x in
    record {
      wedge_x = rw s.shape_x at i.in_x;
      wedge_y = rw s.shape_y at i.in_y;
      wedge_g = rw s.shape_g at i.in_g;
      wedge_low = rw s.shape_skew at i.low;
      wedge_high = rw s.shape_skew at i.high;
    }

pub wedge_in : (x : Axiom) (n : ℕ) (p : Spot) → Wedge n p → In n (first x) p
wedge_in x n p w =
    let s = shape x in
    record {
      in_x = rw s.shape_x w.wedge_x;
      in_y = rw s.shape_y w.wedge_y;
      in_g = rw s.shape_g w.wedge_g;
      low = rw s.shape_skew w.wedge_low;
      high = rw s.shape_skew w.wedge_high;
    }

-- ---- spots and triples
pub wedge_bounds : (n : ℕ) (p : Spot) → Wedge (2 ^ n) p → is_in_bounds (suc n) (triple_at n p) ≡ true
unfolding is_in_bounds triple_at
wedge_bounds n p w = sym (true_pass (bounds (suc n) (triple_at n p)) (
  le_by (search view depth 9) (search view depth 9) tt (omega arith),
  (
    le_by (search view depth 9) (search view depth 9) tt (omega arith),
    (
      le_by (search view depth 9) (search view depth 9) tt (omega arith),
      (
        le_by (search view depth 9) (search view depth 9) tt (omega arith),
        (
          le_by (search view depth 9) (search view depth 9) tt (omega arith),
          (
            le_by (search view depth 9) (search view depth 9) tt (omega arith),
            (
              le_by (search view depth 9) (search view depth 9) tt (omega arith),
              (le_by (search view depth 9) (search view depth 9) tt (omega arith), tt),
            ),
          ),
        ),
      ),
    ),
  ),
))

-- the parts of a triple in bounds
record Signs (n : ℕ) (t : Triple) : Type 0 where
  sign_x : up t.x ≡ 0
  sign_y : dn t.y ≡ 0
  sign_z : up t.z ≡ 0
  sign_low : dn t.x + dn t.z ≤ up t.y
  sign_high : up t.y ≤ dn t.x + dn t.z + 1
  sign_top : up t.y < 2 * 2 ^ n

module _ (n : ℕ) (t : Triple) (b : is_in_bounds (suc n) t ≡ true) where
  signs : Signs n t
  unfolding is_in_bounds
  signs =
      let h = pass_true (bounds (suc n) t) b in
      let vx = v_var t.x in
      let vy = v_var t.y in
      let vz = v_var t.z in
      let sum_low = le_of (search view) (search view) tt h.0 in
      let sum_high = le_of (search view) (search view) tt h.1.0 in
      let x_high = le_of (search view) (search view) tt h.1.1.0 in
      let z_high = le_of (search view) (search view) tt h.1.1.1.0 in
      let y_low = le_of (search view) (search view) tt h.1.1.1.1.0 in
      let y_high = le_of (search view) (search view) tt h.1.1.1.1.1.0 in
      let sx : up t.x ≡ 0 = omega (arith, x_high, up_dn t.x) in
      let sy : dn t.y ≡ 0 = omega (arith, y_low, up_dn t.y) in
      let sz : up t.z ≡ 0 = omega (arith, z_high, up_dn t.z) in
      record { sign_x = sx; sign_y = sy; sign_z = sz; sign_low = omega (arith, sum_low); sign_high = omega (arith, sum_high); sign_top = omega (arith, y_high, two_power n) }

  pub bounds_good : good_sum t ≡ true
  unfolding is_in_bounds
  bounds_good = let h = pass_true (bounds (suc n) t) b in good_true t h.0 h.1.0

  pub bounds_wedge : Wedge (2 ^ n) (spot_at n t)
  unfolding spot_at
  bounds_wedge =
      let s = signs in
      let ex = abs_parts t.x in
      let ey = abs_parts t.y in
      let ez = abs_parts t.z in
      record { wedge_x = omega (arith, two_power n); wedge_y = omega arith; wedge_g = omega arith; wedge_low = omega arith; wedge_high = omega arith }

  pub triple_spot : triple_at n (spot_at n t) ≡ t
  unfolding triple_at spot_at
  triple_spot =
      let s = signs in
      let ex = abs_parts t.x in
      let ey = abs_parts t.y in
      let ez = abs_parts t.z in
      let vx = v_var t.x in
      let vy = v_var t.y in
      let vz = v_var t.z in
      triple_is (eq_by (search view depth 9) vx tt (omega arith)) (eq_by (search view depth 9) vy tt (omega arith)) (eq_by (search view depth 9) vz tt (omega arith))

pub spot_triple : (n : ℕ) (p : Spot) → Wedge (2 ^ n) p → spot_at n (triple_at n p) ≡ p
unfolding triple_at spot_at
spot_triple n p w =
    let x = pos (p.x + 1) -ℤ pos (2 * 2 ^ n) in
    let ex = parts_of (v_add (v_pos (p.x + 1)) (v_neg (v_pos (2 * 2 ^ n)))) tt in
    let ez = parts_of (v_neg (v_pos p.g)) tt in
    spot_is (omega (arith, abs_parts x, ex.0, ex.1)) refl (omega (arith, abs_parts (neg_ℤ (pos p.g)), ez.0, ez.1))

-- ---- their corner sums
module _ (n : ℕ) (p : Spot) where
  corner_a : (x : Axiom) → (corner_sum (triple_at n p)).a ≡ (spot_sum p).a +ℤ (doubled n (base (first x))).a +ℤ (shift x (suc n)).a
  unfolding corner_sum triple_at spot_sum base skew before_x before_y before_g origin
  corner_a axiom_a = rw (doubled_a n (base 0)) (eq_by (search view depth 12) (search view depth 12) tt (omega arith))
  corner_a axiom_c = rw (doubled_a n (base 4)) (eq_by (search view depth 12) (search view depth 12) tt (omega arith))
  corner_a axiom_b = rw (doubled_a n (base 2), twice_power n) (eq_by (search view depth 12) (search view depth 12) tt (omega arith))

  corner_b : (x : Axiom) → (corner_sum (triple_at n p)).b ≡ (spot_sum p).b +ℤ (doubled n (base (first x))).b +ℤ (shift x (suc n)).b
  unfolding corner_sum triple_at spot_sum base skew before_x before_y before_g origin
  corner_b axiom_a = rw (doubled_b n (base 0)) (eq_by (search view depth 12) (search view depth 12) tt (omega arith))
  corner_b axiom_c = rw (doubled_b n (base 4)) (eq_by (search view depth 12) (search view depth 12) tt (omega arith))
  corner_b axiom_b = rw (doubled_b n (base 2), twice_power n) (eq_by (search view depth 12) (search view depth 12) tt (omega arith))

  pub corner_place : (x : Axiom) → corner_sum (triple_at n p) ≡ place n (first x) p ⊕ shift x (suc n)
  unfolding place ◌⊕◌
  corner_place x = pair_is (corner_a x) (corner_b x)

-- ---- a triple as it is drawn
unmoved : (p : AB) → p ≡ p ⊖ origin
unfolding ◌⊖◌
unmoved p = rw neg_origin (sym (⊕_idr p))

module _ (r : ℕ) (t : Triple) where
  pub drawn_corner : (x : Axiom) → corner_sum (drawn x r t) ≡ corner_sum t ⊖ shift x r
  unfolding corner_sum ◌⊖◌ ◌⊕◌ neg
  drawn_corner axiom_a = unmoved (corner_sum t)
  drawn_corner axiom_c = unmoved (corner_sum t)
  drawn_corner axiom_b =
      let vx = v_var t.x in
      let vy = v_var t.y in
      let vz = v_var t.z in
      pair_is (eq_by (search view depth 12) (search view depth 12) tt (omega arith)) (eq_by (search view depth 12) (search view depth 12) tt (omega arith))

  pub drawn_parity : (x : Axiom) → sum_of (drawn x r t) ≡ sum_of t
  drawn_parity axiom_a = refl
  drawn_parity axiom_c = refl
  drawn_parity axiom_b =
      let vx = v_var t.x in
      let vy = v_var t.y in
      let vz = v_var t.z in
      eq_by (search view depth 9) (search view depth 9) tt (omega arith)

  -- moved by (- 2 ^ r, 2 ^ r, 0) it is the triple again
  pub drawn_moved : record { x = (drawn axiom_b r t).x -ℤ pos (2 ^ r); y = (drawn axiom_b r t).y +ℤ pos (2 ^ r); z = t.z } ≡ t
  drawn_moved =
      let vx = v_var t.x in
      let vy = v_var t.y in
      triple_is (eq_by (search view depth 9) vx tt (omega arith)) (eq_by (search view depth 9) vy tt (omega arith)) refl

-- a triple in bounds, as a spot of the axiom's footprint
module _ (x : Axiom) (n : ℕ) (t : Triple) (b : is_in_bounds (suc n) t ≡ true) where
  pub axiom_in : In (2 ^ n) (first x) (spot_at n t)
  axiom_in = wedge_in x (2 ^ n) (spot_at n t) (bounds_wedge n t b)

  pub corner_spot : corner_sum t ≡ place n (first x) (spot_at n t) ⊕ shift x (suc n)
  corner_spot = ap corner_sum (sym (triple_spot n t b)) ∙ corner_place n (spot_at n t) x
