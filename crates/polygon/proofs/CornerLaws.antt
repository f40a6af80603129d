-- The corners of a cell: without division, what they sum to, and how many digits their numbers have. Of a triple of sum 0, A - 8 is 12 y and B + 4 is 12 x; of one of sum 1, A - 4 is 12 y and B - 4 is 12 x - 12.
use native.Mathlib.Omega.{arith}
use mathlib.Core.Path.{◌≡◌, sym, ap, ◌∙◌, subst}
use mathlib.Core.Logic.{◌⊎◌, ⊎_elim}
use mathlib.Core.Bool.{true, cond, ◌&&◌}
use Prim.Native.Nat.{◌<◌, ◌^◌}
use lib.Dec.{T, ltb, ltb→lt}
use lib.IntN.{ℤ, pos, ◌-ℤ◌, ◌*ℤ◌}
use lib.Signed.{mag}
use Rattle.whole.specs.Tests.{equal}
use Rattle.whole.proofs.Bools.{both_left, both_right}
use Rattle.whole.proofs.Parts.{zero_or_one, abs_parts, up_dn}
use Rattle.whole.proofs.View.{View, view, v_var, v_i32, eq_of, eq_by, le_by}
use Rattle.triple.specs.declared.Triple.{Triple}
use Rattle.triple.specs.Triples.{sum_of, good_sum}
use Rattle.turtle.specs.declared.AB.{AB}
use Rattle.turtle.specs.declared.walk.Corners.{Corners}
use Rattle.turtle.specs.Plane.{ab, ◌⊕◌}
use Rattle.turtle.specs.Corners.{corner_sum, FitsI32, ThreeI32}
use Rattle.turtle.proofs.CornerLaws.{pair_is, good_of, v_fits}
use Rattle.polygon.specs.Polygons.{even_start, even_from, odd_start, odd_from, cell_corners}
use Rattle.polygon.specs.Inside.Sizes.{Short, TenDigits}

pub corners_are : {c d : Corners} → c.p ≡ d.p → c.q ≡ d.q → c.r ≡ d.r → c ≡ d
corners_are f g h = λ i. record { p = f i; q = g i; r = h i }

-- the sum is one of two
pub sum_cases : (t : Triple) → good_sum t ≡ true → (sum_of t ≡ pos 0) ⊎ (sum_of t ≡ pos 1)
sum_cases t g = let s = good_of t g in zero_or_one (sum_of t) s.0 s.1

-- ---- the first corner, and the corners
abbrev even_first : Triple → AB
even_first t = ab (pos 4 *ℤ t.y) (pos 4 *ℤ t.x)

abbrev odd_first : Triple → AB
odd_first t = ab (pos 4 *ℤ t.y) (pos 4 *ℤ t.x -ℤ pos 4)

by_sum : Triple → ℤ → Corners
by_sum t s = cond (equal s (pos 0)) (even_from (even_start (corner_sum t))) (odd_from (odd_start (corner_sum t)))

module _ (t : Triple) where
  module _ (e : sum_of t ≡ pos 0) where
    even_start_lem : even_start (corner_sum t) ≡ even_first t
    unfolding corner_sum
    even_start_lem =
        let vx = v_var t.x in
        let vy = v_var t.y in
        let vz = v_var t.z in
        let h = eq_of (search view) (search view) tt e in
        pair_is (eq_by (search view depth 15) (search view) tt (omega arith)) (eq_by (search view depth 15) (search view) tt (omega arith))

    pub even_corners : cell_corners t ≡ even_from (even_first t)
    unfolding cell_corners by_sum
    even_corners = ap (by_sum t) e ∙ ap even_from even_start_lem

  module _ (e : sum_of t ≡ pos 1) where
    odd_start_lem : odd_start (corner_sum t) ≡ odd_first t
    unfolding corner_sum
    odd_start_lem =
        let vx = v_var t.x in
        let vy = v_var t.y in
        let vz = v_var t.z in
        let h = eq_of (search view) (search view) tt e in
        pair_is (eq_by (search view depth 15) (search view) tt (omega arith)) (eq_by (search view depth 15) (search view) tt (omega arith))

    pub odd_corners : cell_corners t ≡ odd_from (odd_first t)
    unfolding cell_corners by_sum
    odd_corners = ap (by_sum t) e ∙ ap odd_from odd_start_lem

-- THE CORNERS are the cell's own: they sum to its corner sum
pub corners_sum : (t : Triple) → good_sum t ≡ true → (cell_corners t).p ⊕ (cell_corners t).q ⊕ (cell_corners t).r ≡ corner_sum t
unfolding ◌⊕◌ corner_sum
corners_sum t g =
    let vx = v_var t.x in
    let vy = v_var t.y in
    let vz = v_var t.z in
    ⊎_elim
    (λ e.
    let h = eq_of (search view) (search view) tt e in
    ap total (even_corners t e) ∙ pair_is (eq_by (search view depth 15) (search view depth 15) tt (omega arith)) (eq_by (search view depth 15) (search view depth 15) tt (omega arith)))
    (λ e.
    let h = eq_of (search view) (search view) tt e in
    ap total (odd_corners t e) ∙ pair_is (eq_by (search view depth 15) (search view depth 15) tt (omega arith)) (eq_by (search view depth 15) (search view depth 15) tt (omega arith)))
    (sum_cases t g)
  where
    total : Corners → AB
    total c = c.p ⊕ c.q ⊕ c.r

-- ---- sizes
-- three i32, by the sizes that the code knows
pub three_i32 : (t : Triple) → mag t.x < 2 ^ 31 → mag t.y < 2 ^ 31 → mag t.z < 2 ^ 31 → ThreeI32 t
three_i32 t mx my mz = record { x = fits t.x mx; y = fits t.y my; z = fits t.z mz }
  where
    fits : (v : ℤ) → mag v < 2 ^ 31 → FitsI32 v
    fits v m = let i = v_i32 v m in let b = i.is tt in record { low = le_by (search view) i tt (omega arith); high = le_by i (search view) tt (omega arith) }

short : {v : ℤ} (l : View v) → T (l.ok && (ltb l.top (10 ^ 10) && ltb l.bot (10 ^ 10))) → Short v
short {v} l t =
    let b = both_right l.ok (ltb l.top (10 ^ 10) && ltb l.bot (10 ^ 10)) t in
    let h = ltb→lt l.top (10 ^ 10) (both_left (ltb l.top (10 ^ 10)) (ltb l.bot (10 ^ 10)) b) in
    let k = ltb→lt l.bot (10 ^ 10) (both_right (ltb l.top (10 ^ 10)) (ltb l.bot (10 ^ 10)) b) in
    record { size = omega (arith, abs_parts v, up_dn v, l.is (both_left l.ok (ltb l.top (10 ^ 10) && ltb l.bot (10 ^ 10)) t)) }

pub record Digits (c : Corners) : Type 0 where
  pub p : TenDigits c.p
  pub q : TenDigits c.q
  pub r : TenDigits c.r

pub corners_digits : (t : Triple) → good_sum t ≡ true → ThreeI32 t → Digits (cell_corners t)
unfolding ◌⊕◌
corners_digits t g n =
    let vx = v_fits n.x in
    let vy = v_fits n.y in
    ⊎_elim
    (λ e. subst Digits (sym (even_corners t e)) (record {
      p = record { a = short (search view) tt; b = short (search view) tt };
      q = record { a = short (search view) tt; b = short (search view) tt };
      r = record { a = short (search view) tt; b = short (search view) tt };
    }))
    (λ e. subst Digits (sym (odd_corners t e)) (record {
      p = record { a = short (search view) tt; b = short (search view) tt };
      q = record { a = short (search view) tt; b = short (search view) tt };
      r = record { a = short (search view) tt; b = short (search view) tt };
    }))
    (sum_cases t g)
