-- How long the polygon of a cell in bounds is: the first number of each corner is not below 0, and has no sign.
use native.Mathlib.Omega.{arith}
use mathlib.Core.Path.{◌≡◌, sym, ap, subst}
use mathlib.Core.Logic.{⊎_elim}
use mathlib.Core.Bool.{true}
use mathlib.Core.List.{List}
use Prim.Native.Nat.{ℕ, ◌≤◌}
use lib.IntN.{ℤ, pos, negsuc}
use lib.Signed.{◌≤ℤ◌}
use lib.ListN.{length}
use Rattle.whole.proofs.TestLaws.{pass_true}
use Rattle.whole.proofs.View.{view, v_var, le_of, le_by}
use Rattle.triple.specs.declared.Triple.{Triple}
use Rattle.triple.specs.Refusals.{told}
use Rattle.triple.specs.Triples.{good_sum, bounds, is_in_bounds}
use Rattle.text.specs.Decimals.{integer}
use Rattle.text.proofs.DecimalLaws.{length_most}
use Rattle.turtle.specs.declared.AB.{AB}
use Rattle.turtle.specs.declared.walk.Corners.{Corners}
use Rattle.turtle.specs.Plane.{◌⊕◌}
use Rattle.polygon.specs.Polygons.{cell_corners, corner_text, wkt_of}
use Rattle.polygon.specs.Inside.Sizes.{Short, TenDigits}
use Rattle.polygon.proofs.CornerLaws.{sum_cases, even_corners, odd_corners, corners_digits}
use Rattle.polygon.proofs.SpellLaws.{integer_length, corner_parts, ring_parts}
use Rattle.polygon.proofs.ReadBack.{given_of, bounded_three}

record Upward (c : Corners) : Type 0 where
  p : pos 0 ≤ℤ c.p.a
  q : pos 0 ≤ℤ c.q.a
  r : pos 0 ≤ℤ c.r.a

corners_upward : (t : Triple) → good_sum t ≡ true → pos 0 ≤ℤ t.y → Upward (cell_corners t)
unfolding ◌⊕◌
corners_upward t g l =
    let y = v_var t.y in
    let h = le_of (search view) y tt l in
    ⊎_elim
    (λ e. subst Upward (sym (even_corners t e)) (record { p = le_by (search view) (search view) tt (omega arith); q = le_by (search view) (search view) tt (omega arith); r = le_by (search view) (search view) tt (omega arith) }))
    (λ e. subst Upward (sym (odd_corners t e)) (record { p = le_by (search view) (search view) tt (omega arith); q = le_by (search view) (search view) tt (omega arith); r = le_by (search view) (search view) tt (omega arith) }))
    (sum_cases t g)

unsigned_length : (z : ℤ) → pos 0 ≤ℤ z → Short z → length (integer z) ≤ 10
unfolding integer
unsigned_length (pos n) h s = length_most 9 n s.size
unsigned_length (negsuc n) h s = absurd h.le

upward_length : (p : AB) → pos 0 ≤ℤ p.a → TenDigits p → length (corner_text p) ≤ 22
upward_length p h d = omega (arith, corner_parts p, unsigned_length p.a h d.a, integer_length p.b d.b)

-- AT MOST 106 bytes
pub wkt_length : (r : ℕ) (t : Triple) (text : List ℕ) → wkt_of r t ≡ told text → length text ≤ 106
unfolding is_in_bounds
wkt_length r t text e =
    let g = given_of r t text e in
    let c = cell_corners t in
    let d = corners_digits t g.good (bounded_three r t g.shallow g.bounds) in
    let u = corners_upward t g.good (pass_true (bounds r t) g.bounds).1.1.1.1.0 in
    omega (arith, ap length g.same, ring_parts c, upward_length c.p u.p d.p, upward_length c.q u.q d.q, upward_length c.r u.r d.r)
