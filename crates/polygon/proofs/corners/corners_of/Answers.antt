-- `corners_of`: each operation seen with its bounds fits an i64, and the corners of either parity are those of the definition without its division.
use native.Mathlib.Omega.{arith}
use mathlib.Core.Path.{◌≡◌, sym, ◌∙◌}
use mathlib.Core.Logic.{⊎_elim}
use lib.IntN.{pos}
use Rattle.whole.proofs.View.{View, view, seen, v_same, fits, eq_of, eq_by, told, differ, fact_of}
use Rattle.triple.specs.Triples.{sum_of}
use Rattle.turtle.specs.Plane.{◌⊕◌}
use Rattle.turtle.proofs.CornerLaws.{pair_is}
use Rattle.polygon.proofs.CornerLaws.{corners_are, sum_cases, even_corners, odd_corners}
use Rattle.polygon.proofs.corners.corners_of.Goals as goal

pub overflow_cast-a : goal.overflow_cast-a
overflow_cast-a c = fits (search seen) tt

pub overflow_mul-a : goal.overflow_mul-a
overflow_mul-a c = fits (search seen) tt

pub overflow_cast-b : goal.overflow_cast-b
overflow_cast-b c = fits (search seen) tt

pub overflow_mul-b : goal.overflow_mul-b
overflow_mul-b c = fits (search seen) tt

pub overflow_add-a : goal.overflow_add-a
overflow_add-a c = fits (search seen depth 9) tt

pub overflow_sub-b : goal.overflow_sub-b
overflow_sub-b c = fits (search seen depth 9) tt

pub overflow_add-a-then-sum-eq0 : goal.overflow_add-a-then-sum-eq0
overflow_add-a-then-sum-eq0 c = fits (search seen depth 9) tt

pub returns-then-sum-eq0 : goal.returns-then-sum-eq0
unfolding ◌⊕◌
returns-then-sum-eq0 c =
    let t = c.args.t in
    let x : View t.x = search seen in
    let y : View t.y = search seen in
    let s = v_same c.sum.ensures (search seen) in
    let e : sum_of t ≡ pos 0 = eq_by (search seen) (search seen) tt (omega (arith, fact_of (search (told, c.if-sum-eq0.true)) (search seen) (search seen) tt)) in
    corners_are
    (c.new.ensures ∙ pair_is (eq_by (search view depth 12) (search view) tt (omega arith)) (eq_by (search view depth 12) (search view) tt (omega arith)))
    (c.new-then-sum-eq0.ensures ∙ pair_is (eq_by (search view depth 12) (search view) tt (omega arith)) (eq_by (search view depth 12) (search view) tt (omega arith)))
    (c.new-then-sum-eq0-2.ensures ∙ pair_is (eq_by (search view depth 12) (search view) tt (omega arith)) (eq_by (search view depth 12) (search view) tt (omega arith)))
    ∙ sym (even_corners t e)

pub overflow_sub-b-2 : goal.overflow_sub-b-2
overflow_sub-b-2 c = fits (search seen depth 9) tt

pub overflow_add-a-2 : goal.overflow_add-a-2
overflow_add-a-2 c = fits (search seen depth 9) tt

pub overflow_sub-b-3 : goal.overflow_sub-b-3
overflow_sub-b-3 c = fits (search seen depth 9) tt

pub returns : goal.returns
unfolding ◌⊕◌
returns c =
    let t = c.args.t in
    let x : View t.x = search seen in
    let y : View t.y = search seen in
    let s = v_same c.sum.ensures (search seen) in
    let other = fact_of (search (told, differ c.if-sum-eq0.false)) (search seen) (search seen) tt in
    let e : sum_of t ≡ pos 1 = ⊎_elim (λ zero. absurd (omega (arith, eq_of (search seen) (search seen) tt zero))) (λ one. one) (sum_cases t c.requires) in
    corners_are
    (c.new-2.ensures ∙ pair_is (eq_by (search view depth 12) (search view) tt (omega arith)) (eq_by (search view depth 12) (search view) tt (omega arith)))
    (c.new-3.ensures ∙ pair_is (eq_by (search view depth 12) (search view) tt (omega arith)) (eq_by (search view depth 12) (search view) tt (omega arith)))
    (c.new-4.ensures ∙ pair_is (eq_by (search view depth 12) (search view) tt (omega arith)) (eq_by (search view depth 12) (search view) tt (omega arith)))
    ∙ sym (odd_corners t e)
