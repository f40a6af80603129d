-- `sum_of_corners`: each operation seen with its bounds fits an i64, and the code's formula is the definition's.
use native.Mathlib.Omega.{arith}
use mathlib.Core.Path.{◌∙◌}
use Rattle.whole.proofs.View.{View, view, seen, fits, eq_by}
use Rattle.turtle.specs.Corners.{corner_sum}
use Rattle.turtle.proofs.CornerLaws.{pair_is}
use Rattle.turtle.proofs.corner.sum_of_corners.Goals as goal

pub overflow_cast-x : goal.overflow_cast-x
overflow_cast-x c = fits (search seen) tt

pub overflow_cast-y : goal.overflow_cast-y
overflow_cast-y c = fits (search seen) tt

pub overflow_cast-z : goal.overflow_cast-z
overflow_cast-z c = fits (search seen) tt

pub overflow_mul-a : goal.overflow_mul-a
overflow_mul-a c = fits (search seen depth 20) tt

pub overflow_mul-a-2 : goal.overflow_mul-a-2
overflow_mul-a-2 c = fits (search seen depth 20) tt

pub overflow_sub-a : goal.overflow_sub-a
overflow_sub-a c = fits (search seen depth 20) tt

pub overflow_mul-a-3 : goal.overflow_mul-a-3
overflow_mul-a-3 c = fits (search seen depth 20) tt

pub overflow_sub-a-2 : goal.overflow_sub-a-2
overflow_sub-a-2 c = fits (search seen depth 20) tt

pub overflow_add-a : goal.overflow_add-a
overflow_add-a c = fits (search seen depth 20) tt

pub overflow_mul-b : goal.overflow_mul-b
overflow_mul-b c = fits (search seen depth 20) tt

pub overflow_mul-b-2 : goal.overflow_mul-b-2
overflow_mul-b-2 c = fits (search seen depth 20) tt

pub overflow_sub-b : goal.overflow_sub-b
overflow_sub-b c = fits (search seen depth 20) tt

pub overflow_mul-b-3 : goal.overflow_mul-b-3
overflow_mul-b-3 c = fits (search seen depth 20) tt

pub overflow_sub-b-2 : goal.overflow_sub-b-2
overflow_sub-b-2 c = fits (search seen depth 20) tt

pub overflow_sub-b-3 : goal.overflow_sub-b-3
overflow_sub-b-3 c = fits (search seen depth 20) tt

pub returns : goal.returns
unfolding corner_sum
returns c =
    let t = c.args.t in
    let x : View t.x = search seen in
    let y : View t.y = search seen in
    let z : View t.z = search seen in
    c.new.ensures
    ∙ pair_is (eq_by (search view depth 20) (search view depth 12) tt (omega arith)) (eq_by (search view depth 20) (search view depth 12) tt (omega arith))
