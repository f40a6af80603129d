-- `walk::rot60` is `rot`: a short pair's opposite and its sum fit.
use native.Mathlib.Omega.{arith}
use mathlib.Core.Path.{◌∙◌, ap₂}
use Rattle.whole.proofs.View.{seen, fits, eq_by}
use Rattle.turtle.specs.Plane.{ab, rot}
use Rattle.turtle.proofs.WalkLaws.{v_small}
use Rattle.turtle.proofs.walk.rot60.Goals as goal

pub overflow_sub-b : goal.overflow_sub-b
overflow_sub-b c =
    let a = v_small c.requires.a in
    let b = v_small c.requires.b in
    fits (search seen) tt

pub overflow_add-a : goal.overflow_add-a
overflow_add-a c =
    let a = v_small c.requires.a in
    let b = v_small c.requires.b in
    fits (search seen) tt

pub returns : goal.returns
unfolding rot
returns c =
    let a = v_small c.requires.a in
    let b = v_small c.requires.b in
    c.new.ensures ∙ ap₂ ab (eq_by (search seen) (search seen) tt (omega arith)) (eq_by (search seen) (search seen) tt (omega arith))
