-- `walk::add` is the sum of two pairs.
use native.Mathlib.Omega.{arith}
use mathlib.Core.Path.{◌∙◌, ap₂}
use Rattle.whole.proofs.View.{seen, fits, eq_by}
use Rattle.turtle.specs.Plane.{ab, ◌⊕◌}
use Rattle.turtle.proofs.WalkLaws.{v_small}
use Rattle.turtle.proofs.walk.add.Goals as goal

pub overflow_add-p : goal.overflow_add-p
overflow_add-p c =
    let p = v_small c.requires.0.a in
    let q = v_small c.requires.1.a in
    fits (search seen) tt

pub overflow_add-p-2 : goal.overflow_add-p-2
overflow_add-p-2 c =
    let p = v_small c.requires.0.b in
    let q = v_small c.requires.1.b in
    fits (search seen) tt

pub returns : goal.returns
unfolding ◌⊕◌
returns c =
    let pa = v_small c.requires.0.a in
    let pb = v_small c.requires.0.b in
    let qa = v_small c.requires.1.a in
    let qb = v_small c.requires.1.b in
    c.new.ensures ∙ ap₂ ab (eq_by (search seen) (search seen) tt (omega arith)) (eq_by (search seen) (search seen) tt (omega arith))
