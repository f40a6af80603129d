-- `corner::candidate` meets its contract, by the view of each operation, from the size of a pair that is not far.
use native.Mathlib.Omega.{arith}
use mathlib.Core.Path.{refl}
use borrow.Author.Rules.{rules}
use Rattle.whole.proofs.View.{view, v_same, v_upto, fits, eq_by}
use Rattle.turtle.specs.Corners.{candidate}
use Rattle.turtle.proofs.CornerLaws.{narrowed_by}
use Rattle.turtle.proofs.LimitLaws.{near_of}
use Rattle.turtle.proofs.WalkLaws.{v_small}
use Rattle.turtle.proofs.corner.candidate.Goals as goal

pub overflow_add-x : goal.overflow_add-x
overflow_add-x c =
    let b = v_small ((near_of c.args.p refl c.requires.1)).b in
    fits (search view) tt

pub overflow_mul-x : goal.overflow_mul-x
overflow_mul-x c =
    let s = v_same c.from-sum.ensures (v_upto c.args.s 1 c.requires.0) in
    fits (search view) tt

pub overflow_add-x-2 : goal.overflow_add-x-2
overflow_add-x-2 c =
    let b = v_small ((near_of c.args.p refl c.requires.1)).b in
    let s = v_same c.from-sum.ensures (v_upto c.args.s 1 c.requires.0) in
    fits (search view depth 9) tt

pub nonzero_div-x : goal.nonzero_div-x
nonzero_div-x c =
    let b = v_small ((near_of c.args.p refl c.requires.1)).b in
    let s = v_same c.from-sum.ensures (v_upto c.args.s 1 c.requires.0) in
    (search rules, fits (search view depth 12) tt)

pub overflow_sub-y : goal.overflow_sub-y
overflow_sub-y c =
    let a = v_small ((near_of c.args.p refl c.requires.1)).a in
    fits (search view) tt

pub overflow_mul-y : goal.overflow_mul-y
overflow_mul-y c =
    let s = v_same c.from-sum.ensures (v_upto c.args.s 1 c.requires.0) in
    fits (search view) tt

pub overflow_add-y : goal.overflow_add-y
overflow_add-y c =
    let a = v_small ((near_of c.args.p refl c.requires.1)).a in
    let s = v_same c.from-sum.ensures (v_upto c.args.s 1 c.requires.0) in
    fits (search view depth 9) tt

pub nonzero_div-y : goal.nonzero_div-y
nonzero_div-y c =
    let a = v_small ((near_of c.args.p refl c.requires.1)).a in
    let s = v_same c.from-sum.ensures (v_upto c.args.s 1 c.requires.0) in
    (search rules, fits (search view depth 12) tt)

pub overflow_sub-sum : goal.overflow_sub-sum
overflow_sub-sum c =
    let b = v_small ((near_of c.args.p refl c.requires.1)).b in
    let s = v_same c.from-sum.ensures (v_upto c.args.s 1 c.requires.0) in
    fits (search view depth 12) tt

pub overflow_sub-sum-2 : goal.overflow_sub-sum-2
overflow_sub-sum-2 c =
    let a = v_small ((near_of c.args.p refl c.requires.1)).a in
    let b = v_small ((near_of c.args.p refl c.requires.1)).b in
    let s = v_same c.from-sum.ensures (v_upto c.args.s 1 c.requires.0) in
    fits (search view depth 16) tt

pub returns : goal.returns
unfolding candidate
returns c =
    let a = v_small ((near_of c.args.p refl c.requires.1)).a in
    let b = v_small ((near_of c.args.p refl c.requires.1)).b in
    let s = v_same c.from-sum.ensures (v_upto c.args.s 1 c.requires.0) in
    narrowed_by _ _ (candidate c.args.s c.args.p) c.narrowed.ensures (eq_by (search view depth 12) (search view depth 12) tt (omega arith)) (eq_by (search view depth 12) (search view depth 12) tt (omega arith)) (eq_by (search view depth 16) (search view depth 20) tt (omega arith))
