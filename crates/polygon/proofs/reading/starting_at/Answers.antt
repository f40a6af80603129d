-- Each operation seen with its bounds fits an i64, and the numbers are the definition's.
use native.Mathlib.Omega.{arith}
use borrow.Author.Rules.{rules}
use mathlib.Core.Path.{ap, ◌∙◌}
use mir.Syntax.{w64}
use Rattle.whole.proofs.View.{View, view, seen, v_unsigned, fits, eq_by}
use Rattle.turtle.proofs.CornerLaws.{triple_is}
use Rattle.polygon.specs.Polygons.{readable, starting_at, narrow}
use Rattle.polygon.proofs.ReadLaws.{narrow_is}
use Rattle.polygon.proofs.reading.starting_at.Goals as goal

pub nonzero_div-x : goal.nonzero_div-x
nonzero_div-x c = (search rules, fits (search seen depth 9) tt)

pub overflow_add-x : goal.overflow_add-x
overflow_add-x c = let s = v_unsigned w64 c.args.s 1 c.requires in fits (search seen depth 9) tt

pub nonzero_div-y : goal.nonzero_div-y
nonzero_div-y c = (search rules, fits (search seen depth 9) tt)

pub overflow_sub-sum : goal.overflow_sub-sum
overflow_sub-sum c = let s = v_unsigned w64 c.args.s 1 c.requires in fits (search seen depth 12) tt

pub overflow_sub-sum-2 : goal.overflow_sub-sum-2
overflow_sub-sum-2 c = let s = v_unsigned w64 c.args.s 1 c.requires in fits (search seen depth 16) tt

pub returns : goal.returns
unfolding starting_at
returns c =
    let p = c.args.p in
    let a : View p.a = search seen in
    let b : View p.b = search seen in
    let s = v_unsigned w64 c.args.s 1 c.requires in
    ap readable c.narrowed.ensures
    ∙ narrow_is _
    ∙ ap narrow
    (triple_is (eq_by (search view depth 12) (search view depth 12) tt (omega arith)) (eq_by (search view depth 12) (search view depth 12) tt (omega arith)) (eq_by (search view depth 20) (search view depth 20) tt (omega arith)))
