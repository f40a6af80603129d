-- `start_of`: at the origin, or 4 times the number of rows away.
use mathlib.Core.Path.{◌∙◌}
use native.Mathlib.Omega.{arith}
use borrow.Author.Rules.{rules}
use Rattle.whole.proofs.View.{seen, fits, eq_by}
use Rattle.triple.proofs.DomainLaws.{v_power, v_rows}
use Rattle.turtle.proofs.CornerLaws.{pair_is}
use Rattle.sketch.proofs.StartLaws.{start_home, start_away}
use Rattle.sketch.proofs.start_of.Goals as goal

pub returns-then-not-shifted : goal.returns-then-not-shifted
returns-then-not-shifted c = search (rules, start_home)

pub overflow_mul-side : goal.overflow_mul-side
overflow_mul-side c =
    let rows = (v_rows c.args.resolution (omega (arith, c.requires)) c.row_count-side.ensures) in
    fits (search seen depth 9) tt

pub overflow_sub-side : goal.overflow_sub-side
overflow_sub-side c =
    let rows = (v_rows c.args.resolution (omega (arith, c.requires)) c.row_count-side.ensures) in
    fits (search seen depth 9) tt

pub returns : goal.returns
returns c =
    let rows = (v_rows c.args.resolution (omega (arith, c.requires)) c.row_count-side.ensures) in
    let power = v_power c.args.resolution (omega (arith, c.requires)) in
    start_away c.args.resolution c.args.shifted c.if-not-shifted.false-raw
    (c.new-2.ensures ∙ pair_is (eq_by (search seen depth 9) (search seen depth 9) tt (omega arith)) (eq_by (search seen depth 12) (search seen depth 9) tt (omega arith)))
