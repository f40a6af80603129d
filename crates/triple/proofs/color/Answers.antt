-- `color` meets its contract: the rows and two i32 add up within an i64, and the sum's remainder by 2 is 0 exactly when its size is even.
use native.Mathlib.Omega.{arith}
use borrow.Author.Rules.{rules}
use Rattle.whole.proofs.View.{seen, fits, v_same, told, differ, fact_of}
use Rattle.triple.proofs.TripleLaws.{v_row, color_by}
use Rattle.triple.proofs.color.Goals as goal

pub overflow_add-rows : goal.overflow_add-rows
overflow_add-rows c =
    let m = (v_same c.max_row.ensures (v_row _ c.requires)) in
    fits (search seen) tt

pub overflow_cast-rows : goal.overflow_cast-rows
overflow_cast-rows c = fits (search seen) tt

pub overflow_add-rows-2 : goal.overflow_add-rows-2
overflow_add-rows-2 c =
    let m = (v_same c.max_row.ensures (v_row _ c.requires)) in
    fits (search seen depth 9) tt

pub overflow_cast-rows-2 : goal.overflow_cast-rows-2
overflow_cast-rows-2 c = fits (search seen) tt

pub overflow_add-rows-3 : goal.overflow_add-rows-3
overflow_add-rows-3 c =
    let m = (v_same c.max_row.ensures (v_row _ c.requires)) in
    fits (search seen depth 12) tt

pub nonzero_rem-rows : goal.nonzero_rem-rows
nonzero_rem-rows c =
    let m = (v_same c.max_row.ensures (v_row _ c.requires)) in
    (search rules, fits (search seen depth 16) tt)

pub returns-then-rows-eq0 : goal.returns-then-rows-eq0
returns-then-rows-eq0 c =
    let m = (v_same c.max_row.ensures (v_row _ c.requires)) in
    color_by _ _ (search seen depth 9) tt (omega (arith, fact_of (search (told, c.if-rows-eq0.true)) (search seen depth 20) (search seen) tt))

pub returns-else-rows-eq0 : goal.returns-else-rows-eq0
returns-else-rows-eq0 c =
    let m = (v_same c.max_row.ensures (v_row _ c.requires)) in
    color_by _ _ (search seen depth 9) tt (omega (arith, fact_of (search (told, differ c.if-rows-eq0.false)) (search seen depth 20) (search seen) tt))
