-- `moved_wide` meets its contract: no sum of an i32 and the count of the rows wraps.
use Rattle.std.proofs.Common.{arith, rules}
use Rattle.whole.proofs.View.{seen, fits, eq_by}
use Rattle.triple.proofs.DomainLaws.{v_rows}
use Rattle.nodes.proofs.ChildLaws.{moved_side, moved_none}
use Rattle.nodes.proofs.moved_wide.Goals as goal

pub overflow_sub-result : goal.overflow_sub-result
overflow_sub-result c =
    let rows = (v_rows _ (search rules) c.row_count-rows.ensures) in
    fits (search seen depth 9) tt

pub overflow_add-result : goal.overflow_add-result
overflow_add-result c =
    let rows = (v_rows _ (search rules) c.row_count-rows.ensures) in
    fits (search seen depth 9) tt

pub returns-then-moves : goal.returns-then-moves
returns-then-moves c =
    let rows = (v_rows _ (search rules) c.row_count-rows.ensures) in
    moved_side _ _ _ (search rules)
    (eq_by (search seen depth 9) (search seen depth 9) tt (omega arith))
    (eq_by (search seen depth 9) (search seen depth 9) tt (omega arith))
    (eq_by (search seen) (search seen) tt (omega arith))

pub returns : goal.returns
returns c =
    moved_none _ _ _ (search rules)
    (eq_by (search seen) (search seen) tt (omega arith))
    (eq_by (search seen) (search seen) tt (omega arith))
    (eq_by (search seen) (search seen) tt (omega arith))
