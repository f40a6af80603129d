-- `max_row` meets its contract: one less than the count of the rows, which an i64 holds.
use native.Mathlib.Omega.{arith}
use lib.Pow.{pow_pos}
use Rattle.whole.proofs.View.{seen, fits, eq_by}
use Rattle.triple.proofs.DomainLaws.{v_rows}
use Rattle.triple.proofs.TripleLaws.{v_row}
use Rattle.triple.proofs.max_row.Goals as goal

pub overflow_sub-result : goal.overflow_sub-result
overflow_sub-result c =
    let n = v_rows _ c.requires c.row_count.ensures in
    fits (search seen) tt

pub returns : goal.returns
returns c =
    let n = v_rows _ c.requires c.row_count.ensures in
    eq_by (search seen) (v_row _ c.requires) tt (omega (arith, pow_pos c.args.resolution))
