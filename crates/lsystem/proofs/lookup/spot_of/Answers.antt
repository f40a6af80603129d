-- `lookup::spot_of`: of a triple in bounds each number is from 0 up, and they are its spot's.
use Rattle.whole.proofs.View.{seen, fits}
use Rattle.triple.proofs.DomainLaws.{v_rows}
use Rattle.lsystem.proofs.PositionLaws.{spotted, column_is, row_is, slant_is, cast_of, cast_is}
use Rattle.lsystem.proofs.lookup.spot_of.Goals as goal

pub overflow_add-x : goal.overflow_add-x
overflow_add-x c =
    let rows = (v_rows _ c.requires.1.0 c.row_count.ensures) in
    fits (search seen depth 12) tt

pub overflow_cast-result : goal.overflow_cast-result
overflow_cast-result c = cast_of _ (column_is c.args.resolution c.args.t c.requires _ c.row_count.ensures) (spotted _ _ c.requires).small.0

pub overflow_cast-result-2 : goal.overflow_cast-result-2
overflow_cast-result-2 c = cast_of _ (row_is c.args.resolution c.args.t c.requires) (spotted _ _ c.requires).small.1.0

pub overflow_cast-result-3 : goal.overflow_cast-result-3
overflow_cast-result-3 c = cast_of _ (slant_is c.args.resolution c.args.t c.requires) (spotted _ _ c.requires).small.1.1

pub returns : goal.returns
returns c = cast_is _ (column_is c.args.resolution c.args.t c.requires _ c.row_count.ensures) (row_is _ c.args.t c.requires) (slant_is _ c.args.t c.requires)
