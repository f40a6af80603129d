-- `level`: the cell's size divides the place where it begins, and is no more than the run.
use Rattle.area.proofs.CutLaws.{largest_fits}
use Rattle.area.proofs.cutting.level.Goals as goal

pub returns : goal.returns
returns c = largest_fits c.args.lo c.args.hi c.requires _ c.ilog2-wide.ensures.power_le c.ilog2-wide.ensures.next_power_gt c.min.ensures
