-- `leaves::corner_of` keeps both coordinates, which fit.
use Rattle.tables.proofs.LeafLaws.{a_fits, b_fits, narrowed}
use Rattle.tables.proofs.leaves.corner_of.Goals as goal

pub overflow_cast-result : goal.overflow_cast-result
overflow_cast-result c = a_fits c.requires

pub overflow_cast-result-2 : goal.overflow_cast-result-2
overflow_cast-result-2 c = b_fits c.requires

pub returns : goal.returns
returns c = narrowed c.requires
