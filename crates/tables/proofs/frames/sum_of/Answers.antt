-- `frames::sum_of` adds both coordinates.
use Rattle.tables.proofs.FrameLaws.{sum_fits, summed}
use Rattle.tables.proofs.frames.sum_of.Goals as goal

pub overflow_add-p : goal.overflow_add-p
overflow_add-p c = sum_fits c.requires.0.a c.requires.1.a

pub overflow_add-p-2 : goal.overflow_add-p-2
overflow_add-p-2 c = sum_fits c.requires.0.b c.requires.1.b

pub returns : goal.returns
returns c = summed c.requires.0 c.requires.1 c.new.ensures
