-- What was there is sound, and so is what a read makes of it.
use Rattle.std.proofs.Common.{arith}
use Rattle.lines.proofs.StepLaws.{read_sound}
use Rattle.lines.proofs.Exchange.read.Goals as goal

pub returns-in-Ok : goal.returns-in-Ok
returns-in-Ok g c = read_sound _ _ _ _ c.after_read.ensures (omega arith)

pub returns-in-Err-2 : goal.returns-in-Err-2
returns-in-Err-2 g c = read_sound _ _ _ _ c.after_read-in-Err-2.ensures (omega arith)
