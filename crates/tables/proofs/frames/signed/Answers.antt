-- `frames::signed` is the opposite where flipped.
use Rattle.tables.proofs.FrameLaws.{signed_on, signed_off}
use Rattle.tables.proofs.frames.signed.Goals as goal

pub returns-then-flip : goal.returns-then-flip
returns-then-flip c = signed_on c.if-flip.true c.requires c.new.ensures

pub returns-else-flip : goal.returns-else-flip
returns-else-flip c = signed_off c.if-flip.false
