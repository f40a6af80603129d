-- A digit by a shift: 2 ^ (2 k) is 4 ^ k.
use Rattle.whole.proofs.Powers.{four_by_shift}
use Rattle.descent.proofs.level.digit_of.Goals as goal

pub returns : goal.returns
returns c = rw (four_by_shift c.args.k)
