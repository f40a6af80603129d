-- A number below ten has one digit; another has one more than the tens that it has reached.
use Rattle.std.proofs.Common.{arith, length}
use mathlib.Core.Path.{ap}
use Rattle.text.proofs.DecimalLaws.{natural_one}
use Rattle.text.proofs.DigitLaws.{length_is}
use Rattle.text.proofs.digits.natural_length.Goals as goal

pub returns-then-n-lt10 : goal.returns-then-n-lt10
returns-then-n-lt10 c = omega (arith, ap length (natural_one c.args.n c.if-n-lt10.true))

pub returns : goal.returns
returns c = length_is c.args.n c.args.n _ (omega arith) c.ilog10.ensures.power_le c.ilog10.ensures.next_power_gt
