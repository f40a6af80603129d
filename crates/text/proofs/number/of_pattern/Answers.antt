-- Patterns above the infinity's are NaNs, for which 0 / 0 stands, and the others are themselves.
use mathlib.Core.Path.{sym}
use lib.Ieee.{of_bits, div}
use Rattle.text.proofs.PatternLaws.{nan_of, no_nan_of}
use Rattle.text.proofs.number.of_pattern.Goals as goal

pub float_from_bits-result : goal.float_from_bits-result
float_from_bits-result c = no_nan_of c.args.bits c.if-bits-gt9218868437227405312.false

-- 0 / 0 computes to `nan`
pub returns-then-bits-gt9218868437227405312 : goal.returns-then-bits-gt9218868437227405312
unfolding of_bits div
returns-then-bits-gt9218868437227405312 c = sym (nan_of c.args.bits c.if-bits-gt9218868437227405312.true)
