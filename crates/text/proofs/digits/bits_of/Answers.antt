-- A float that is not equal to itself is the NaN.
use Rattle.text.proofs.DigitLaws.{same_number, nan_bits}
use borrow.Author.Rules.{rules}
use Rattle.text.proofs.digits.bits_of.Goals as goal

pub float_to_bits-result : goal.float_to_bits-result
float_to_bits-result c = search (rules, same_number, nan_bits)

pub returns : goal.returns
returns c = search (rules, same_number, nan_bits)
