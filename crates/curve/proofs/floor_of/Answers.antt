-- `floor_of` meets its contract: the fields of the bits are a fraction of the same value, and so of the same floor.
use borrow.Author.Rules.{rules}
use Rattle.curve.proofs.NearLaws.{no_nan}
use Rattle.curve.proofs.FloorLaws.{floors}
use Rattle.curve.proofs.floor_of.Goals as goal

pub float_to_bits-bits : goal.float_to_bits-bits
float_to_bits-bits c = search (rules, no_nan)

pub returns-then-bits-gt-SIGN : goal.returns-then-bits-gt-SIGN
returns-then-bits-gt-SIGN c = search (rules, floors)

pub returns-then-exponent-lt-ONE : goal.returns-then-exponent-lt-ONE
returns-then-exponent-lt-ONE c = search (rules, floors)

pub overflow_sub-exponent : goal.overflow_sub-exponent
overflow_sub-exponent c = search (rules, floors)

pub returns : goal.returns
returns c = search (rules, floors)
