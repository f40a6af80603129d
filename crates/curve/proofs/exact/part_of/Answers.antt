-- `part_of` meets its contract: the fields of the bits are a fraction of the same value.
use borrow.Author.Rules.{rules}
use Rattle.curve.proofs.NearLaws.{no_nan}
use Rattle.curve.proofs.FractionLaws.{parts}
use Rattle.curve.proofs.exact.part_of.Goals as goal

pub float_to_bits-bits : goal.float_to_bits-bits
float_to_bits-bits c = search (rules, no_nan, parts)

pub returns-then-exponent-eq0 : goal.returns-then-exponent-eq0
returns-then-exponent-eq0 c = search (rules, no_nan, parts)

pub overflow_sub-places : goal.overflow_sub-places
overflow_sub-places c = search (rules, no_nan, parts)

pub returns : goal.returns
returns c = search (rules, no_nan, parts)
