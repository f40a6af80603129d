-- `exact_parity` meets its contract: equal fractions are as far above their floors.
use borrow.Author.Rules.{rules}
use Rattle.curve.proofs.PointLaws.{near_first, near_second}
use Rattle.curve.proofs.FractionLaws.{exactly}
use Rattle.curve.proofs.exact.exact_parity.Goals as goal

pub part_of-requires : goal.part_of-requires
part_of-requires c = search (rules, near_first, near_second, exactly)

pub part_of-requires-2 : goal.part_of-requires-2
part_of-requires-2 c = search (rules, near_first, near_second, exactly)

pub returns-then-is_upper : goal.returns-then-is_upper
returns-then-is_upper c = search (rules, near_first, near_second, exactly)

pub returns-else-is_upper : goal.returns-else-is_upper
returns-else-is_upper c = search (rules, near_first, near_second, exactly)
