-- `above` meets its contract: the cast of m is exact.
use borrow.Author.Rules.{rules}
use Rattle.curve.proofs.FloorLaws.{cast_exact}
use Rattle.curve.proofs.above.Goals as goal

pub int_to_float-result : goal.int_to_float-result
int_to_float-result c = search (rules, cast_exact)
