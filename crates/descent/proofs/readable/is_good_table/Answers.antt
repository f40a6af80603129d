-- `is_good_table`, test by test.
use Rattle.std.proofs.Common.{arith}
use Rattle.std.proofs.lemmas.Grind.{common_steps}
use Rattle.tables.specs.Descent.{good_table}
use Rattle.descent.proofs.readable.is_good_table.Goals as goal

pub returns-then-token-states : goal.returns-then-token-states
unfolding good_table
returns-then-token-states c = grind (arith, common_steps)

pub returns-else-token-states : goal.returns-else-token-states
unfolding good_table
returns-else-token-states c = grind (arith, common_steps)
