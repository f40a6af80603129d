-- `parity_of` meets its contract, by its one comparison.
use borrow.Author.Rules.{rules}
use lib.Ieee.{of_bits}
use Rattle.curve.proofs.PointLaws.{parities}
use Rattle.curve.proofs.parity_of.Goals as goal

pub returns-then-f-g : goal.returns-then-f-g
unfolding of_bits
returns-then-f-g c = search (rules, parities)

pub returns-else-f-g : goal.returns-else-f-g
unfolding of_bits
returns-else-f-g c = search (rules, parities)
