-- `is_moved` meets its contract, test by test.
use borrow.Author.Rules.{rules}
use Rattle.curve.proofs.MoveLaws.{moving}
use Rattle.curve.proofs.is_moved.Goals as goal

pub returns-then-n-lt0 : goal.returns-then-n-lt0
returns-then-n-lt0 c = search (rules, moving)

pub returns-else-n-lt0 : goal.returns-else-n-lt0
returns-else-n-lt0 c = search (rules, moving)
