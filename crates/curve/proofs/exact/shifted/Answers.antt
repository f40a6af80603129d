-- `shifted` meets its contract: 64 places leave nothing of a u64.
use borrow.Author.Rules.{rules}
use Rattle.curve.proofs.PartLaws.{shifted_out}
use Rattle.curve.proofs.exact.shifted.Goals as goal

pub returns-else-places-lt64 : goal.returns-else-places-lt64
returns-else-places-lt64 c = search (rules, shifted_out)
