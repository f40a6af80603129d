-- `lay`: each plan leaves its piece at the front of the slice.
use borrow.Author.Rules.{rules}
use Rattle.mend.proofs.PlanLaws.{laying}
use Rattle.mend.proofs.lay.Goals as goal

pub copy-requires : goal.copy-requires
copy-requires c = search (rules, laying)

pub returns-in-Copy : goal.returns-in-Copy
returns-in-Copy c = search (rules, laying)

pub returns-in-Anew : goal.returns-in-Anew
returns-in-Anew c = search (rules, laying)

pub returns-in-Drop : goal.returns-in-Drop
returns-in-Drop c = search (rules, laying)
