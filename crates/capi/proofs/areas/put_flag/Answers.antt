-- `put_flag`: by its value.
use borrow.Author.Rules.{rules}
use Rattle.capi.proofs.AreaCallLaws.{flags}
use Rattle.capi.proofs.areas.put_flag.Goals as goal

pub returns-then-b : goal.returns-then-b
returns-then-b c = search (rules, flags)

pub returns : goal.returns
returns c = search (rules, flags)
