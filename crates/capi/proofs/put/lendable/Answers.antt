-- `lendable`: its two cases are those of the definition.
use borrow.Author.Rules.{rules}
use borrow.Author.Tests.{lt-ltb, le-ltb}
use Rattle.capi.proofs.put.lendable.Goals as goal

pub returns-then-out-lt1 : goal.returns-then-out-lt1
returns-then-out-lt1 c = (search rules, rw (lt-ltb _ _ c.if-out-lt1.true))

pub returns : goal.returns
returns c = (search rules, rw (le-ltb _ _ c.if-out-lt1.false))
