-- `State::parts` has each part of the row.
use Rattle.tables.proofs.StateLaws.{stated}
use borrow.Author.Rules.{rules}
use Rattle.tables.proofs.accepted.State.parts.Goals as goal

pub invariant_of-result : goal.invariant_of-result
invariant_of-result c = record { tokened = search (rules, stated) }

pub returns : goal.returns
returns c = search (rules, stated)
