-- One store, or none.
use Rattle.text.proofs.PutLaws.{lead_laws}
use borrow.Author.Rules.{rules}
use Rattle.text.proofs.put.write_lead.Goals as goal

pub returns-then-lead : goal.returns-then-lead
returns-then-lead c = search (rules, lead_laws)

pub returns : goal.returns
returns c = search (rules, lead_laws)
