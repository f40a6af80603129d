-- `verdict::fault_number`: each fault's own number.
use borrow.Author.Rules.{rules}
use Rattle.capi.proofs.VerdictLaws.{fault_numbers}
use Rattle.capi.proofs.verdict.fault_number.Goals as goal

pub returns-in-Unsound : goal.returns-in-Unsound
returns-in-Unsound c = search (rules, fault_numbers)

pub returns-in-Marked : goal.returns-in-Marked
returns-in-Marked c = search (rules, fault_numbers)

pub returns-in-Orientation : goal.returns-in-Orientation
returns-in-Orientation c = search (rules, fault_numbers)

pub returns-in-Overlap : goal.returns-in-Overlap
returns-in-Overlap c = search (rules, fault_numbers)
