-- `scan::with_row` keeps where the parts of the row at hand stand.
use Rattle.grammar.proofs.ScanLaws.{scanning}
use borrow.Author.Rules.{rules}
use Rattle.grammar.proofs.scan.with_row.Goals as goal

pub returns : goal.returns
returns c = search (rules, scanning)
