-- `rows::write_numbers` writes number after number.
use Rattle.tables.proofs.StateNumberLaws.{pouring}
use borrow.Author.Rules.{rules}
use Rattle.tables.proofs.rows.write_numbers.Goals as goal

pub loop-j-preserved : goal.loop-j-preserved
loop-j-preserved c = search (rules, pouring)
