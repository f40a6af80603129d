-- `scan::scan_text` cuts the text into its lines: after i turns the first i rows are lines, and their parts are kept.
use borrow.Author.Rules.{rules}
use Rattle.grammar.proofs.ScanLaws.{scanning}
use Rattle.grammar.proofs.scan.scan_text.Goals as goal

pub no_lines-requires : goal.no_lines-requires
no_lines-requires c = search (rules, scanning)

pub loop-so_far-init : goal.loop-so_far-init
loop-so_far-init c = search (rules, scanning)

pub returns-then-lines-eq8 : goal.returns-then-lines-eq8
returns-then-lines-eq8 c = search (rules, scanning)

pub rest_of-requires : goal.rest_of-requires
rest_of-requires c = search (rules, scanning)

pub first_row-row-requires : goal.first_row-row-requires
first_row-row-requires c = search (rules, scanning)

pub overflow_add-result : goal.overflow_add-result
overflow_add-result c = search (rules, scanning)

pub returns-in_default : goal.returns-in_default
returns-in_default c = search (rules, scanning)

pub with_row-so_far-requires : goal.with_row-so_far-requires
with_row-so_far-requires c = search (rules, scanning)

pub loop-so_far-smaller : goal.loop-so_far-smaller
loop-so_far-smaller c = search (rules, scanning)

pub loop-so_far-preserved : goal.loop-so_far-preserved
loop-so_far-preserved c = search (rules, scanning)

pub returns : goal.returns
returns c = search (rules, scanning)
