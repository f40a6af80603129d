-- `read_loose` meets its contract: each way out is a law of the reader, by what the tests and calls before it answered.
use mathlib.Core.Path.{◌∙◌}
use borrow.Author.Rules.{rules}
use Rattle.triple.proofs.RefusalLaws.{handed_on}
use Rattle.code.proofs.ReadLaws.{reading}
use Rattle.code.proofs.read_loose.Goals as goal

pub returns-then-bytes-eq0 : goal.returns-then-bytes-eq0
returns-then-bytes-eq0 c = search (rules, reading)

pub returns-in_err-domain_of : goal.returns-in_err-domain_of
returns-in_err-domain_of c = handed_on c.in_err-domain_of.field-0.0 _ c.from_residual.ensures.1 ∙ search (rules, reading, c.in_err-domain_of.was)

pub returns-then-bytes-used : goal.returns-then-bytes-used
returns-then-bytes-used c = search (rules, reading, c.in_ok-domain_of.was)

pub slice_bounds-joined-count : goal.slice_bounds-joined-count
slice_bounds-joined-count c = search (rules, reading, c.in_ok-domain_of.was)

pub slice_bounds-joined-start : goal.slice_bounds-joined-start
slice_bounds-joined-start c = search (rules, reading, c.in_ok-domain_of.was)

pub joined-requires : goal.joined-requires
joined-requires c = search (rules, reading, c.in_ok-domain_of.was)

pub reading_of-requires : goal.reading_of-requires
reading_of-requires c = search (rules, reading, c.in_ok-domain_of.was)

pub returns : goal.returns
returns c = search (rules, reading, c.in_ok-domain_of.was)
