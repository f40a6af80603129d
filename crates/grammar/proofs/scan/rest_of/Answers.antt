-- `scan::rest_of` is all that stands from a place on.
use Rattle.whole.proofs.Slices.{all_from}
use Rattle.grammar.proofs.scan.rest_of.Goals as goal

pub returns : goal.returns
returns c = all_from c.args.s.now c.args.from
