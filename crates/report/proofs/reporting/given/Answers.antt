-- `given`: threes of numbers are the triples.
use Rattle.report.proofs.TripleLaws.{given_is}
use Rattle.std.proofs.Common.{rules}
use Rattle.report.proofs.reporting.given.Goals as goal

pub returns : goal.returns
returns c = search (rules, given_is)
