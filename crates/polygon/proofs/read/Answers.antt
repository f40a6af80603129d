-- `read` meets its contract: each way out is a law of the reader, by what the calls before it answered.
use Rattle.polygon.proofs.ReadLaws.{reading}
use borrow.Author.Rules.{rules}
use Rattle.polygon.proofs.read.Goals as goal

pub returns-then-resolution-gt-GREATEST_RESOLUTION : goal.returns-then-resolution-gt-GREATEST_RESOLUTION
returns-then-resolution-gt-GREATEST_RESOLUTION c = search (rules, reading)

pub returns-in_default : goal.returns-in_default
returns-in_default c = search (rules, reading)

pub returns-then-not-in_bounds : goal.returns-then-not-in_bounds
returns-then-not-in_bounds c = search (rules, reading)

pub returns : goal.returns
returns c = search (rules, reading)
