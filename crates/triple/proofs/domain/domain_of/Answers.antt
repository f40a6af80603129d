-- `domain_of` meets its contract: its tests are those of the definition.
use borrow.Author.Rules.{rules}
use Rattle.triple.proofs.DomainLaws.{domains}
use Rattle.triple.proofs.domain.domain_of.Goals as goal

pub returns-then-resolution-gt-GREATEST_RESOLUTION : goal.returns-then-resolution-gt-GREATEST_RESOLUTION
returns-then-resolution-gt-GREATEST_RESOLUTION c = search (rules, domains)

pub returns-then-orientation-gt-GREATEST_ORIENTATION : goal.returns-then-orientation-gt-GREATEST_ORIENTATION
returns-then-orientation-gt-GREATEST_ORIENTATION c = search (rules, domains)

pub returns : goal.returns
returns c = search (rules, domains)
