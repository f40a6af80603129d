-- The lead and two numbers, one after the other.
use Rattle.polygon.proofs.SpellLaws.{corner_put}
use borrow.Author.Rules.{rules}
use Rattle.polygon.proofs.spelling.put_corner.Goals as goal

pub returns : goal.returns
returns c = search (rules, corner_put)
