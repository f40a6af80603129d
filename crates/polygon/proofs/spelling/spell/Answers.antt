-- The two parts of a polygon, one after the other.
use Rattle.polygon.proofs.SpellLaws.{spelling}
use borrow.Author.Rules.{rules}
use Rattle.polygon.proofs.spelling.spell.Goals as goal

pub put_two-second-requires : goal.put_two-second-requires
put_two-second-requires c = search (rules, spelling)

pub put_rest-requires : goal.put_rest-requires
put_rest-requires c = search (rules, spelling)

pub returns : goal.returns
returns c = search (rules, spelling)
