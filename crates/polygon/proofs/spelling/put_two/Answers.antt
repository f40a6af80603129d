-- The opening and two corners, one after the other.
use Rattle.polygon.proofs.SpellLaws.{front}
use borrow.Author.Rules.{rules}
use Rattle.polygon.proofs.spelling.put_two.Goals as goal

pub put_corner-requires : goal.put_corner-requires
put_corner-requires c = search (rules, front)

pub returns : goal.returns
returns c = search (rules, front)
