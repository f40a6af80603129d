-- Two corners and the closing, one after the other.
use Rattle.polygon.proofs.SpellLaws.{rest}
use borrow.Author.Rules.{rules}
use Rattle.polygon.proofs.spelling.put_rest.Goals as goal

pub put_corner-again-requires : goal.put_corner-again-requires
put_corner-again-requires c = search (rules, rest)

pub returns : goal.returns
returns c = search (rules, rest)
