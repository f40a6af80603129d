-- `walk::turned` turns a flavor's low bit over with the heading's: to xor with one bit is to add without a carry.
use Rattle.turtle.proofs.LetterLaws.{flavor_turned, flavor_none}
use Rattle.turtle.proofs.walk.turned.Goals as goal

pub returns-in-Some : goal.returns-in-Some
returns-in-Some c = flavor_turned _ _ _ c.in-Some.is

pub returns-in-None : goal.returns-in-None
returns-in-None c = flavor_none _ _ c.in-None.is
