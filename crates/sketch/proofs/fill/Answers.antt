-- `fill`: the forward walk of the axiom's word, from where it starts, leaves the drawing.
use borrow.Author.Rules.{rules}
use Rattle.sketch.proofs.DrawLaws.{filling}
use Rattle.sketch.proofs.fill.Goals as goal

pub overflow_cast-recipe : goal.overflow_cast-recipe
overflow_cast-recipe c = search (rules, filling)

pub overflow_add-recipe : goal.overflow_add-recipe
overflow_add-recipe c = search (rules, filling)

pub met-requires : goal.met-requires
met-requires c = search (rules, filling)

pub returns : goal.returns
returns c = search (rules, filling)
