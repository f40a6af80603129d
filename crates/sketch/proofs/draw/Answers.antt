-- `draw`: its tests are those of the definition, and what it writes is what `fill` leaves.
use borrow.Author.Rules.{rules}
use Rattle.sketch.proofs.DrawLaws.{drawing}
use Rattle.sketch.proofs.draw.Goals as goal

pub returns-then-resolution-eq0 : goal.returns-then-resolution-eq0
returns-then-resolution-eq0 c = search (rules, drawing)

pub returns-then-resolution-gt-GREATEST_PASSES : goal.returns-then-resolution-gt-GREATEST_PASSES
returns-then-resolution-gt-GREATEST_PASSES c = search (rules, drawing)

pub returns-then-orientation-gt-GREATEST_ORIENTATION : goal.returns-then-orientation-gt-GREATEST_ORIENTATION
returns-then-orientation-gt-GREATEST_ORIENTATION c = search (rules, drawing)

pub overflow_mul-entries : goal.overflow_mul-entries
overflow_mul-entries c = search (rules, drawing)

pub returns-then-out-entries : goal.returns-then-out-entries
returns-then-out-entries c = search (rules, drawing)

pub fill-requires : goal.fill-requires
fill-requires c = search (rules, drawing)

pub returns : goal.returns
returns c = search (rules, drawing)
