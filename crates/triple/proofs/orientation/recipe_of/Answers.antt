-- `recipe_of` meets its contract: what its words hold for each of the six orientations, and what the definitions have past them.
use borrow.Author.Rules.{rules}
use Rattle.triple.proofs.OrientationLaws.{recipes}
use Rattle.triple.proofs.orientation.recipe_of.Goals as goal

pub returns-then-orientation-gt-GREATEST_ORIENTATION : goal.returns-then-orientation-gt-GREATEST_ORIENTATION
returns-then-orientation-gt-GREATEST_ORIENTATION c = search (rules, recipes)

pub returns : goal.returns
returns c = search (rules, recipes)
