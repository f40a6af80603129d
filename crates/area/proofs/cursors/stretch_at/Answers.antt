-- `stretch_at`: the cell at the cursor, if there is one, begins behind the place or holds it.
use borrow.Author.Rules.{rules}
use Rattle.area.proofs.CursorLaws.{stretching}
use Rattle.area.proofs.cursors.stretch_at.Goals as goal

pub returns-then-a-i-lt2 : goal.returns-then-a-i-lt2
returns-then-a-i-lt2 c = search (rules, stretching)

pub overflow_sub-a-2 : goal.overflow_sub-a-2
overflow_sub-a-2 c = search (rules, stretching)

pub overflow_mul-first : goal.overflow_mul-first
overflow_mul-first c = search (rules, stretching)

pub returns-then-place-first : goal.returns-then-place-first
returns-then-place-first c = search (rules, stretching)

pub returns : goal.returns
returns c = search (rules, stretching)
