-- The line that is printed into a lent buffer.
use Rattle.std.specs.Prelude.{List, ℕ}
use Rattle.triple.specs.Refusals.{Told}
use Rattle.text.specs.Words.{spaced}
use Rattle.query.specs.declared.Found.{Found}
use Rattle.query.specs.Lines.{found_words}

-- the line of what was found
abbrev pub found_text : Told Found → List ℕ
found_text found = spaced (found_words found)
