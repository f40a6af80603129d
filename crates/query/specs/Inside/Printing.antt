-- A line that is printed piece by piece.
use Rattle.std.specs.Prelude.{List, ℕ, ◌≤◌, length}
use Rattle.text.specs.Puts.{Put}

-- a text of at most so many bytes is put at a slice's front
pub record Printed (most : ℕ) (slice text after : List ℕ) (next : ℕ) : Type 0 where
  pub is_put : Put slice 0 text after next
  pub near : length text ≤ most
