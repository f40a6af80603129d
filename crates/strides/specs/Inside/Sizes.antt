-- What a caller of the tables keeps of its place in them.
use Rattle.std.specs.Prelude.{◌≡◌, ℕ, ◌%◌, ◌<◌}

-- the first entry of one of the 37 rows of a walk
pub record OnRow (row : ℕ) : Type 0 where
  pub first : row % 64 ≡ 0
  pub small : row < 2368

-- the first entry of one of the 41 tiles of a search
pub record OnTile (row : ℕ) : Type 0 where
  pub first : row % 64 ≡ 0
  pub small : row < 2624
