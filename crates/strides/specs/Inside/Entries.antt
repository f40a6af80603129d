-- How the tables' entries are packed.
use Rattle.std.specs.Prelude.{ℕ, ◌+◌, ◌*◌}
use Rattle.strides.specs.Walks.{walk_step, walk_end}
use Rattle.strides.specs.Searches.{search_step}

-- x in 4 bits, the row in the place of its first entry, from bit 6, and y from bit 11
unfoldable pub walk_entry : ℕ → ℕ
walk_entry i = let w = walk_step i in w.x + w.row + 2048 * w.y

-- x in 4 bits, y in 5, and the flavor
unfoldable pub end_entry : ℕ → ℕ
end_entry i = let e = walk_end i in e.x + 16 * e.y + 512 * e.flavor

-- the digits in 6 bits, and the row in the place of its first entry
unfoldable pub search_entry : ℕ → ℕ
search_entry i = let q = search_step i in q.s + q.row
