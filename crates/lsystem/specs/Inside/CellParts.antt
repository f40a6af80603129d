-- The cell at a place, in the parts in which the code works it out.
use Rattle.std.specs.Prelude.{ℕ, ◌+◌, pos, ◌-ℤ◌}
use Rattle.triple.specs.declared.Triple.{Triple}
use Rattle.a5.specs.Inside.Spots.{walk, walk_flavor, triple_at}
use Rattle.lsystem.specs.declared.cell.Cell.{Cell}

-- the triple of a wedge of n rows by the first two numbers of its spot and its parity
unfoldable pub triple_by : ℕ → ℕ → ℕ → ℕ → Triple
triple_by n x y q = let column = pos (x + 1) -ℤ pos n in record { x = column; y = pos y; z = pos q -ℤ column -ℤ pos y }

-- the cell at the place s of the curve of the state k, with n levels above the leaf
unfoldable pub cell_by : ℕ → ℕ → ℕ → Cell
cell_by k n s = record { triple = triple_at n (walk n k s); flavor = walk_flavor n k s }
