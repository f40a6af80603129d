-- A part of a lent table: so many states from an entry on, 41 numbers each.
use Rattle.std.specs.Prelude.{Bool, List, ◌++◌, ℕ, ◌+◌, ◌*◌, ltb, ℤ, length, take, drop}

abbrev pub part_of : List ℤ → ℕ → ℕ → List ℤ
part_of table start states = take (41 * states) (drop start table)

-- 26: in a table of so many entries the part's start, or its end, is past the last
abbrev pub is_past : ℕ → ℕ → ℕ → Bool
is_past size start states = ltb size (start + 41 * states)

-- the table with other numbers in the place of those from an entry on
abbrev pub with_part : List ℤ → ℕ → List ℤ → List ℤ
with_part table start numbers = take start table ++ (numbers ++ drop (start + length numbers) table)
