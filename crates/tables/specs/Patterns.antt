-- The child that a table chooses for a corner sum, any table: the sides of a state's three separators make a pattern, and the pattern has its child.
use Rattle.std.specs.Prelude.{ℕ, ◌+◌, ◌*◌, ◌^◌, List, ℤ, pos, negsuc, nat_abs, ◌+ℤ◌, ◌*ℤ◌}
use Rattle.std.specs.Int.Signed.{le_z}
use Rattle.turtle.specs.declared.AB.{AB}
use Rattle.classifier.specs.declared.Separator.{Separator}
use Rattle.tables.specs.Descent.{entry}
use Rattle.tables.specs.Table.{bit}

-- separator i of the state k
abbrev pub separator_at : List ℤ → ℕ → ℕ → Separator
separator_at t k i = record { x = entry t k (24 + 3 * i); y = entry t k (25 + 3 * i); c = entry t k (26 + 3 * i) }

-- its value at p, a corner sum as seen from the state's start, where the children are scaled by 2 ^ n
abbrev pub value_at : List ℤ → ℕ → ℕ → ℕ → AB → ℤ
value_at t n k i p = let s = separator_at t k i in s.x *ℤ p.a +ℤ s.y *ℤ p.b +ℤ s.c *ℤ pos (2 ^ n)

-- a separator's bit: 1 when its value is at least the threshold, -1 at every level
abbrev pub side_threshold : ℤ
side_threshold = negsuc 0

abbrev pub side_of : ℤ → ℕ
side_of value = bit (le_z side_threshold value)

-- bit i of a pattern is that of separator i; the child for each pattern
abbrev pub pattern_of : ℕ → ℕ → ℕ → ℕ
pattern_of first second third = first + 2 * second + 4 * third

abbrev pub choice_at : List ℤ → ℕ → ℕ → ℕ
choice_at t k pattern = nat_abs (entry t k (33 + pattern))

-- the child that is chosen for p
abbrev pub chosen_at : List ℤ → ℕ → ℕ → AB → ℕ
chosen_at t n k p = choice_at t k (pattern_of (side_of (value_at t n k 0 p)) (side_of (value_at t n k 1 p)) (side_of (value_at t n k 2 p)))
