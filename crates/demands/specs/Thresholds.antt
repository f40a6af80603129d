-- WHY MINUS ONE IS SAFE: a separator's value at a cell is a multiple of 48 and never 0, so every whole threshold from -47 to 48 picks the digits that -1 picks.
use Rattle.std.specs.Prelude.{◌≡◌, ℕ, suc, ◌+◌, ◌*◌, ◌<◌, ℤ, pos, negsuc, ◌*ℤ◌, ◌≤ℤ◌}
use Rattle.triple.specs.declared.Triple.{Triple}
use Rattle.triple.specs.Refusals.{told, ◌>>=◌}
use Rattle.turtle.specs.declared.AB.{AB}
use Rattle.turtle.specs.Plane.{origin}
use Rattle.turtle.specs.Corners.{corner_sum}
use Rattle.tables.specs.Descent.{follow}
use Rattle.tables.specs.Patterns.{side_threshold}
use Rattle.a5.specs.A5Table.{a5_table}
use Rattle.a5.specs.Lookup.{separator_value, chosen}
use Rattle.lsystem.specs.Cells.{cell_of}
use Rattle.lsystem.specs.Looks.{looked_up, AtLooks, looks_of}

-- v is m times a whole number
pub record Multiple (m : ℕ) (v : ℤ) : Type 0 where
  pub part : ℤ
  pub is : v ≡ pos m *ℤ part

-- every separator's value is a multiple of 48; and none is 0. The state is k, its children are of the scale 2 ^ n, and p is the corner sum from the state's start
abbrev pub Multiples : ℕ → ℕ → AB → Type 0
Multiples n k p = (i : ℕ) → i < 3 → Multiple 48 (separator_value n k i p)

abbrev pub NoZero : ℕ → ℕ → AB → Type 0
NoZero n k p = (i : ℕ) → i < 3 → separator_value n k i p ≡ pos 0 → ⊥

-- a threshold that serves as well as the lookup's own, -1
pub record Serves (threshold : ℤ) (o r : ℕ) (t : Triple) : Type 0 where
  -- at each state that the lookup passes through it picks the same digit
  pub digits : AtLooks (λ n k p. chosen threshold n k p ≡ chosen side_threshold n k p) side_threshold o r t
  -- so that the whole lookup finds the same, by as many looks
  pub looks : looked_up threshold o r t ≡ looks_of o r t
  -- and the position is the drawing's
  pub names : (cell_of o r (looked_up threshold o r t).place >>= λ c. told c.triple) ≡ told t

-- of a triple in bounds at a resolution from 2 to 30, in any orientation
pub record Threshold (o r : ℕ) (t : Triple) : Type 0 where
  -- at each state that its lookup passes through every separator's value is a multiple of 48
  pub multiples : AtLooks Multiples side_threshold o r t
  -- so any whole threshold from -47 to 0 picks the same digits
  pub serves : (threshold : ℤ) → negsuc 46 ≤ℤ threshold → threshold ≤ℤ pos 0 → Serves threshold o r t
  -- and since no value is 0, so does any up to 48
  pub no_zero : AtLooks NoZero side_threshold o r t
  pub serves_wider : (threshold : ℤ) → negsuc 46 ≤ℤ threshold → threshold ≤ℤ pos 48 → Serves threshold o r t

-- two cells of resolution 2, next to the first separator of the state A on either side
abbrev pub low : Triple
low = record { x = pos 0; y = pos 2; z = negsuc 0 }

abbrev pub high : Triple
high = record { x = pos 0; y = pos 2; z = negsuc 1 }

pub record Thresholds : Type 0 where
  -- of each of the 28 states, at every cell s of its own curve, however many levels that has: the cells for which a lookup can come to that state
  pub states : (n k s : ℕ) → k < 28 → Multiples n k (follow a5_table (suc n) origin k s).sum
  pub states_no_zero : (n k s : ℕ) → k < 28 → NoZero n k (follow a5_table (suc n) origin k s).sum
  -- no threshold below serves: at a cell where the first separator of the state A is at -48 every one from there down picks child 3, and not child 0
  pub below : (threshold : ℤ) → threshold ≤ℤ negsuc 47 → chosen threshold 0 0 (corner_sum low) ≡ 3
  pub below_own : (separator_value 0 0 0 (corner_sum low) ≡ negsuc 47) × (chosen side_threshold 0 0 (corner_sum low) ≡ 0)
  -- nor does any above: at a cell where it is at 48 every one from 49 up picks child 0, and not child 3
  pub above : (threshold : ℤ) → pos 49 ≤ℤ threshold → chosen threshold 0 0 (corner_sum high) ≡ 0
  pub above_own : (separator_value 0 0 0 (corner_sum high) ≡ pos 48) × (chosen side_threshold 0 0 (corner_sum high) ≡ 3)
  -- there the lookup in UV at resolution 2 comes to no leaf of the cell, and ends behind the last leaf of the wrong child
  pub below_finds : ((looks_of 0 2 low).place ≡ 3) × ((looked_up (negsuc 47) 0 2 low).place ≡ 3 * 4 + 4)
  pub above_finds : ((looks_of 0 2 high).place ≡ 14) × ((looked_up (pos 49) 0 2 high).place ≡ 0 * 4 + 4)
