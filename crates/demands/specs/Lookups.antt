-- HOW MANY LOOKS a lookup takes: over A5's table, look by look, one pick by three separators at each level above the last, and at the last the leaves compared
-- in order until one is the cell's.
use Rattle.std.specs.Prelude.{◌≡◌, ◌↔◌, ℕ, ◌+◌, ◌-◌, ◌%◌, ◌≤◌}
use Rattle.triple.specs.declared.Triple.{Triple}
use Rattle.triple.specs.Refusals.{told, refused, ◌>>=◌}
use Rattle.triple.specs.Orientations.{curve_place}
use Rattle.turtle.specs.declared.AB.{AB}
use Rattle.tables.specs.Compiler.{table_for}
use Rattle.tables.specs.Patterns.{side_threshold, chosen_at}
use Rattle.a5.specs.A5.{a5_text}
use Rattle.a5.specs.A5Table.{a5_table}
use Rattle.a5.specs.Lookup.{chosen}
use Rattle.lsystem.specs.declared.Located.{Located}
use Rattle.lsystem.specs.Cells.{cell_of, position_of}
use Rattle.lsystem.specs.Looks.{looks_of, located_of}

-- of a triple whose lookup answers l
pub record Lookup (o r : ℕ) (t : Triple) (l : Located) : Type 0 where
  -- the position that it finds, look by look, is the drawing's: it names the triple, and it is the one that is answered
  pub names : (cell_of o r (looks_of o r t).place >>= λ c. told c.triple) ≡ told t
  pub found : l.position.s ≡ (looks_of o r t).place
  -- the reported numbers are those of its looks
  pub picks : l.picks ≡ (looks_of o r t).picks
  pub comparisons : l.comparisons ≡ (looks_of o r t).comparisons
  -- 0 and 0 at resolution 0
  pub none : r ≡ 0 → (l.picks ≡ 0) × (l.comparisons ≡ 0)
  -- from 1 up the picks are r - 1, and the comparisons one more than the last digit in the axiom's order: of s, or of 4 ^ r - 1 - s for VU, WU and VW
  pub levels : 1 ≤ r → l.picks ≡ r - 1
  pub last : 1 ≤ r → l.comparisons ≡ curve_place o r l.position.s % 4 + 1
  -- together at most r + 3
  pub most : l.picks + l.comparisons ≤ r + 3

pub record Lookups : Type 0 where
  -- the table that it looks into is the compiler's of A5's text
  pub table : table_for a5_text ≡ a5_table
  -- and its picks are those of any table: each bit is 1 where the separator's value is at least -1
  pub pick : (n k : ℕ) (p : AB) → chosen side_threshold n k p ≡ chosen_at a5_table n k p
  -- for every lookup that is answered
  pub looks : (o r : ℕ) (t : Triple) (l : Located) → located_of o r t ≡ told l → Lookup o r t l
  -- one that is refused tells the refusal's number, which is the position's, and no looks
  pub none : (o r : ℕ) (t : Triple) (n : ℕ) → (located_of o r t ≡ refused n) ↔ (position_of o r t ≡ refused n)
