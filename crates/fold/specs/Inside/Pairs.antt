-- How the code tests a list of pairs, and what the tests tell of its cells.
use Rattle.std.specs.Prelude.{false, cond, ◌&&◌, List, [], ◌∷◌, ℕ, suc, ◌-◌, ◌*◌, ◌^◌, ◌<◌, ◌≤◌, ltb, leb}
use Rattle.triple.specs.declared.refusal.Refusal.{Refusal}
use Rattle.triple.specs.declared.refusal.Refusal.TheVariants as Is
use Rattle.triple.specs.Domain.{greatest_orientation}
use Rattle.fold.specs.declared.pairs.Fault.{Fault}
use Rattle.fold.specs.declared.pairs.Fault.TheVariants as Test
use Rattle.fold.specs.declared.pairs.Seen.{Seen}
use Rattle.fold.specs.Cells.{Cell, cell, cells_in}

-- what is seen with one pair more
unfoldable pub seen_pair : ℕ → Seen → ℕ → ℕ → Seen
seen_pair r seen m p =
    cond (ltb p (4 ^ m))
    (record { bounded = seen.bounded; sorted = seen.sorted && leb seen.end (p * 4 ^ (r - m)); end = suc p * 4 ^ (r - m) })
    (record { bounded = false; sorted = seen.sorted; end = seen.end })

-- cells in curve order and apart, from a place at resolution r on
abbrev pub Laid : ℕ → ℕ → List Cell → Type 0
Laid r place [] = Unit {0}
Laid r place (cell m p ∷ cells) = (m ≤ r) × (p < 4 ^ m) × (place ≤ p * 4 ^ (r - m)) × Laid r (suc p * 4 ^ (r - m)) cells

-- pairs that the call takes
pub record Tested (r : ℕ) (xs : List ℕ) : Type 0 where
  pub low : r ≤ 30
  pub laid : Laid r 0 (cells_in xs)

-- what unfolding refuses a list by that fails a test: it tests the orientation behind the resolutions
abbrev pub refusal_at : ℕ → Fault → Refusal
refusal_at o Test.Resolution = Is.Resolution
refusal_at o Test.Position = cond (ltb greatest_orientation o) Is.Orientation Is.Position
refusal_at o Test.Order = cond (ltb greatest_orientation o) Is.Orientation Is.Order
