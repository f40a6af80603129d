-- Cells: the positions that they cover, and cells as pairs of numbers.
use Rattle.std.specs.Prelude.{◌⊎◌, ◌≡◌, List, [], ◌∷◌, ℕ, ◌-◌, ◌/◌, ◌^◌, ◌≤◌}

-- a cell: its resolution, and its position there
pub data Cell : Type 0 where
  cell : ℕ → ℕ → Cell

-- at resolution r it covers the positions of its descendants: those that begin with its digits
abbrev pub Covers : ℕ → Cell → ℕ → Type 0
Covers r (cell m p) s = (m ≤ r) × (s / 4 ^ (r - m) ≡ p)

abbrev pub Covered : ℕ → List Cell → ℕ → Type 0
Covered r [] s = ⊥
Covered r (c ∷ cells) s = Covers r c s ⊎ Covered r cells s

-- ---- as pairs: a resolution and a position each
unfoldable pub pairs : List Cell → List ℕ
pairs [] = []
pairs (cell m p ∷ cells) = m ∷ p ∷ pairs cells

-- the cells of a list of pairs; a number without its partner is no cell
unfoldable pub cells_in : List ℕ → List Cell
cells_in [] = []
cells_in (m ∷ []) = []
cells_in (m ∷ p ∷ xs) = cell m p ∷ cells_in xs
