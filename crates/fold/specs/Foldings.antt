-- Folding step by step, in the words of the request: four children into their parent, wherever all four are there, again and again.
use Rattle.std.specs.Prelude.{◌≡◌, ℕ, suc, ◌+◌, ◌*◌, ◌<◌}
use mathlib.Core.List.{List, [], ◌∷◌, ◌++◌, Memᴰ}
use Rattle.fold.specs.Cells.{Cell, cell}

-- the positions of a list, as the cells of its resolution
abbrev pub cells_of : ℕ → List ℕ → List Cell
cells_of r [] = []
cells_of r (s ∷ xs) = cell r s ∷ cells_of r xs

-- the four children of the cell p of resolution m, and what comes after them
abbrev pub children : ℕ → ℕ → List Cell → List Cell
children m p back = cell (suc m) (4 * p) ∷ cell (suc m) (4 * p + 1) ∷ cell (suc m) (4 * p + 2) ∷ cell (suc m) (4 * p + 3) ∷ back

-- one step: four children that follow each other in a list give way to their parent
pub record Step (before after : List Cell) : Type 0 where
  pub m : ℕ
  pub p : ℕ
  pub front : List Cell
  pub back : List Cell
  pub four : before ≡ front ++ children m p back
  pub one : after ≡ front ++ (cell m p ∷ back)

-- steps come from a list to `last`
pub data Foldings (last : List Cell) : List Cell → Type 0 where
  ended : {cells : List Cell} → cells ≡ last → Foldings last cells
  further : {cells : List Cell} (next : List Cell) → Step cells next → Foldings last next → Foldings last cells

-- no step goes on from a list
abbrev pub Ended : List Cell → Type 0
Ended cells = (next : List Cell) → Step cells next → ⊥

-- no four siblings stand in a list together, wherever they stand
abbrev pub Lone : List Cell → Type 0
Lone cells = (m p : ℕ) → ((j : ℕ) → j < 4 → Memᴰ (cell (suc m) (4 * p + j)) cells) → ⊥
