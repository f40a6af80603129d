-- How the code goes along two areas at once: from a place on the curve at resolution 30, with a cursor in each, to the next place where one of them begins or ends.
use Rattle.std.specs.Prelude.{◌≡◌, List, [], ◌∷◌, ℕ, suc, ◌+◌, ◌-◌, ◌*◌, ◌%◌, ◌^◌, ◌<◌, ◌≤◌, length, drop}
use Rattle.fold.specs.Cells.{Cell, cell, cells_in}
use Rattle.fold.specs.Inside.Pairs.{Laid}
use Rattle.area.specs.declared.operation.Operation.{Operation}
use Rattle.area.specs.declared.cursors.Stretch.{Stretch}
use Rattle.area.specs.declared.cursors.Piece.{Piece}
use Rattle.area.specs.Areas.{held, keeps}

-- cells in curve order and apart, of which the first may begin before the place but does not end there
abbrev pub Ahead : ℕ → ℕ → List Cell → Type 0
Ahead r place [] = Unit {0}
Ahead r place (cell m p ∷ cells) = (m ≤ r) × (p < 4 ^ m) × (place < suc p * 4 ^ (r - m)) × Laid r (suc p * 4 ^ (r - m)) cells

-- the cells in front of the cursor end before the place; the one at the cursor does not
pub record Reached (xs : List ℕ) (place i : ℕ) : Type 0 where
  pub within : i ≤ length xs
  pub ahead : Ahead 30 place (cells_in (drop i xs))
  pub same : (s : ℕ) → place ≤ s → held 30 (cells_in (drop i xs)) s ≡ held 30 (cells_in xs) s

-- from a place on, up to an end, an area covers all or nothing
pub record Stretched (xs : List ℕ) (place i : ℕ) (x : Stretch) : Type 0 where
  pub more : place < x.end
  pub most : x.end ≤ 4 ^ 30 + 1
  pub level : (s : ℕ) → place ≤ s → s < x.end → held 30 (cells_in xs) s ≡ x.inside
  pub stays : (s : ℕ) → place ≤ s → s < x.end → Reached xs s i
  pub moves : Reached xs x.end x.next

-- and an operation keeps all of two areas, or nothing
pub record Pieced (o : Operation) (a b : List ℕ) (place : ℕ) (x : Piece) : Type 0 where
  pub more : place < x.end
  pub most : x.end ≤ 4 ^ 30 + 1
  pub level : (s : ℕ) → place ≤ s → s < x.end → keeps 30 o (cells_in a) (cells_in b) s ≡ x.inside
  pub left : Reached a x.end x.i
  pub right : Reached b x.end x.j

-- a cell that stands k resolutions above 30 begins at lo and ends at hi or before, and no larger one does
pub record Fits (lo hi k : ℕ) : Type 0 where
  pub within : k ≤ 30
  pub even : lo % 4 ^ k ≡ 0
  pub ends : lo + 4 ^ k ≤ hi
  pub top : k < 30 → lo % 4 ^ suc k ≡ 0 → hi < lo + 4 ^ suc k
