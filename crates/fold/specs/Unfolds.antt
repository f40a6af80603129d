-- Unfolding: the positions in the place of the cells that cover them. The tests of a list of pairs, and what the call gives.
use Rattle.std.specs.Prelude.{Bool, true, not, cond, ◌&&◌, List, [], ◌∷◌, ◌++◌, ℕ, zero, suc, ◌-◌, ◌*◌, ◌%◌, ◌^◌, ltb, leb, eqb, length, Result, Ok, Err}
use Rattle.triple.specs.declared.refusal.Refusal.{Refusal}
use Rattle.triple.specs.declared.refusal.Refusal.TheVariants as Is
use Rattle.triple.specs.Refusals.{Told, told, refuse}
use Rattle.triple.specs.Domain.{greatest_resolution, at_resolution, in_orientation}
use Rattle.fold.specs.declared.pairs.Fault.{Fault}
use Rattle.fold.specs.declared.pairs.Fault.TheVariants as Test
use Rattle.fold.specs.Cells.{Cell, cell, cells_in}

-- ---- the tests of a list of pairs
-- no cell is finer than resolution r
unfoldable pub shallow : ℕ → List Cell → Bool
shallow r [] = true
shallow r (cell m p ∷ cells) = leb m r && shallow r cells

-- each has a position of its resolution
unfoldable pub inside : List Cell → Bool
inside [] = true
inside (cell m p ∷ cells) = ltb p (4 ^ m) && inside cells

-- the first begins at the place or behind it, and each further one where the one before it ends, or behind that; by positions at resolution r
unfoldable pub apart : ℕ → ℕ → List Cell → Bool
apart r place [] = true
apart r place (cell m p ∷ cells) = leb place (p * 4 ^ (r - m)) && apart r (suc p * 4 ^ (r - m)) cells

-- each number has its partner, and the cells are in curve order, none of them in another
unfoldable pub ordered : ℕ → List ℕ → Bool
ordered r xs = eqb (length xs % 2) 0 && apart r 0 (cells_in xs)

-- how many of the three are passed, in their order: resolutions, positions, order
unfoldable pub passes : ℕ → List ℕ → ℕ
passes r xs = cond (leb r greatest_resolution && shallow r (cells_in xs)) (cond (inside (cells_in xs)) (cond (ordered r xs) 3 2) 1) 0

-- how many come before each of the three; and how many are passed, as a list's reading gives its cells or the first test that it fails
abbrev pub passed_before : Fault → ℕ
passed_before Test.Resolution = 0
passed_before Test.Position = 1
passed_before Test.Order = 2

abbrev pub passed_by : {A : Type 0} → Result A Fault → ℕ
passed_by (Ok a) = 3
passed_by (Err fault) = passed_before fault

-- the refusal by each of the three
abbrev pub refusal_for : Fault → Refusal
refusal_for Test.Resolution = Is.Resolution
refusal_for Test.Position = Is.Position
refusal_for Test.Order = Is.Order

-- ---- unfolding to resolution r
-- n positions from s on
unfoldable pub run : ℕ → ℕ → List ℕ
run s zero = []
run s (suc n) = s ∷ run (suc s) n

-- THE POSITIONS that cells cover, cell after cell
unfoldable pub unfold_of : ℕ → List Cell → List ℕ
unfold_of r [] = []
unfold_of r (cell m p ∷ cells) = run (p * 4 ^ (r - m)) (4 ^ (r - m)) ++ unfold_of r cells

-- ---- the call
-- THE POSITIONS that it writes; their room is the last test
unfoldable pub unfold_call : ℕ → ℕ → List ℕ → Told (List ℕ)
unfold_call o r xs =
    at_resolution r
    (refuse (not (shallow r (cells_in xs))) Is.Resolution
    (in_orientation o
    (refuse (not (inside (cells_in xs))) Is.Position
    (refuse (not (ordered r xs)) Is.Order
    (told (unfold_of r (cells_in xs)))))))
