-- Areas: cells in curve order, none of them in another, as pairs of numbers in a list; the three operations on what they cover; two questions; and what a call gives.
use Rattle.std.specs.Prelude.{Bool, true, false, not, cond, ◌&&◌, ◌||◌, List, [], ◌∷◌, ℕ, zero, suc, ◌-◌, ◌*◌, ◌/◌, ◌^◌, eqb, length}
use Rattle.triple.specs.declared.refusal.Refusal.TheVariants as Is
use Rattle.triple.specs.Refusals.{Told, told, refuse}
use Rattle.triple.specs.Domain.{greatest_resolution}
use Rattle.triple.specs.Lent.{valued}
use Rattle.fold.specs.Cells.{Cell, cell, pairs, cells_in}
use Rattle.fold.specs.Folds.{fold_of}
use Rattle.fold.specs.Unfolds.{shallow, inside, ordered, unfold_call}
use Rattle.area.specs.declared.operation.Operation.{Operation}

-- ---- what areas cover
-- a position at resolution r is one of a cell's
unfoldable pub held : ℕ → List Cell → ℕ → Bool
held r [] s = false
held r (cell m p ∷ cells) s = eqb (s / 4 ^ (r - m)) p || held r cells s

abbrev pub kept : Operation → Bool → Bool → Bool
kept Operation.Union x y = x || y
kept Operation.Intersection x y = x && y
kept Operation.Difference x y = x && not y

-- a position that an operation keeps of two areas
unfoldable pub keeps : ℕ → Operation → List Cell → List Cell → ℕ → Bool
keeps r o a b s = kept o (held r a s) (held r b s)

-- those of the n positions from s on that f takes
unfoldable pub picked : (ℕ → Bool) → ℕ → ℕ → List ℕ
picked f s zero = []
picked f s (suc n) = cond (f s) (s ∷ picked f (suc s) n) (picked f (suc s) n)

-- THE AREA that an operation makes of two, by positions at resolution r: the fold of those that it keeps
unfoldable pub made : ℕ → Operation → List Cell → List Cell → List Cell
made r o a b = fold_of r (picked (keeps r o a b) 0 (4 ^ r))

-- ---- the calls on two areas
-- what is said of two lists that are areas; else the first of the tests that one of them fails
unfoldable pub tested : {A : Type 0} → List ℕ → List ℕ → Told A → Told A
tested a b said =
    refuse (not (shallow greatest_resolution (cells_in a) && shallow greatest_resolution (cells_in b))) Is.Resolution
    (refuse (not (inside (cells_in a) && inside (cells_in b))) Is.Position
    (refuse (not (ordered greatest_resolution a && ordered greatest_resolution b)) Is.Order said))

-- at resolution 30, of which every cell is made
unfoldable pub made_of : Operation → List ℕ → List ℕ → List Cell
made_of o a b = made greatest_resolution o (cells_in a) (cells_in b)

-- THE PAIRS that an operation writes; their room is the last test
unfoldable pub made_call : Operation → List ℕ → List ℕ → Told (List ℕ)
made_call o a b = tested a b (told (pairs (made_of o a b)))

-- ---- two questions of one area
-- HOW MANY cells of resolution r it covers: as many as there are positions that it unfolds to
unfoldable pub size_call : List ℕ → ℕ → Told ℕ
size_call a r = valued length (unfold_call 0 r a)

-- f takes all of the n positions from s on
unfoldable pub takes_all : (ℕ → Bool) → ℕ → ℕ → Bool
takes_all f s zero = true
takes_all f s (suc n) = f s && takes_all f (suc s) n

-- all positions of the cell p of resolution m are held
unfoldable pub contained : ℕ → List Cell → ℕ → ℕ → Bool
contained r cells m p = takes_all (held r cells) (p * 4 ^ (r - m)) (4 ^ (r - m))

-- WHETHER a cell is wholly inside; it is tested as if it were an area of itself
unfoldable pub contains_call : List ℕ → ℕ → ℕ → Told Bool
contains_call a m p = tested (m ∷ p ∷ []) a (told (contained greatest_resolution (cells_in a) m p))
