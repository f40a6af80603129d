-- Folding: whole cells in the place of the positions that they cover. The fold of a list, and what the call gives.
use Rattle.std.specs.Prelude.{Bool, true, false, not, cond, ◌&&◌, ◌||◌, List, [], ◌∷◌, ◌++◌, ℕ, zero, suc, ◌+◌, ◌*◌, ◌^◌, ltb, eqb}
use Rattle.triple.specs.declared.refusal.Refusal.TheVariants as Is
use Rattle.triple.specs.Refusals.{Told, told, refuse}
use Rattle.triple.specs.Domain.{in_domain}
use Rattle.fold.specs.Cells.{Cell, cell, pairs}

-- ---- lists of positions
-- s is in the list; and n positions from s on are
unfoldable pub has : List ℕ → ℕ → Bool
has [] s = false
has (x ∷ xs) s = eqb x s || has xs s

unfoldable pub has_all_of : List ℕ → ℕ → ℕ → Bool
has_all_of xs s zero = true
has_all_of xs s (suc n) = has xs (s + n) && has_all_of xs s n

unfoldable pub all_below : ℕ → List ℕ → Bool
all_below n [] = true
all_below n (x ∷ xs) = ltb x n && all_below n xs

unfoldable pub ascending : List ℕ → Bool
ascending [] = true
ascending (x ∷ []) = true
ascending (x ∷ y ∷ xs) = ltb x y && ascending (y ∷ xs)

-- ---- the fold
-- all positions of the cell q are in the list; it stands k resolutions above them
unfoldable pub whole : List ℕ → ℕ → ℕ → Bool
whole xs k q = has_all_of xs (q * 4 ^ k) (4 ^ k)

-- what lies in the cell q of resolution m: the cell, if it is whole; else what lies in its four children, down to the positions, which have none
unfoldable pub fold_in : List ℕ → ℕ → ℕ → ℕ → List Cell
fold_in xs zero m q = cond (whole xs zero q) (cell m q ∷ []) []
fold_in xs (suc k) m q =
    cond (whole xs (suc k) q) (cell m q ∷ [])
    (fold_in xs k (suc m) (4 * q) ++ (fold_in xs k (suc m) (4 * q + 1) ++ (fold_in xs k (suc m) (4 * q + 2) ++ fold_in xs k (suc m) (4 * q + 3))))

-- THE FOLD of a list at resolution r: what lies in the one cell of resolution 0
unfoldable pub fold_of : ℕ → List ℕ → List Cell
fold_of r xs = fold_in xs r 0 0

-- ---- the call
-- THE PAIRS that it writes; their room is the last test
unfoldable pub fold_call : ℕ → ℕ → List ℕ → Told (List ℕ)
fold_call o r xs =
    in_domain o r
    (refuse (not (all_below (4 ^ r) xs)) Is.Position
    (refuse (not (ascending xs)) Is.Order
    (told (pairs (fold_of r xs)))))
