-- Worked examples of folding and unfolding, by computation.
use mathlib.Core.Path.{◌≡◌, refl}
use mathlib.Core.List.{[], ◌∷◌}
use Rattle.triple.specs.Refusals.{told, refused, number_of}
use Rattle.fold.specs.Cells.{cell, pairs, cells_in}
use Rattle.fold.specs.Folds.{has, has_all_of, all_below, ascending, whole, fold_in, fold_of, fold_call}
use Rattle.fold.specs.Unfolds.{shallow, inside, apart, ordered, run, unfold_of, unfold_call}

-- a list that is not cut at a cell's bounds; one that is all of resolution 0; none
pub fold_examples :
    (fold_of 2 (3 ∷ 4 ∷ 5 ∷ 6 ∷ 7 ∷ 8 ∷ []) ≡ cell 2 3 ∷ cell 1 1 ∷ cell 2 8 ∷ [])
    × (fold_of 2 (run 0 16) ≡ cell 0 0 ∷ [])
    × (fold_of 2 (1 ∷ 2 ∷ 3 ∷ 4 ∷ []) ≡ cell 2 1 ∷ cell 2 2 ∷ cell 2 3 ∷ cell 2 4 ∷ [])
    × (fold_of 0 (0 ∷ []) ≡ cell 0 0 ∷ [])
    × (fold_of 3 [] ≡ [])
    × (unfold_of 2 (cell 2 3 ∷ cell 1 1 ∷ cell 2 8 ∷ []) ≡ 3 ∷ 4 ∷ 5 ∷ 6 ∷ 7 ∷ 8 ∷ [])
unfolding has has_all_of whole fold_in fold_of run unfold_of
fold_examples = (refl, refl, refl, refl, refl, refl)

-- the pairs of the call, and its refusals in their order
pub call_examples :
    (fold_call 0 1 (0 ∷ 1 ∷ 2 ∷ 3 ∷ []) ≡ told (0 ∷ 0 ∷ []))
    × (fold_call 6 31 (1 ∷ 0 ∷ []) ≡ refused 1)
    × (fold_call 6 1 (4 ∷ 0 ∷ []) ≡ refused 2)
    × (fold_call 5 1 (1 ∷ 1 ∷ 4 ∷ []) ≡ refused 3)
    × (fold_call 5 1 (1 ∷ 1 ∷ []) ≡ refused 25)
    × (fold_call 5 1 (1 ∷ 2 ∷ []) ≡ told (1 ∷ 1 ∷ 1 ∷ 2 ∷ []))
    × (fold_call 5 1 [] ≡ told [])
unfolding number_of has has_all_of all_below ascending whole fold_in fold_of pairs fold_call
call_examples = (refl, refl, refl, refl, refl, refl, refl)

-- cells of three resolutions, and none; a pair finer than asked, before an orientation that there is not, before a position that its resolution
-- has not; a number without its partner, which is not looked at; two cells that overlap, and one that lies before the one in front of it
pub unfold_examples :
    (unfold_call 0 2 (2 ∷ 3 ∷ 1 ∷ 1 ∷ 2 ∷ 8 ∷ []) ≡ told (3 ∷ 4 ∷ 5 ∷ 6 ∷ 7 ∷ 8 ∷ []))
    × (unfold_call 5 30 [] ≡ told [])
    × (unfold_call 6 31 [] ≡ refused 1)
    × (unfold_call 6 1 (0 ∷ 7 ∷ 2 ∷ 0 ∷ []) ≡ refused 1)
    × (unfold_call 6 1 (0 ∷ 7 ∷ []) ≡ refused 2)
    × (unfold_call 5 1 (1 ∷ 1 ∷ 1 ∷ 0 ∷ 1 ∷ 4 ∷ []) ≡ refused 3)
    × (unfold_call 5 1 (31 ∷ []) ≡ refused 25)
    × (unfold_call 5 2 (1 ∷ 0 ∷ 2 ∷ 3 ∷ []) ≡ refused 25)
    × (unfold_call 5 1 (1 ∷ 1 ∷ 1 ∷ 0 ∷ []) ≡ refused 25)
unfolding number_of cells_in shallow inside apart ordered run unfold_of unfold_call
unfold_examples = (refl, refl, refl, refl, refl, refl, refl, refl, refl)
