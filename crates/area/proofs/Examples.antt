-- Worked examples of areas, by computation: the operations at a small resolution, and the refusals in their order.
use mathlib.Core.Bool.{true, false}
use mathlib.Core.Path.{◌≡◌, refl}
use mathlib.Core.List.{[], ◌∷◌}
use Rattle.triple.specs.Refusals.{told, refused, number_of}
use Rattle.fold.specs.Cells.{cell, cells_in}
use Rattle.fold.specs.Folds.{has, has_all_of, whole, fold_in, fold_of}
use Rattle.fold.specs.Unfolds.{shallow, inside, apart, ordered, run, unfold_of, unfold_call}
use Rattle.area.specs.declared.operation.Operation.TheVariants as For
use Rattle.area.specs.Areas.{held, picked, keeps, made, tested, made_call, size_call, takes_all, contained, contains_call}

-- two halves of a cell; a cell with one of its children, and without it; areas that are not folded; a cell that is covered in parts
pub made_examples :
    (made 2 For.Union (cell 1 0 ∷ cell 1 1 ∷ []) (cell 1 2 ∷ cell 1 3 ∷ []) ≡ cell 0 0 ∷ [])
    × (made 2 For.Intersection (cell 1 1 ∷ []) (cell 2 3 ∷ cell 2 5 ∷ []) ≡ cell 2 5 ∷ [])
    × (made 2 For.Difference (cell 1 1 ∷ []) (cell 2 3 ∷ cell 2 5 ∷ []) ≡ cell 2 4 ∷ cell 2 6 ∷ cell 2 7 ∷ [])
    × (made 2 For.Union (cell 2 4 ∷ cell 2 5 ∷ []) (cell 2 5 ∷ cell 2 6 ∷ cell 2 7 ∷ []) ≡ cell 1 1 ∷ [])
    × (made 2 For.Difference (cell 0 0 ∷ []) (cell 2 15 ∷ []) ≡ cell 1 0 ∷ cell 1 1 ∷ cell 1 2 ∷ cell 2 12 ∷ cell 2 13 ∷ cell 2 14 ∷ [])
    × (contained 2 (cell 2 4 ∷ cell 2 5 ∷ cell 2 6 ∷ cell 2 7 ∷ []) 1 1 ≡ true)
    × (contained 2 (cell 2 4 ∷ cell 2 6 ∷ cell 2 7 ∷ []) 1 1 ≡ false)
unfolding has has_all_of whole fold_in fold_of held picked keeps made takes_all contained
made_examples = (refl, refl, refl, refl, refl, refl, refl)

-- 1 in the second list before 3 in the first; 3 in the second before 25 in the first; two cells that overlap; a number without its partner, which is not
-- looked at; a pair finer than asked, and two of other resolutions; a cell that there is not
pub refusal_examples :
    (made_call For.Union (0 ∷ 1 ∷ []) (31 ∷ 0 ∷ []) ≡ refused 1)
    × (made_call For.Intersection (1 ∷ 1 ∷ 1 ∷ 0 ∷ []) (1 ∷ 4 ∷ []) ≡ refused 3)
    × (made_call For.Difference (1 ∷ 1 ∷ 2 ∷ 7 ∷ []) [] ≡ refused 25)
    × (made_call For.Union [] (1 ∷ 1 ∷ 31 ∷ []) ≡ refused 25)
    × (size_call (1 ∷ 0 ∷ 2 ∷ 4 ∷ []) 1 ≡ refused 1)
    × (size_call (1 ∷ 0 ∷ 2 ∷ 4 ∷ []) 3 ≡ told 20)
    × (contains_call (1 ∷ 0 ∷ []) 1 4 ≡ refused 3)
unfolding number_of cells_in shallow inside apart ordered run unfold_of unfold_call tested made_call size_call contains_call
refusal_examples = (refl, refl, refl, refl, refl, refl, refl)
