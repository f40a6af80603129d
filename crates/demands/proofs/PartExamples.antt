-- Parts, by computation: what is written to one, where it is past a table, and a descent in a table of one motif, written by hand, behind one entry
-- that is nobody's.
use mathlib.Core.Path.{◌≡◌, refl}
use mathlib.Core.Bool.{true, false}
use mathlib.Core.List.{List, [], ◌∷◌, ◌++◌}
use Prim.Native.Nat.{ℕ, ◌^◌}
use lib.IntN.{ℤ, pos, negsuc}
use lib.ListN.{replicate}
use Rattle.triple.specs.Refusals.{told, refused, number_of}
use Rattle.turtle.specs.Plane.{ab, origin, ◌⊕◌, thrice, doubled}
use Rattle.tables.specs.Descent.{entry, follow, readable_state, good_table, descent_of, descent_in}
use Rattle.tables.specs.Parts.{is_past, with_part}

pub part_examples :
    (with_part (pos 1 ∷ pos 2 ∷ pos 3 ∷ pos 4 ∷ []) 1 (pos 7 ∷ pos 8 ∷ []) ≡ pos 1 ∷ pos 7 ∷ pos 8 ∷ pos 4 ∷ [])
    × (is_past 164 0 4 ≡ false)
    × (is_past 164 1 4 ≡ true)
    × (is_past 164 164 0 ≡ false)
    × (is_past 164 165 0 ≡ true)
    × (is_past 164 (2 ^ 64) 0 ≡ true)
part_examples = (refl, refl, refl, refl, refl, refl)

-- each of the four states has itself for its children
abbrev places : List ℤ
places = pos 0 ∷ pos 0 ∷ pos 4 ∷ pos 0 ∷ pos 4 ∷ negsuc 3 ∷ pos 8 ∷ negsuc 3 ∷ []

abbrev row : ℕ → List ℤ
row k = pos k ∷ pos k ∷ pos k ∷ pos k ∷ (places ++ (places ++ (pos 0 ∷ pos 1 ∷ pos 2 ∷ pos 3 ∷ replicate 17 (pos 0))))

abbrev shared : List ℤ
shared = pos 9 ∷ (row 0 ++ (row 1 ++ (row 2 ++ row 3)))

pub descent_examples :
    (descent_in shared 1 4 1 0 3 ≡ told (record { sum = ab (pos 8) (negsuc 3); flavor = pos 3 }))
    × (descent_in shared 1 4 2 1 6 ≡ told (record { sum = ab (pos 16) (negsuc 3); flavor = pos 2 }))
    -- read from the entry before it: an offset is a child state
    × (descent_in shared 0 4 1 0 3 ≡ refused 22)
    -- past the table, whatever else is asked
    × (descent_in shared 2 4 1 0 3 ≡ refused 26)
    × (descent_in shared 1 5 31 7 (4 ^ 31) ≡ refused 26)
    × (descent_in shared 1 3 31 7 (4 ^ 31) ≡ refused 1)
    × (descent_in shared 1 3 30 7 (4 ^ 31) ≡ refused 22)
unfolding number_of origin ◌⊕◌ thrice doubled entry follow readable_state good_table descent_of descent_in
descent_examples = (refl, refl, refl, refl, refl, refl, refl)
