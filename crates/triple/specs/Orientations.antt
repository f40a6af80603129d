-- The six orientations by their numbers: 0 UV, 1 VU, 2 UW, 3 WU, 4 VW, 5 WV.
use Rattle.std.specs.Prelude.{Bool, cond, ◌||◌, ℕ, ◌+◌, ◌-◌, ◌^◌, leb, eqb, pos, ◌+ℤ◌, ◌-ℤ◌}
use Rattle.triple.specs.declared.Triple.{Triple}
use Rattle.triple.specs.declared.orientation.Recipe.{Recipe}

-- ---- how an orientation's curve is drawn
-- the axiom's motif: A for UV and VU, C for UW and WU, B for VW and WV; A, B and C are the motifs 0, 1 and 2
unfoldable pub axiom_motif : ℕ → ℕ
axiom_motif o = cond (leb o 1) 0 (cond (leb o 3) 2 1)

-- its letter
unfoldable pub axiom_of : ℕ → ℕ
axiom_of o = 65 + axiom_motif o

-- VU, WU and VW
unfoldable pub is_backward : ℕ → Bool
is_backward o = eqb o 1 || eqb o 3 || eqb o 4

-- VW and WV
unfoldable pub is_shifted : ℕ → Bool
is_shifted o = eqb o 4 || eqb o 5

unfoldable pub recipe_of : ℕ → Recipe
recipe_of o = record { motif = axiom_motif o; backward = is_backward o; shifted = is_shifted o }

-- ---- the place of a position
-- a place of n, or the place as far from the other end
unfoldable pub place_from : Bool → ℕ → ℕ → ℕ
place_from backward n place = cond backward (n - 1 - place) place

-- s, or 4 ^ r - 1 - s in its place
unfoldable pub curve_place : ℕ → ℕ → ℕ → ℕ
curve_place o r s = place_from (is_backward o) (4 ^ r) s

-- ---- where a triple is moved
-- (x, y, z), or (x - 2 ^ r, y + 2 ^ r, z)
unfoldable pub moved_by : Bool → ℕ → Triple → Triple
moved_by moves r t =
    cond moves (record { x = t.x -ℤ pos (2 ^ r); y = t.y +ℤ pos (2 ^ r); z = t.z }) t

unfoldable pub shifted : ℕ → ℕ → Triple → Triple
shifted o r t = moved_by (is_shifted o) r t
