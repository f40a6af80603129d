-- Worked examples of polygons, by computation.
use mathlib.Core.Path.{◌≡◌, refl}
use mathlib.Core.List.{List, [], ◌∷◌, ◌++◌}
use Prim.Native.Nat.{ℕ}
use lib.IntN.{ℤ, pos}
use Rattle.triple.specs.declared.Triple.{Triple}
use Rattle.triple.specs.Refusals.{told, refused, number_of}
use Rattle.triple.specs.Triples.{is_in_bounds}
use Rattle.text.specs.Digits.{digit_of}
use Rattle.text.specs.Decimals.{is_decimal, up_to, signed, digit_count, decimal_length, decimal_at, digits, natural, integer}
use Rattle.turtle.specs.Plane.{◌⊕◌}
use Rattle.turtle.specs.Corners.{corner_sum}
use Rattle.polygon.specs.Polygons.{cell_corners, corner_text, ring_text, wkt_of, corner_at, parity_from, starting_at, narrow, same_text, spelled_cell, cell_of_wkt}

abbrev cell : ℤ → ℤ → ℤ → Triple
cell x y z = record { x = x; y = y; z = z }

-- POLYGON ((0 0, 4 -4, 4 0, 0 0)) and POLYGON ((4 -4, 8 -4, 4 0, 4 -4))
abbrev zeros : List ℕ
zeros = 80 ∷ 79 ∷ 76 ∷ 89 ∷ 71 ∷ 79 ∷ 78 ∷ 32 ∷ 40 ∷ 40 ∷ 48 ∷ 32 ∷ 48 ∷ 44 ∷ 32 ∷ 52 ∷ 32 ∷ 45 ∷ 52 ∷ 44 ∷ 32 ∷ 52 ∷ 32 ∷ 48 ∷ 44 ∷ 32 ∷ 48 ∷ 32 ∷ 48 ∷ 41 ∷ 41 ∷ []

abbrev beside : List ℕ
beside = 80 ∷ 79 ∷ 76 ∷ 89 ∷ 71 ∷ 79 ∷ 78 ∷ 32 ∷ 40 ∷ 40 ∷ 52 ∷ 32 ∷ 45 ∷ 52 ∷ 44 ∷ 32 ∷ 56 ∷ 32 ∷ 45 ∷ 52 ∷ 44 ∷ 32 ∷ 52 ∷ 32 ∷ 48 ∷ 44 ∷ 32 ∷ 52 ∷ 32 ∷ 45 ∷ 52 ∷ 41 ∷ 41 ∷ []

-- the cell (0, 0, 0), and its neighbor (0, 1, 0) at resolution 1; the refusals in their order
pub write_examples :
    (wkt_of 0 (cell (pos 0) (pos 0) (pos 0)) ≡ told zeros)
    × (wkt_of 1 (cell (pos 0) (pos 1) (pos 0)) ≡ told beside)
    × (wkt_of 31 (cell (pos 1) (pos 1) (pos 0)) ≡ refused 1)
    × (wkt_of 30 (cell (pos 1) (pos 1) (pos 0)) ≡ refused 4)
    × (wkt_of 0 (cell (pos 0) (pos 1) (pos 0)) ≡ refused 5)
unfolding number_of is_in_bounds digits natural integer ◌⊕◌ corner_sum cell_corners corner_text ring_text wkt_of
write_examples = (refl, refl, refl, refl, refl)

-- other spellings of the cell (0, 0, 0), in turn: a space more, a leading zero, -0, another first corner, the other way round
abbrev spaced : List ℕ
spaced = 80 ∷ 79 ∷ 76 ∷ 89 ∷ 71 ∷ 79 ∷ 78 ∷ 32 ∷ 40 ∷ 40 ∷ 48 ∷ 32 ∷ 32 ∷ 48 ∷ 44 ∷ 32 ∷ 52 ∷ 32 ∷ 45 ∷ 52 ∷ 44 ∷ 32 ∷ 52 ∷ 32 ∷ 48 ∷ 44 ∷ 32 ∷ 48 ∷ 32 ∷ 48 ∷ 41 ∷ 41 ∷ []

abbrev led : List ℕ
led = 80 ∷ 79 ∷ 76 ∷ 89 ∷ 71 ∷ 79 ∷ 78 ∷ 32 ∷ 40 ∷ 40 ∷ 48 ∷ 48 ∷ 32 ∷ 48 ∷ 44 ∷ 32 ∷ 52 ∷ 32 ∷ 45 ∷ 52 ∷ 44 ∷ 32 ∷ 52 ∷ 32 ∷ 48 ∷ 44 ∷ 32 ∷ 48 ∷ 32 ∷ 48 ∷ 41 ∷ 41 ∷ []

abbrev negative : List ℕ
negative = 80 ∷ 79 ∷ 76 ∷ 89 ∷ 71 ∷ 79 ∷ 78 ∷ 32 ∷ 40 ∷ 40 ∷ 45 ∷ 48 ∷ 32 ∷ 48 ∷ 44 ∷ 32 ∷ 52 ∷ 32 ∷ 45 ∷ 52 ∷ 44 ∷ 32 ∷ 52 ∷ 32 ∷ 48 ∷ 44 ∷ 32 ∷ 48 ∷ 32 ∷ 48 ∷ 41 ∷ 41 ∷ []

abbrev turned : List ℕ
turned = 80 ∷ 79 ∷ 76 ∷ 89 ∷ 71 ∷ 79 ∷ 78 ∷ 32 ∷ 40 ∷ 40 ∷ 52 ∷ 32 ∷ 45 ∷ 52 ∷ 44 ∷ 32 ∷ 52 ∷ 32 ∷ 48 ∷ 44 ∷ 32 ∷ 48 ∷ 32 ∷ 48 ∷ 44 ∷ 32 ∷ 52 ∷ 32 ∷ 45 ∷ 52 ∷ 41 ∷ 41 ∷ []

abbrev reversed : List ℕ
reversed = 80 ∷ 79 ∷ 76 ∷ 89 ∷ 71 ∷ 79 ∷ 78 ∷ 32 ∷ 40 ∷ 40 ∷ 48 ∷ 32 ∷ 48 ∷ 44 ∷ 32 ∷ 52 ∷ 32 ∷ 48 ∷ 44 ∷ 32 ∷ 52 ∷ 32 ∷ 45 ∷ 52 ∷ 44 ∷ 32 ∷ 48 ∷ 32 ∷ 48 ∷ 41 ∷ 41 ∷ []

-- two corners that no cell has
abbrev halved : List ℕ
halved = 80 ∷ 79 ∷ 76 ∷ 89 ∷ 71 ∷ 79 ∷ 78 ∷ 32 ∷ 40 ∷ 40 ∷ 50 ∷ 32 ∷ 48 ∷ 44 ∷ 32 ∷ 54 ∷ 32 ∷ 45 ∷ 52 ∷ 44 ∷ 32 ∷ 54 ∷ 32 ∷ 48 ∷ 44 ∷ 32 ∷ 50 ∷ 32 ∷ 48 ∷ 41 ∷ 41 ∷ []

-- what is read back, what is out of bounds, and what is no cell's polygon; the resolution is tested first
pub read_examples :
    (cell_of_wkt 0 zeros ≡ told (cell (pos 0) (pos 0) (pos 0)))
    × (cell_of_wkt 1 beside ≡ told (cell (pos 0) (pos 1) (pos 0)))
    × (cell_of_wkt 0 beside ≡ refused 5)
    × (cell_of_wkt 31 [] ≡ refused 1)
    × (cell_of_wkt 0 [] ≡ refused 27)
    × (cell_of_wkt 0 (zeros ++ (10 ∷ [])) ≡ refused 27)
    × (cell_of_wkt 0 spaced ≡ refused 27)
    × (cell_of_wkt 0 led ≡ refused 27)
    × (cell_of_wkt 0 negative ≡ refused 27)
    × (cell_of_wkt 0 turned ≡ refused 27)
    × (cell_of_wkt 0 reversed ≡ refused 27)
    × (cell_of_wkt 0 halved ≡ refused 27)
unfolding number_of is_in_bounds digit_of is_decimal up_to signed digit_count decimal_length decimal_at digits natural integer ◌⊕◌ corner_sum cell_corners corner_text ring_text corner_at parity_from starting_at narrow same_text spelled_cell cell_of_wkt
read_examples = (refl, refl, refl, refl, refl, refl, refl, refl, refl, refl, refl, refl)
