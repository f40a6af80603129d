-- Worked examples of points, by computation. A float fin s m e is m * 2 ^ e, negative where s is true.
use mathlib.Core.Path.{◌≡◌, refl}
use mathlib.Core.Bool.{Bool, false, true}
use Prim.Native.Nat.{◌+◌, ◌*◌, ◌^◌}
use lib.IntN.{ℤ, pos, negsuc}
use lib.Ieee.{nan, inf, fin, add, sub, le, of_int}
use Rattle.triple.specs.Refusals.{Told, told, refused, number_of}
use Rattle.curve.specs.declared.PointCell.{PointCell}
use Rattle.curve.specs.Points.{near, floor, fraction, parity, settled, is_moved, point_of}
use Rattle.curve.specs.ExactPoints.{fraction_of, beyond, exact_parity, exact_point_of}

abbrev at : ℤ → ℤ → ℤ → Bool → Told PointCell
at x y z moved = told (record { triple = record { x = x; y = y; z = z }; moved = moved })

-- cases 9 and 10: (2.0, 3.0) and (-0.25, 0.5); and the program's (0.5, 0.5)
pub point_examples :
    (point_of 1 (fin false 1 (pos 1)) (fin false 3 (pos 0)) ≡ at (negsuc 0) (pos 1) (pos 0) true)
    × (point_of 1 (fin true 1 (negsuc 1)) (fin false 1 (negsuc 0)) ≡ at (pos 0) (pos 1) (pos 0) true)
    × (point_of 1 (fin false 1 (negsuc 0)) (fin false 1 (negsuc 0)) ≡ at (pos 0) (pos 1) (pos 0) false)
unfolding number_of near floor fraction parity settled is_moved point_of add sub le of_int
point_examples = (refl, refl, refl)

-- the refusals in their order; 2 ^ 31 in size is not beyond it
pub refused_points :
    (point_of 31 nan nan ≡ refused 1)
    × (point_of 30 nan (fin false 0 (pos 0)) ≡ refused 9)
    × (point_of 30 (fin false 0 (pos 0)) (inf true) ≡ refused 9)
    × (point_of 30 (fin false (2 ^ 31 * 2 ^ 21 + 1) (negsuc 20)) (fin false 0 (pos 0)) ≡ refused 9)
    × (point_of 30 (fin false 1 (pos 31)) (fin true 1 (pos 31)) ≡ at (pos 0) (pos 1073741823) (negsuc 1073741822) true)
    × (point_of 30 (fin true 1 (pos 31)) (fin false 1 (pos 31)) ≡ at (negsuc 1073741822) (pos 1073741823) (pos 0) true)
unfolding number_of near floor fraction parity settled is_moved point_of add sub le of_int
refused_points = (refl, refl, refl, refl, refl, refl)

-- (-2^-60, 0): its fractions are 1 - 2^-60 and 0, and the f64's arithmetic has 1 and 0
pub left_of_the_edge :
    (point_of 1 (fin true 1 (negsuc 59)) (fin false 0 (pos 0)) ≡ at (pos 0) (pos 1) (pos 0) true)
    × (exact_point_of 1 (fin true 1 (negsuc 59)) (fin false 0 (pos 0)) ≡ at (pos 0) (pos 0) (pos 0) true)
unfolding number_of near floor fraction parity settled is_moved point_of add sub le of_int fraction_of beyond exact_parity exact_point_of
left_of_the_edge = (refl, refl)

-- on the line where the fractions sum to 1, and 2^-1074 short of it; refusals as without exact fractions
pub exact_examples :
    (exact_point_of 1 (fin false 1 (negsuc 0)) (fin false 1 (negsuc 0)) ≡ at (pos 0) (pos 1) (pos 0) false)
    × (exact_point_of 3 (fin false 3 (negsuc 0)) (fin true 1 (negsuc 1073)) ≡ at (pos 0) (pos 2) (negsuc 0) true)
    × (exact_point_of 3 (fin false 1 (negsuc 1073)) (fin false 1 (pos 0)) ≡ at (negsuc 0) (pos 1) (pos 0) false)
    × (exact_point_of 31 nan nan ≡ refused 1)
    × (exact_point_of 30 nan (fin false 0 (pos 0)) ≡ refused 9)
unfolding number_of near floor settled is_moved fraction_of beyond exact_parity exact_point_of
exact_examples = (refl, refl, refl, refl, refl)
