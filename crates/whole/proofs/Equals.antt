-- Two whole numbers that the test finds the same are the same, and each is the same as itself.
use mathlib.Core.Path.{◌≡◌, subst}
use native.Mathlib.Omega.{arith}
use lib.Dec.{T, le→leb}
use lib.IntN.{ℤ, pos, negsuc}
use lib.Signed.{le_z, le_z_yes}
use Rattle.whole.specs.Tests.{equal}
use Rattle.whole.proofs.Bools.{both_left, both_right, both}
use Rattle.whole.proofs.Parts.{parts_le, eq_parts}

pub equal_sound : (x y : ℤ) → T (equal x y) → x ≡ y
equal_sound x y t =
    eq_parts x y (omega (arith, parts_le (le_z_yes {a = x} {b = y} (both_left (le_z x y) (le_z y x) t)), parts_le (le_z_yes {a = y} {b = x} (both_right (le_z x y) (le_z y x) t))))

le_self : (x : ℤ) → T (le_z x x)
le_self (pos n) = le→leb n n (omega arith)
le_self (negsuc n) = le→leb n n (omega arith)

pub equal_same : (x : ℤ) → T (equal x x)
equal_same x = both (le_z x x) (le_z x x) (le_self x) (le_self x)

pub is_equal : (x y : ℤ) → x ≡ y → T (equal x y)
is_equal x y e = subst (λ z. T (equal x z)) e (equal_same x)
