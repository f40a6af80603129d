-- Which numbers are near: by two comparisons, and by any fraction that a number equals.
use mathlib.Core.Path.{◌≡◌, refl, sym, ◌∙◌}
use mathlib.Core.Bool.{Bool, true, false, not}
use Prim.Native.Nat.{ℕ, ◌*◌, ◌^◌, ◌≤◌}
use native.Mathlib.Nat.{mul_right_comm, mul-le-mul_right, le_of_mul-le-mul_right, le_trans, le_of_eq}
use lib.Dec.{T}
use lib.IntN.{pos}
use lib.Ieee.{Float, nan, inf, fin, up, down, le, is_nan}
use lib.Ieee.Fits.{down_pos}
use lib.Ieee.Exact.{HasValue}
use borrow.Author.Tests.{leb-true}
use Rattle.whole.proofs.Bools.{from_true}
use Rattle.whole.proofs.Floats.{within, in_range, out_low, out_high, within_not_nan}
use Rattle.curve.specs.Points.{near}

-- the range of `whole`, at 2 ^ 31
near_within : (x : Float) → within 31 x ≡ near x
unfolding within near
near_within nan = refl
near_within (inf s) = refl
near_within (fin s m e) = refl

-- what the two comparisons of the code tell
pub above_low : (x : Float) → le (fin true 1 (pos 31)) x ≡ true → le x (fin false 1 (pos 31)) ≡ near x
above_low x low = go (le x (fin false 1 (pos 31))) refl
  where
    go : (b : Bool) → le x (fin false 1 (pos 31)) ≡ b → b ≡ near x
    go true high = sym (in_range 31 x low high) ∙ near_within x
    go false high = sym (out_high 31 x high) ∙ near_within x

pub below_low : (x : Float) → le (fin true 1 (pos 31)) x ≡ false → false ≡ near x
below_low x low = sym (out_low 31 x low) ∙ near_within x

pub ruleset nearness = (above_low, below_low)

pub no_nan : (x : Float) → near x ≡ true → T (not (is_nan x))
no_nan x t = within_not_nan 31 x (from_true (near_within x ∙ t))

-- x is a / c in size
pub near_size : (x : Float) (s : Bool) (a c : ℕ) → near x ≡ true → HasValue x s a c → a ≤ 2 ^ 31 * c
unfolding near
near_size nan s a c t v = absurd v
near_size (inf z) s a c t v = absurd v
near_size (fin z m e) s a c t v =
    le_of_mul-le-mul_right
    (le_trans (le_of_eq (sym v.1)) (le_trans (mul-le-mul_right c (leb-true (m * up e) (2 ^ 31 * down e) t)) (le_of_eq (mul_right_comm (2 ^ 31) (down e) c))))
    (down_pos e)
