-- Which bit patterns of an f64 are NaNs: those above the infinity's, the sign's bit dropped.
use mathlib.Core.Path.{◌≡◌, refl, sym, subst}
use mathlib.Core.Bool.{Bool, not}
use Prim.Native.Nat.{ℕ, ◌*◌, ◌%◌, ◌^◌, ◌≤◌, ◌<◌}
use lib.Arith.{le→nltb}
use lib.Dec.{T, lt→ltb}
use lib.Ieee.{Float, nan, inf, fin, binary64, of_bits, is_nan, nan_bits}
use lib.Ieee.Bits.{nan_bits_is, nan_bits_above}

pub nan_of : (b : ℕ) → 2047 * 2 ^ 52 < b % 2 ^ 63 → of_bits binary64 b ≡ nan
nan_of b h = is_nan_lem (of_bits binary64 b) (subst T (nan_bits_is binary64 b) (subst T (sym (nan_bits_above binary64 b)) (lt→ltb (2047 * 2 ^ 52) (b % 2 ^ 63) h)))
  where
    is_nan_lem : (x : Float) → T (is_nan x) → x ≡ nan
    is_nan_lem nan t = refl
    is_nan_lem (inf s) t = absurd (unfold is_nan in t)
    is_nan_lem (fin s m e) t = absurd (unfold is_nan in t)

pub no_nan_of : (b : ℕ) → b % 2 ^ 63 ≤ 2047 * 2 ^ 52 → T (not (nan_bits binary64 b))
no_nan_of b h = subst (λ (t : Bool). T (not t)) (sym (nan_bits_above binary64 b)) (le→nltb (2047 * 2 ^ 52) (b % 2 ^ 63) h)
