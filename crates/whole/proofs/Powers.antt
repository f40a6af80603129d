-- Powers of four by powers of two.
use mathlib.Core.Path.{◌≡◌, refl}
use Prim.Native.Nat.{ℕ, zero, suc, ◌*◌, ◌^◌}
use native.Mathlib.Nat.{pow-suc, mul-suc}
use lib.Pow.{pow-add}

pub four_by_shift : (k : ℕ) → 2 ^ (2 * k) ≡ 4 ^ k
four_by_shift zero = refl
four_by_shift (suc k) = simp (mul-suc, pow-add, pow-suc, four_by_shift k)
