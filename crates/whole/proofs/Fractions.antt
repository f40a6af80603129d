-- Equal fractions a / c and b / d have the same whole part, rounded down and rounded up.
use mathlib.Core.Path.{◌≡◌, sym, ap, ◌∙◌}
use Prim.Native.Nat.{ℕ, ◌+◌, ◌-◌, ◌*◌, ◌/◌, ◌<◌, ◌≤◌}
use native.Mathlib.Omega.{arith}
use native.Mathlib.Nat.{mul_comm, mul_right_comm, add-mul, div-add-mod', mod-lt, mul-le-mul_right, mul-lt-mul_of_pos_right, le_of_mul-le-mul_right, lt_of_mul-lt-mul_right, mul-div-mul_right, div-eq_of_lt-le, add-div_right}

-- the whole part rounded up is the number q with b ≤ q * d < b + d
up_bounds : (b d : ℕ) → 0 < d → (b ≤ (b + (d - 1)) / d * d) × ((b + (d - 1)) / d * d < b + d)
up_bounds b d D = omega (arith, div-add-mod' (b + (d - 1)) d, mod-lt (b + (d - 1)) D)

up_is : (a c q : ℕ) → a ≤ q * c → q * c < a + c → (a + (c - 1)) / c ≡ q
up_is a c q h l = div-eq_of_lt-le c (omega arith) (omega (arith, add-mul q 1 c))

module _ (a c b d : ℕ) (C : 0 < c) (D : 0 < d) (e : a * d ≡ b * c) where
  pub same_down : a / c ≡ b / d
  same_down = sym (mul-div-mul_right a c D) ∙ ap (λ (n : ℕ). n / (c * d)) e ∙ ap (λ (n : ℕ). b * c / n) (mul_comm c d) ∙ mul-div-mul_right b d C

  pub same_up : (a + (c - 1)) / c ≡ (b + (d - 1)) / d
  same_up =
      let q = (b + (d - 1)) / d in
      let h = up_bounds b d D in
      let swap = mul_right_comm q c d in
      up_is a c q
      (le_of_mul-le-mul_right (omega (arith, mul-le-mul_right c h.0)) D)
      (lt_of_mul-lt-mul_right d (omega (arith, mul-lt-mul_of_pos_right h.1 C, add-mul a c d, add-mul b d c, mul_comm c d)))

-- above 0, it is one more than the whole part of what is just short of it
pub up_by_less : (d c : ℕ) → 0 < d → 0 < c → (d + (c - 1)) / c ≡ (d - 1) / c + 1
up_by_less d c D C = ap (λ (n : ℕ). n / c) (short d c D C) ∙ add-div_right (d - 1) C
  where
    short : (d c : ℕ) → 0 < d → 0 < c → d + (c - 1) ≡ d - 1 + c
    short d c D C = omega arith
