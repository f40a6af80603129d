-- The digits of a number to the base 4, and powers of 2 and 4: by the laws of division at a power.
use mathlib.Core.Path.{◌≡◌, sym, ap, ◌∙◌}
use Prim.Native.Nat.{ℕ, suc, ◌+◌, ◌*◌, ◌/◌, ◌%◌, ◌^◌, ◌<◌, ◌≤◌}
use native.Mathlib.Omega.{arith}
use native.Mathlib.Nat as N

-- ---- powers
pub two_power : (n : ℕ) → 0 < 2 ^ n
two_power n = N.one-le-pow n 2 (omega arith)

pub four_power : (n : ℕ) → 0 < 4 ^ n
four_power n = N.one-le-pow n 4 (omega arith)

pub twice_power : (n : ℕ) → 2 ^ suc n ≡ 2 * 2 ^ n
twice_power n = omega arith

pub four_times_power : (n : ℕ) → 4 ^ suc n ≡ 4 * 4 ^ n
four_times_power n = omega arith

-- ---- the digit at n, a power of 4, and what stands below it
-- what stands above does not matter
pub digit_low : (n c s : ℕ) → 0 < n → (c * 4 * n + s) / n % 4 ≡ s / n % 4
digit_low n c s z =
    let e : c * 4 * n + s ≡ s + c * 4 * n = omega arith in
    rw (e, N.add-mul-div_right s (c * 4) z) (omega arith)

pub one_digit_more : (n c s : ℕ) → c * 4 ^ suc n + s ≡ c * 4 * 4 ^ n + s
one_digit_more n c s = rw (four_times_power n) (ap (λ m. m + s) (sym (N.mul_assoc c 4 (4 ^ n))))

pub digit_top : (n d t : ℕ) → d < 4 → t < n → (d * n + t) / n % 4 ≡ d
digit_top n d t h l =
    let z : 0 < n = omega arith in
    let e : d * n + t ≡ t + d * n = omega arith in
    rw (e, N.add-mul-div_right t d z, N.div-eq_of_lt l) (omega arith)

pub digit_and_rest : (s n : ℕ) → 0 < n → s / n % 4 * n + s % n ≡ s % (4 * n)
digit_and_rest s n z =
    let q : s / n / 4 * 4 + s / n % 4 ≡ s / n = omega arith in
    let e : s / n / 4 * (4 * n) + (s / n % 4 * n + s % n) ≡ s = omega (arith, ap (λ m. m * n) q, N.div-add-mod' s n, N.mul_assoc (s / n / 4) 4 n) in
    let i : s / n % 4 ≤ 3 = omega arith in
    let l : s / n % 4 * n + s % n < 4 * n = omega (arith, N.mul-le-mul_right n i, N.mod-lt s z) in
    sym (N.mod-eq_of_lt l) ∙ sym (N.mul-add-mod_self_right (s / n / 4) (4 * n) _) ∙ ap (λ x. x % (4 * n)) e

pub digit_below : (n d t : ℕ) → d < 4 → t < n → d * n + t < 4 * n
digit_below n d t h l = let i : d ≤ 3 = omega arith in omega (arith, N.mul-le-mul_right n i)

-- digits read from the top
pub digit_gather : (s d n t : ℕ) → (4 * s + d) * n + t ≡ s * (4 * n) + (d * n + t)
digit_gather s d n t = omega (arith, N.mul_assoc s 4 n)
