-- The largest cell that begins at a place and ends at another or before: how often four divides the place, and how often it goes into what lies between.
use mathlib.Core.Path.{◌≡◌, sym, ◌∙◌}
use Prim.Native.Nat.{ℕ, zero, suc, ◌+◌, ◌-◌, ◌*◌, ◌/◌, ◌%◌, ◌^◌, ◌<◌, ◌≤◌, min, suc-le-suc}
use native.Mathlib.Nat as N
use native.Mathlib.Decide.{ℕ_discrete, dec_le}
use native.Mathlib.Omega.{arith}
use lib.Arith.{mod-mul}
use lib.Count.{count_trailing_zeros}
use lib.Pow.{pow_mono}
use Rattle.whole.proofs.Digits.{two_power, twice_power}
use Rattle.whole.proofs.Powers.{four_by_shift}
use Rattle.area.specs.Inside.Cursors.{Fits}

-- ---- a power of two divides a number as often as the number's lowest digits are zeros
two_more : (n j : ℕ) → n % 2 ^ suc j ≡ n / 2 % 2 ^ j * 2 + n % 2
two_more n j = rw N.pow-suc (mod-mul n (two_power j) (omega arith))

zeros_divide : (w n j : ℕ) → j ≤ count_trailing_zeros w n → n % 2 ^ j ≡ 0
unfolding count_trailing_zeros
zeros_divide w n zero h = N.mod-one n
zeros_divide zero n (suc j) h = let z : ⊥ = omega arith in absurd z
zeros_divide (suc w) n (suc j) h = elim (ℕ_discrete (n % 2) 0) [
  | yes e ↦
      (let l : suc j ≤ suc (count_trailing_zeros w (n / 2)) = rw e at h in
      rw (two_more n j, zeros_divide w (n / 2) j (omega arith), e))
  | no e ↦
      (let f : n % 2 ≡ 1 = omega arith in
      let l : suc j ≤ 0 = rw f at h in
      let z : ⊥ = omega arith in absurd z)
]

zeros_most : (w n j : ℕ) → j ≤ w → n % 2 ^ j ≡ 0 → j ≤ count_trailing_zeros w n
unfolding count_trailing_zeros
zeros_most w n zero h e = omega arith
zeros_most zero n (suc j) h e = let z : ⊥ = omega arith in absurd z
zeros_most (suc w) n (suc j) h e =
    let f : n / 2 % 2 ^ j * 2 + n % 2 ≡ 0 = sym (two_more n j) ∙ e in
    let low : n % 2 ≡ 0 = omega arith in
    rw low (suc-le-suc (zeros_most w (n / 2) j (omega arith) (omega arith)))

-- ---- the largest cell
-- four by four is two by two
by_twos : (lo k : ℕ) → lo % 4 ^ k ≡ lo % 2 ^ (2 * k)
by_twos lo k = rw four_by_shift

module _ (lo hi : ℕ) (bound : (lo < hi) × (hi ≤ 4 ^ 30)) (wide : ℕ) (most : 2 ^ wide ≤ hi - lo) (next : hi - lo < 2 * 2 ^ wide) where
  narrow : wide ≤ 60
  narrow = elim (dec_le wide 60) [
    | yes h ↦ h
    | no h ↦ (let z : ⊥ = omega (arith, bound.1, pow_mono {i = 61} {j = wide} (omega arith)) in absurd z)
  ]

  pub largest_fits : {k : ℕ} → k ≡ min (count_trailing_zeros 64 lo / 2) (wide / 2) → Fits lo hi k
  largest_fits {k} k_is =
      let low = bound.0 in
      let n = narrow in
      record {
        within = omega arith;
        even = by_twos lo k ∙ zeros_divide 64 lo (2 * k) (omega arith);
        ends = omega (arith, four_by_shift k, pow_mono {i = 2 * k} {j = wide} (omega arith));
        top = λ h e.
            (let even = zeros_most 64 lo (2 * suc k) (omega arith) (sym (by_twos lo (suc k)) ∙ e) in
            omega (arith, four_by_shift (suc k), twice_power wide, pow_mono {i = suc wide} {j = 2 * suc k} (omega arith)));
      }
