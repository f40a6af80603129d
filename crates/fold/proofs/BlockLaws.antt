-- Blocks of an ascending list: the positions of a cell, which stand from an entry on.
use mathlib.Core.Bool.{Bool, true, false, true≢false}
use mathlib.Core.Logic.{◌⊎◌, inl, inr}
use mathlib.Core.Path.{◌≡◌, refl, sym, ap, ◌∙◌}
use mathlib.Core.List.{List}
use Prim.Native.Nat.{ℕ, zero, suc, ◌+◌, ◌-◌, ◌*◌, ◌/◌, ◌%◌, ◌^◌, ◌<◌, ◌≤◌}
use native.Mathlib.Nat as N
use native.Mathlib.Omega.{arith}
use native.Mathlib.Decide.{dec_lt}
use lib.Dec.{leb, eqb}
use lib.Bits.{bit_and, and_mask}
use lib.ListN.{length, get_or}
use mir.Syntax.{w64}
use mir.Val.{Fits}
use borrow.Author.Tests.{eq-eqb, ne_eqb, le-leb, lt-leb, eqb-true, leb-true}
use Rattle.whole.proofs.Powers.{four_by_shift}
use Rattle.whole.proofs.Digits.{four_power, four_times_power, digit_and_rest}
use Rattle.triple.specs.Domain.{position_count}
use Rattle.triple.proofs.DomainLaws.{positions_are}
use Rattle.fold.specs.Folds.{ascending}
use Rattle.fold.specs.Inside.Blocks.{Listed, block_at, Level}
use Rattle.whole.proofs.Bools.{both_true}
use Rattle.fold.proofs.ListLaws.{gap}

pub which : (b : Bool) → (b ≡ true) ⊎ (b ≡ false)
which true = inl refl
which false = inr refl

-- a multiple of n that is one of 4 n
pub quarters : (q n : ℕ) → 0 < n → q * n % (4 * n) ≡ 0 → q / 4 * (4 * n) ≡ q * n
quarters q n z e =
    let f : q % 4 * n ≡ 0 = omega (arith, digit_and_rest (q * n) n z, ap (λ (x : ℕ). x % 4 * n) (N.mul-div_cancel q z), N.mul-mod_left q n) in
    let h : q / 4 * 4 + q % 4 ≡ q = omega arith in
    omega (arith, ap (λ (x : ℕ). x * n) h, N.mul_assoc (q / 4) 4 n)

module _ (xs : List ℕ) (i : ℕ) where
  -- what the test says
  pub block_facts : (k : ℕ) → block_at xs i k ≡ true
      → (get_or xs i 0 % 4 ^ k ≡ 0) × (4 ^ k ≤ length xs - i) × (get_or xs (i + (4 ^ k - 1)) 0 ≡ get_or xs i 0 + (4 ^ k - 1))
  unfolding block_at
  block_facts k e =
      let a = both_true (eqb (get_or xs i 0 % 4 ^ k) 0) _ e in
      let b = both_true (leb (4 ^ k) (length xs - i)) _ a.1 in
      (eqb-true _ _ a.0, leb-true _ _ b.0, eqb-true _ _ b.1)

  pub block_is : (k : ℕ) → get_or xs i 0 % 4 ^ k ≡ 0 → 4 ^ k ≤ length xs - i → get_or xs (i + (4 ^ k - 1)) 0 ≡ get_or xs i 0 + (4 ^ k - 1) → block_at xs i k ≡ true
  unfolding block_at
  block_is k a b c = simp (eq-eqb _ _ a, le-leb _ _ b, eq-eqb _ _ c)

  module _ (up : ascending xs ≡ true) where
    -- its positions, one after another
    pub block_run : (k : ℕ) → block_at xs i k ≡ true → (d : ℕ) → d < 4 ^ k → (i + d < length xs) × (get_or xs (i + d) 0 ≡ get_or xs i 0 + d)
    block_run k e d h =
        let f = block_facts k e in
        let j : i + d + (4 ^ k - 1 - d) ≡ i + (4 ^ k - 1) = omega arith in
        let a = gap xs up i d (omega arith) in
        let b = gap xs up (i + d) (4 ^ k - 1 - d) (omega arith) in
        (omega arith, omega (arith, ap (λ (x : ℕ). get_or xs x 0) j))

    pub block_less : (k : ℕ) → block_at xs i (suc k) ≡ true → block_at xs i k ≡ true
    block_less k e =
        let f = block_facts (suc k) e in
        let p = four_power k in
        let s = get_or xs i 0 in
        let q = four_times_power k in
        let m : s % 4 ^ suc k % 4 ^ k ≡ s % 4 ^ k = rw q (N.mod-mod_of_dvd (4 ^ k) s (N.dvd-mul_left (4 ^ k) 4)) in
        block_is k (sym m ∙ ap (λ (x : ℕ). x % 4 ^ k) f.0 ∙ N.zero-mod (4 ^ k)) (omega arith) (block_run (suc k) e (4 ^ k - 1) (omega arith)).1

    block_down : (k d : ℕ) → block_at xs i (k + d) ≡ true → block_at xs i k ≡ true
    block_down k zero e = rw N.add-zero at e
    block_down k (suc d) e = block_down k d (block_less (k + d) (rw N.add-suc at e))

    not_above : {r k l : ℕ} → Level r xs i k → Level r xs i l → k < l → ⊥
    not_above {r} {k} {l} a b h =
        let w = b.within in
        let j : l ≡ suc k + (l - suc k) = omega arith in
        true≢false (sym (block_down (suc k) (l - suc k) (rw (← j) b.block)) ∙ a.top (omega arith))

    -- there is one level alone
    pub level_unique : {r k l : ℕ} → Level r xs i k → Level r xs i l → k ≡ l
    level_unique {r} {k} {l} a b =
        let f = not_above a b in
        let g = not_above b a in
        elim (dec_lt k l) [
          | yes h ↦ absurd (f h)
          | no h ↦ elim (dec_lt l k) [
            | yes h ↦ absurd (g h)
            | no h ↦ omega arith
          ]
        ]

  -- ---- the tests of the code, which has a cell's number of positions
  module _ (k n : ℕ) (low : k ≤ 30) (counted : n ≡ position_count k) where
    size : n ≡ 4 ^ k
    size = positions_are k low counted

    pub some_positions : 1 ≤ n
    some_positions = omega (arith, size, four_power k)

    masked : bit_and (get_or xs i 0) (n - 1) ≡ get_or xs i 0 % 4 ^ k
    masked = rw (size, ← four_by_shift k) (and_mask (get_or xs i 0) (2 * k))

    pub not_first : (bit_and (get_or xs i 0) (n - 1) ≡ 0 → ⊥) → false ≡ block_at xs i k
    unfolding block_at
    not_first h = rw (ne_eqb (get_or xs i 0 % 4 ^ k) 0 (λ e. h (masked ∙ e)))

    pub too_few : bit_and (get_or xs i 0) (n - 1) ≡ 0 → length xs - i ≤ n - 1 → false ≡ block_at xs i k
    unfolding block_at
    too_few e h =
        let z = four_power k in
        let f = size in
        rw (eq-eqb (get_or xs i 0 % 4 ^ k) 0 (sym masked ∙ e), lt-leb (4 ^ k) (length xs - i) (omega arith))

    pub last_tells : bit_and (get_or xs i 0) (n - 1) ≡ 0 → n - 1 < length xs - i → eqb (get_or xs (i + (n - 1)) 0) (get_or xs i 0 + (n - 1)) ≡ block_at xs i k
    unfolding block_at
    last_tells e h =
        let f = size in
        rw (eq-eqb (get_or xs i 0 % 4 ^ k) 0 (sym masked ∙ e), le-leb (4 ^ k) (length xs - i) (omega arith), size)

  -- its positions stand in the list
  module _ {r k n : ℕ} (good : Listed r xs) (level : Level r xs i k) (counted : n ≡ position_count k) where
    pub level_size : n ≡ 4 ^ k
    level_size =
        let w = level.within in
        let h = good.shallow in
        positions_are k (omega arith) counted

    pub level_fits : i + n ≤ length xs
    level_fits =
        let z = four_power k in
        let f = block_facts k level.block in
        omega (arith, level_size)

    -- and so a step by them ends
    pub level_fits_word : length xs < 2 ^ 64 → Fits w64 (i + n)
    level_fits_word h = omega (arith, level_fits)

    pub level_steps : length xs - (i + n) < length xs - i
    level_steps = omega (arith, four_power k, level_size, level_fits)

  pub level_none : i < length xs → block_at xs i 0 ≡ true
  level_none h = block_is 0 (N.mod-one (get_or xs i 0)) (omega arith) (rw (N.add-zero, N.add-zero))

pub ruleset blocks = (some_positions, not_first, too_few, last_tells)
