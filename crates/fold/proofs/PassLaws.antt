-- What a number of tests passed says of each of the three.
use mathlib.Core.Bool.{Bool, true, false, cond, ◌&&◌}
use mathlib.Core.Path.{◌≡◌, refl, sym, ◌∙◌}
use mathlib.Core.List.{List}
use Prim.Native.Nat.{ℕ, ◌≤◌}
use native.Mathlib.Omega.{arith}
use lib.Dec.{leb}
use Rattle.fold.specs.Cells.{cells_in}
use Rattle.fold.specs.Unfolds.{shallow, inside, ordered, passes}

-- ---- how many tests are passed
module _ (deep near tidy : Bool) where
  abbrev number : ℕ
  number = cond deep (cond near (cond tidy 3 2) 1) 0

first : (s i o : Bool) → 1 ≤ number s i o → s ≡ true
first true i o h = refl
first false i o h = let z : ⊥ = omega arith in absurd z

second : (s i o : Bool) → 2 ≤ number s i o → i ≡ true
second s true o h = refl
second true false o h = let z : ⊥ = omega arith in absurd z
second false false o h = let z : ⊥ = omega arith in absurd z

third : (s i o : Bool) → 3 ≤ number s i o → o ≡ true
third s i true h = refl
third true true false h = let z : ⊥ = omega arith in absurd z
third true false false h = let z : ⊥ = omega arith in absurd z
third false i false h = let z : ⊥ = omega arith in absurd z

not_first : (s i o : Bool) → number s i o ≡ 0 → s ≡ false
not_first false i o h = refl
not_first true true true h = let z : ⊥ = omega arith in absurd z
not_first true true false h = let z : ⊥ = omega arith in absurd z
not_first true false o h = let z : ⊥ = omega arith in absurd z

not_second : (s i o : Bool) → number s i o ≡ 1 → i ≡ false
not_second s false o h = refl
not_second true true true h = let z : ⊥ = omega arith in absurd z
not_second true true false h = let z : ⊥ = omega arith in absurd z
not_second false true o h = let z : ⊥ = omega arith in absurd z

not_third : (s i o : Bool) → number s i o ≡ 2 → o ≡ false
not_third s i false h = refl
not_third true true true h = let z : ⊥ = omega arith in absurd z
not_third true false true h = let z : ⊥ = omega arith in absurd z
not_third false i true h = let z : ⊥ = omega arith in absurd z

-- ---- one list
module _ (r : ℕ) (xs : List ℕ) {n : ℕ} (e : n ≡ passes r xs) where
  abbrev s : Bool
  s = leb r 30 && shallow r (cells_in xs)

  abbrev i : Bool
  i = inside (cells_in xs)

  abbrev o : Bool
  o = ordered r xs

  is_count : n ≡ number s i o
  unfolding passes
  is_count = e

  pub deep_no : n ≡ 0 → s ≡ false
  deep_no h = not_first s i o (sym is_count ∙ h)

  pub deep_yes : 1 ≤ n → s ≡ true
  deep_yes h = first s i o (rw (← is_count) h)

  pub low_no : n ≡ 1 → i ≡ false
  low_no h = not_second s i o (sym is_count ∙ h)

  pub low_yes : 2 ≤ n → i ≡ true
  low_yes h = second s i o (rw (← is_count) h)

  pub tidy_no : n ≡ 2 → o ≡ false
  tidy_no h = not_third s i o (sym is_count ∙ h)

  pub tidy_yes : 3 ≤ n → o ≡ true
  tidy_yes h = third s i o (rw (← is_count) h)

-- no more than three
most : (s i o : Bool) → number s i o ≤ 3
most true true true = omega arith
most true true false = omega arith
most true false o = omega arith
most false i o = omega arith

pub passes_most : (r : ℕ) (xs : List ℕ) → passes r xs ≤ 3
unfolding passes
passes_most r xs = most (leb r 30 && shallow r (cells_in xs)) (inside (cells_in xs)) (ordered r xs)
