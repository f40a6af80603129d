-- What each entry of a grammar's table is: the table is the states' rows of 41 numbers one after the other,
-- and a row's entries for a digit are read off at each of the four.
use mathlib.Core.Path.{◌≡◌, refl, sym, ◌∙◌}
use mathlib.Core.Bool.{Bool, true, false}
use mathlib.Core.Logic.{◌⊎◌, inl, inr}
use mathlib.Core.List.{List, ◌++◌}
use Prim.Native.Nat.{ℕ, zero, suc, ◌+◌, ◌*◌, ◌<◌, ◌≤◌}
use native.Mathlib.Omega.{arith}
use native.Mathlib.Nat as N
use lib.IntN.{ℤ, pos}
use lib.ListN.{length, get_or, length-append, get_or-append}
use Rattle.turtle.specs.Plane.{ab, signed, flipped}
use Rattle.grammar.specs.Texts.{Line}
use Rattle.grammar.specs.Curves.{token_bytes}
use Rattle.tables.specs.Children.{child, offset, leaf}
use Rattle.tables.specs.Table.{bit, state_of, flavor_number, up_to, state_row, table_of}
use Rattle.tables.specs.Descent.{entry, child_at, offset_at, sum_at, flavor_at}
use Rattle.tables.proofs.Descents.{get_d_past}

-- ---- lists of equal length one after the other
module _ {A : Type 0} (f : ℕ → List A) (k : ℕ) (even : (i : ℕ) → length (f i) ≡ k) where
  pub length_up_to : (n : ℕ) → length (up_to f n) ≡ n * k
  length_up_to zero = sym (N.zero-mul k)
  length_up_to (suc n) = omega (arith, length-append (up_to f n) (f n), length_up_to n, even n, N.suc-mul n k)

  pub get_d_up_to : (n i j : ℕ) (z : A) → i < n → j < k → get_or (up_to f n) (i * k + j) z ≡ get_or (f i) j z
  get_d_up_to zero i j z h b = let none : ⊥ = omega arith in absurd none
  get_d_up_to (suc n) i j z h b = by_place (N.eq-or-lt_of_le (omega arith)) (λ l. get_d_up_to n i j z l b)
    where
      by_place : (i ≡ n) ⊎ (i < n) → (i < n → get_or (up_to f n) (i * k + j) z ≡ get_or (f i) j z) → get_or (up_to f n ++ f n) (i * k + j) z ≡ get_or (f i) j z
      by_place (inl e) again = rw e (get_d_past (up_to f n) (f n) z (n * k) j (length_up_to n))
      by_place (inr l) again =
          let le : suc i ≤ n = omega arith in
          let inside : i * k + j < length (up_to f n) = omega (arith, length_up_to n, N.suc-mul i k, N.mul-le-mul_right k le) in
          get_or-append (up_to f n) (f n) z (i * k + j) inside ∙ again l

-- ---- a state's row
pub length_row : (ls : List Line) (m : ℕ) (f : Bool) → length (state_row ls m f) ≡ 41
unfolding state_row
length_row ls m f = refl

-- what holds at 0, 1, 2 and 3 holds at each digit
at_digits : (P : ℕ → Type 0) → P 0 → P 1 → P 2 → P 3 → (d : ℕ) → d < 4 → P d
at_digits P p q r s zero b = p
at_digits P p q r s (suc zero) b = q
at_digits P p q r s (suc (suc zero)) b = r
at_digits P p q r s (suc (suc (suc zero))) b = s
at_digits P p q r s (suc (suc (suc (suc d)))) b = let none : ⊥ = omega arith in absurd none

module _ (ls : List Line) (m : ℕ) (f : Bool) where
  row_child : (d : ℕ) → d < 4 → get_or (state_row ls m f) d (pos 0) ≡ pos (state_of (child ls m d).token (flipped f (child ls m d).flip))
  unfolding state_row
  row_child = at_digits _ refl refl refl refl

  row_offset : (d : ℕ) → d < 4 → ab (get_or (state_row ls m f) (4 + 2 * d) (pos 0)) (get_or (state_row ls m f) (5 + 2 * d) (pos 0)) ≡ signed f (offset ls m d)
  unfolding state_row
  row_offset = at_digits _ refl refl refl refl

  row_sum : (d : ℕ) → d < 4 → ab (get_or (state_row ls m f) (12 + 2 * d) (pos 0)) (get_or (state_row ls m f) (13 + 2 * d) (pos 0)) ≡ (leaf ls m f d).sum
  unfolding state_row
  row_sum = at_digits _ refl refl refl refl

  row_flavor : (d : ℕ) → d < 4 → get_or (state_row ls m f) (20 + d) (pos 0) ≡ flavor_number (leaf ls m f d).flavor
  unfolding state_row
  row_flavor = at_digits _ refl refl refl refl

-- ---- the table: each token's two rows
module _ (ls : List Line) where
  abbrev rows : ℕ → List ℤ
  rows m = state_row ls m false ++ state_row ls m true

  length_rows : (m : ℕ) → length (rows m) ≡ 82
  length_rows m = rw (length-append, length_row, length_row)

  row_of : (m : ℕ) (f : Bool) (j : ℕ) → j < 41 → get_or (rows m) (41 * bit f + j) (pos 0) ≡ get_or (state_row ls m f) j (pos 0)
  row_of m false j h = let k : 0 + j ≡ j = omega arith in rw k (get_or-append (state_row ls m false) (state_row ls m true) (pos 0) j (rw length_row h))
  row_of m true j h = get_d_past (state_row ls m false) (state_row ls m true) (pos 0) 41 j (length_row ls m false)

  pub length_table : length (table_of ls) ≡ 41 * (2 * length (token_bytes ls))
  unfolding table_of
  length_table = omega (arith, length_up_to rows 82 length_rows (length (token_bytes ls)))

  module _ (m : ℕ) (f : Bool) (b : m < length (token_bytes ls)) where
    pub entry_is : (j : ℕ) → j < 41 → entry (table_of ls) (state_of m f) j ≡ get_or (state_row ls m f) j (pos 0)
    unfolding entry state_of table_of
    entry_is j h =
        let k : 41 * (2 * m + bit f) + j ≡ m * 82 + (41 * bit f + j) = omega arith in
        rw k (get_d_up_to rows 82 length_rows (length (token_bytes ls)) m (41 * bit f + j) (pos 0) b (within f)) ∙ row_of m f j h
      where
        within : (f : Bool) → 41 * bit f + j < 82
        within false = omega arith
        within true = omega arith

    pub child_entry : (d : ℕ) → d < 4 → child_at (table_of ls) (state_of m f) d ≡ pos (state_of (child ls m d).token (flipped f (child ls m d).flip))
    child_entry d h = entry_is d (omega arith) ∙ row_child ls m f d h

    pub offset_entry : (d : ℕ) → d < 4 → offset_at (table_of ls) (state_of m f) d ≡ signed f (offset ls m d)
    offset_entry d h = rw (entry_is (4 + 2 * d) (omega arith), entry_is (5 + 2 * d) (omega arith)) (row_offset ls m f d h)

    pub sum_entry : (d : ℕ) → d < 4 → sum_at (table_of ls) (state_of m f) d ≡ (leaf ls m f d).sum
    sum_entry d h = rw (entry_is (12 + 2 * d) (omega arith), entry_is (13 + 2 * d) (omega arith)) (row_sum ls m f d h)

    pub flavor_entry : (d : ℕ) → d < 4 → flavor_at (table_of ls) (state_of m f) d ≡ flavor_number (leaf ls m f d).flavor
    flavor_entry d h = entry_is (20 + d) (omega arith) ∙ row_flavor ls m f d h
