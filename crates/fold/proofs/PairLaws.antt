-- Cells as pairs of numbers, there and back, and pair by pair.
use mathlib.Core.Path.{◌≡◌, refl, sym, ap, ◌∙◌}
use mathlib.Core.List.{List, [], ◌∷◌, map}
use Prim.Native.Nat.{ℕ, zero, suc, ◌+◌, ◌-◌, ◌*◌, ◌/◌, ◌%◌, ◌<◌, ◌≤◌}
use native.Mathlib.Numerals.{add-one}
use native.Mathlib.Omega.{arith}
use lib.ListN.{length, get_or, drop, set, length-drop}
use lib.Seq.{drop-cons}
use Rattle.std.specs.Simd.{first_chunks}
use Rattle.whole.proofs.Fill.{poured, poured_more}
use Rattle.fold.specs.Cells.{Cell, cell, pairs, cells_in}

-- ---- the pairs of cells
pub length_pairs : (cells : List Cell) → length (pairs cells) ≡ 2 * length cells
unfolding pairs
length_pairs [] = refl
length_pairs (cell m p ∷ cells) = omega (arith, length_pairs cells)

-- those of a cell
pairs_at : (cells rest : List Cell) (n m p : ℕ) → drop n cells ≡ cell m p ∷ rest → (get_or (pairs cells) (2 * n) 0 ≡ m) × (get_or (pairs cells) (2 * n + 1) 0 ≡ p)
unfolding pairs
pairs_at cells rest zero m p e = rw e (refl, refl)
pairs_at [] rest (suc n) m p e = let z : ◌≡◌ {A = ℕ} 0 1 = cc in let y : ⊥ = omega arith in absurd y
pairs_at (cell a b ∷ cells) rest (suc n) m p e =
    let f : 2 * suc n ≡ suc (suc (2 * n)) = omega arith in
    let g : suc (suc (2 * n)) + 1 ≡ suc (suc (2 * n + 1)) = omega arith in
    rw (f, g) (pairs_at cells rest n m p e)

-- one more pair, stored behind n of them
pub pairs_poured : (cells rest : List Cell) (n m p : ℕ) → drop n cells ≡ cell m p ∷ rest → (slice : List ℕ) → 2 * length cells ≤ length slice
    → set (set (poured (pairs cells) (2 * n) slice) (2 * n) m) (2 * n + 1) p ≡ poured (pairs cells) (2 * (n + 1)) slice
pairs_poured cells rest n m p e slice room =
    let w = pairs cells in
    let long = length_pairs cells in
    let left : n < length cells = omega (arith, length-drop n cells, ap length e) in
    let at = pairs_at cells rest n m p e in
    let two : 2 * (n + 1) ≡ 2 * n + 1 + 1 = omega arith in
    rw two
    (ap (λ (l : List ℕ). set l (2 * n + 1) p) (poured_more w slice (2 * n) 0 m (omega arith) (omega arith) (sym at.0))
    ∙ poured_more w slice (2 * n + 1) 0 p (omega arith) (omega arith) (sym at.1))

-- ---- and the cells of pairs
pub cells_of_pairs : (cells : List Cell) → cells_in (pairs cells) ≡ cells
unfolding pairs cells_in
cells_of_pairs [] = refl
cells_of_pairs (cell m p ∷ cells) = ap (λ (l : List Cell). cell m p ∷ l) (cells_of_pairs cells)

pub pairs_of_cells : (xs : List ℕ) → length xs % 2 ≡ 0 → pairs (cells_in xs) ≡ xs
unfolding pairs cells_in
pairs_of_cells [] e = refl
pairs_of_cells (m ∷ []) e = let z : ⊥ = omega arith in absurd z
pairs_of_cells (m ∷ p ∷ xs) e = ap (λ (l : List ℕ). m ∷ p ∷ l) (pairs_of_cells xs (omega arith))

pub cells_next : (xs : List ℕ) (i : ℕ) → 2 ≤ length xs - i → cells_in (drop i xs) ≡ cell (get_or xs i 0) (get_or xs (i + 1) 0) ∷ cells_in (drop (i + 2) xs)
unfolding cells_in
cells_next xs i h =
    let e : i + 1 ≡ suc i = omega arith in
    let f : i + 2 ≡ suc (suc i) = omega arith in
    rw (e, f, drop-cons xs i 0 (omega arith), drop-cons xs (suc i) 0 (omega arith))

short : (l : List ℕ) → length l < 2 → cells_in l ≡ []
unfolding cells_in
short [] h = refl
short (x ∷ []) h = refl
short (x ∷ y ∷ l) h = let z : ⊥ = omega arith in absurd z

pub cells_none : (xs : List ℕ) (i : ℕ) → length xs - i < 2 → cells_in (drop i xs) ≡ []
cells_none xs i h = short (drop i xs) (rw length-drop h)

-- ---- and the cells of arrays of two, as which the code goes through pairs
abbrev pub cell_of : List ℕ → Cell
cell_of two = cell (get_or two 0 0) (get_or two 1 0)

cells_by_two : (xs : List ℕ) → map cell_of (first_chunks 2 (length xs / 2) xs) ≡ cells_in xs
unfolding cells_in
cells_by_two [] = refl
cells_by_two (m ∷ []) = refl
cells_by_two (m ∷ p ∷ xs) =
    let e : suc (suc (length xs)) / 2 ≡ suc (length xs / 2) = omega arith in
    rw e (ap (λ (l : List Cell). cell m p ∷ l) (cells_by_two xs))

next_of : (twos : List (List ℕ)) (i : ℕ) → i < length twos → drop i (map cell_of twos) ≡ cell_of (get_or twos i []) ∷ drop (suc i) (map cell_of twos)
next_of [] i h = let z : ⊥ = omega arith in absurd z
next_of (two ∷ twos) zero h = refl
next_of (two ∷ twos) (suc i) h = next_of twos i (omega arith)

none_of : (twos : List (List ℕ)) (i : ℕ) → length twos ≤ i → drop i (map cell_of twos) ≡ []
none_of [] zero h = refl
none_of [] (suc i) h = refl
none_of (two ∷ twos) zero h = let z : ⊥ = omega arith in absurd z
none_of (two ∷ twos) (suc i) h = none_of twos i (omega arith)

module _ (xs : List ℕ) {twos : List (List ℕ)} (twos_is : twos ≡ first_chunks 2 (length xs / 2) xs) (i : ℕ) where
  same : map cell_of twos ≡ cells_in xs
  same = ap (map cell_of) twos_is ∙ cells_by_two xs

  pub two_next : i < length twos → drop i (cells_in xs) ≡ cell_of (get_or twos i []) ∷ drop (i + 1) (cells_in xs)
  two_next h = rw (add-one, ← same) (next_of twos i h)

  pub two_none : length twos ≤ i → drop i (cells_in xs) ≡ []
  two_none h = rw (← same) (none_of twos i h)
