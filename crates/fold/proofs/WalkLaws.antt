-- The walk of the code along a list: how many cells of the fold are behind it, and which one is next.
use mathlib.Core.Bool.{true}
use mathlib.Core.Path.{◌≡◌, refl, sym, ap, ap₂, ◌∙◌}
use mathlib.Core.List.{List, [], ◌∷◌, ◌++◌}
use Prim.Native.Nat.{ℕ, ◌+◌, ◌-◌, ◌*◌, ◌/◌, ◌^◌, ◌<◌, ◌≤◌}
use native.Mathlib.Nat as N
use native.Mathlib.Omega.{arith}
use lib.Dec.{leb}
use lib.ListN.{length, get_or, drop, set, length-drop, length-set}
use lib.Seq.{drop-drop}
use borrow.Author.Tests.{le-leb}
use Rattle.whole.proofs.Digits.{four_power}
use Rattle.whole.proofs.Powers.{four_by_shift}
use Rattle.whole.proofs.Fill.{poured, poured_all}
use Rattle.triple.specs.Domain.{position_count}
use Rattle.fold.specs.Cells.{Cell, cell, pairs}
use Rattle.fold.specs.Folds.{all_below, ascending, fold_of}
use Rattle.fold.specs.Inside.Blocks.{Listed, Level}
use Rattle.fold.proofs.PairLaws.{length_pairs, pairs_poured}
use Rattle.fold.proofs.BlockLaws.{block_facts, level_unique, level_size, level_fits, level_fits_word, level_steps}
use Rattle.fold.proofs.StepLaws.{Steps, fold_steps}

-- ---- one step
-- the next cell is the one whose level is found
next_cell : (r : ℕ) (xs : List ℕ) (i k : ℕ) → ascending xs ≡ true → i < length xs → Level r xs i k → (cells : List Cell) → Steps r xs i cells
    → (cells ≡ cell (r - k) (get_or xs i 0 / 4 ^ k) ∷ drop 1 cells) × Steps r xs (i + 4 ^ k) (drop 1 cells)
next_cell r xs i k up h l [] s = let z : ⊥ = omega arith in absurd z
next_cell r xs i k up h l (cell m p ∷ cells) s =
    let e : r - m ≡ k = level_unique xs i up s.2 l in
    let c : m ≡ r - k = omega arith in
    let d : p ≡ get_or xs i 0 / 4 ^ k = sym (rw (s.3, e) (N.mul-div_cancel p (four_power k))) in
    (ap₂ (λ (x y : ℕ). cell x y ∷ cells) c d, rw (← e) s.4)

-- n cells are behind the entry i
pub record Walked (r : ℕ) (xs : List ℕ) (n i : ℕ) : Type 0 where
  pub within : i ≤ length xs
  pub counted : n ≤ i
  pub few : n ≤ length (fold_of r xs)
  pub steps : Steps r xs i (drop n (fold_of r xs))

pub walk_start : (r : ℕ) (xs : List ℕ) → Listed r xs → Walked r xs 0 0
walk_start r xs g = record { within = omega arith; counted = omega arith; few = omega arith; steps = fold_steps r xs g.rising g.inside }

module _ (r : ℕ) (xs : List ℕ) (n i : ℕ) (walked : Walked r xs n i) where
  all_behind : (cells : List Cell) → length xs ≤ i → Steps r xs i cells → length cells ≡ 0
  all_behind [] h s = refl
  all_behind (cell m p ∷ cells) h s = let z : ⊥ = omega arith in absurd z

  pub walk_ends : length xs ≤ i → n ≡ length (fold_of r xs)
  walk_ends h = let f = walked.few in omega (arith, length-drop n (fold_of r xs), all_behind (drop n (fold_of r xs)) h walked.steps)

  module _ (good : Listed r xs) (h : i < length xs) {k : ℕ} (l : Level r xs i k) where
    next : (drop n (fold_of r xs) ≡ cell (r - k) (get_or xs i 0 / 4 ^ k) ∷ drop 1 (drop n (fold_of r xs))) × Steps r xs (i + 4 ^ k) (drop 1 (drop n (fold_of r xs)))
    next = next_cell r xs i k good.rising h l (drop n (fold_of r xs)) walked.steps

    pub walk_left : n < length (fold_of r xs)
    walk_left = omega (arith, length-drop n (fold_of r xs), ap length next.0)

    pub walk_more : {size : ℕ} → size ≡ position_count k → Walked r xs (n + 1) (i + size)
    walk_more e =
        let z = four_power k in
        let s = level_size xs i good l e in
        let f = level_fits xs i good l e in
        let w = walk_left in
        let c = walked.counted in
        record {
          within = f;
          counted = omega arith;
          few = omega arith;
          steps = rw (s, ← drop-drop 1 n (fold_of r xs)) next.1;
        }

-- ---- and their pairs stand in the place of the slice's entries
pub record Stored (r : ℕ) (xs slice : List ℕ) (n i : ℕ) (out : List ℕ) : Type 0 where
  pub walked : Walked r xs n i
  pub same_length : length out ≡ length slice
  pub poured_so : out ≡ poured (pairs (fold_of r xs)) (2 * n) slice

pub stored_none : (r : ℕ) (xs slice : List ℕ) → Listed r xs → Stored r xs slice 0 0 slice
stored_none r xs slice g = record { walked = walk_start r xs g; same_length = refl; poured_so = refl }

module _ (r : ℕ) (xs slice : List ℕ) {n i : ℕ} {out : List ℕ} (room : 2 * length (fold_of r xs) ≤ length slice) (stored : Stored r xs slice n i out) where
  module _ (good : Listed r xs) (h : i < length xs) {k : ℕ} (l : Level r xs i k) where
    left : n < length (fold_of r xs)
    left = walk_left r xs n i stored.walked good h l

    pub first_inside : 2 * n < length out
    first_inside = omega (arith, left, stored.same_length)

    pub second_inside : (v : ℕ) → 2 * n + 1 < length (set out (2 * n) v)
    second_inside v = simp length-set (omega (arith, left, stored.same_length))

    pub stored_more : {size : ℕ} → size ≡ position_count k
        → Stored r xs slice (n + 1) (i + size) (set (set out (2 * n) (r - k)) (2 * n + 1) (get_or xs i 0 / 2 ^ (2 * k)))
    stored_more e =
        record {
          walked = walk_more r xs n i stored.walked good h l e;
          same_length = simp length-set stored.same_length;
          poured_so = rw (stored.poured_so, four_by_shift k) (pairs_poured (fold_of r xs) _ n _ _ (next r xs n i stored.walked good h l).0 slice room);
        }

  module _ (h : length xs ≤ i) where
    pub stored_count : n ≡ length (fold_of r xs)
    stored_count = walk_ends r xs n i stored.walked h

    pub stored_all : out ≡ pairs (fold_of r xs) ++ drop (2 * length (fold_of r xs)) slice
    stored_all =
        let e = stored_count in
        poured_all (pairs (fold_of r xs)) slice (2 * n) (2 * length (fold_of r xs)) (length_pairs (fold_of r xs)) (omega arith) (omega arith) stored.poured_so

pub ruleset walking = (walk_start, walk_more, walk_ends, level_fits_word, level_steps)

pub ruleset storing = (stored_none, first_inside, second_inside, stored_more, stored_count, stored_all, level_fits_word, level_steps)

-- ---- the room that they need
few_cells : (r : ℕ) (xs : List ℕ) → ascending xs ≡ true → (i : ℕ) (cells : List Cell) → Steps r xs i cells → length cells ≤ length xs - i
few_cells r xs up i [] s = omega arith
few_cells r xs up i (cell m p ∷ cells) s =
    let f = block_facts xs i (r - m) s.2.block in
    omega (arith, four_power (r - m), few_cells r xs up (i + 4 ^ (r - m)) cells s.4)

-- a fold has no more cells than its list has entries
pub no_more_cells : (r : ℕ) (xs : List ℕ) → all_below (4 ^ r) xs ≡ true → ascending xs ≡ true → length (fold_of r xs) ≤ length xs
no_more_cells r xs below up = omega (arith, few_cells r xs up 0 (fold_of r xs) (fold_steps r xs up below))

-- so a room for as many needs no count
pub room_enough : (r : ℕ) (xs : List ℕ) → Listed r xs → {room : ℕ} → length xs ≤ room → leb (length xs) room ≡ leb (length (fold_of r xs)) room
room_enough r xs g {room} h = le-leb (length xs) room h ∙ sym (le-leb (length (fold_of r xs)) room (omega (arith, no_more_cells r xs g.inside g.rising)))
