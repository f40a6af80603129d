-- Lists of positions: what the tests of a list say of its entries, and where in an ascending list a position stands.
use mathlib.Core.Bool.{Bool, true, false, not, cond, ◌&&◌, ◌||◌, false≢true, true≢false}
use mathlib.Core.Path.{◌≡◌, refl, sym, ap, ◌∙◌}
use mathlib.Core.List.{List, [], ◌∷◌}
use Prim.Native.Nat.{ℕ, zero, suc, ◌+◌, ◌-◌, ◌*◌, ◌^◌, ◌<◌, ◌≤◌}
use native.Mathlib.Nat.{add-zero, add-suc, not-suc-le-zero}
use native.Mathlib.Numerals.{add-one}
use native.Mathlib.Omega.{arith}
use native.Mathlib.Decide.{dec_lt, ℕ_discrete}
use lib.Dec.{ltb, eqb}
use lib.ListN.{length, get_or}
use lib.Pow.{pow_mono}
use borrow.Author.Tests.{lt-ltb, le-ltb, eq-eqb, ne_eqb, ltb-true, ltb-false, not-false}
use Rattle.std.specs.List.{list_all, IsAllAdjacentAnswer}
use Rattle.std.proofs.lemmas.List.Recursion.{same_from_clauses}
use Rattle.whole.proofs.Bools.{both_true}
use Rattle.whole.proofs.Powers.{four_by_shift}
use Rattle.fold.specs.Folds.{has, has_all_of, all_below, ascending}

unless_true : (b : Bool) → (b ≡ true → ⊥) → b ≡ false
unless_true true f = absurd (f refl)
unless_true false f = refl

-- ---- the tests
-- what `all` answers
pub all_are_below : (n : ℕ) (xs : List ℕ) → list_all (λ s. ltb s n) xs ≡ all_below n xs
unfolding all_below
all_are_below n = same_from_clauses (list_all (λ s. ltb s n)) (all_below n) (λ s b. ltb s n && b) refl (λ s xs. refl) (λ s xs. refl)

-- ---- what the tests say
pub at_below : (n : ℕ) (xs : List ℕ) → all_below n xs ≡ true → (i : ℕ) → i < length xs → get_or xs i 0 < n
unfolding all_below
at_below n [] e i h = absurd (not-suc-le-zero h)
at_below n (x ∷ xs) e zero h = ltb-true x n (both_true (ltb x n) (all_below n xs) e).0
at_below n (x ∷ xs) e (suc i) h = at_below n xs (both_true (ltb x n) (all_below n xs) e).1 i (omega arith)

-- a position at a resolution of at most 30
pub at_small : (r : ℕ) (xs : List ℕ) → r ≤ 30 → all_below (4 ^ r) xs ≡ true → (i : ℕ) → i < length xs → get_or xs i 0 < 2 ^ 60
at_small r xs h e i l = omega (arith, at_below (4 ^ r) xs e i l, four_by_shift r, pow_mono {i = 2 * r} {j = 60} (omega arith))

ascending_tail : (x : ℕ) (xs : List ℕ) → ascending (x ∷ xs) ≡ true → ascending xs ≡ true
unfolding ascending
ascending_tail x [] e = refl
ascending_tail x (y ∷ xs) e = (both_true (ltb x y) (ascending (y ∷ xs)) e).1

at_ascending : (xs : List ℕ) → ascending xs ≡ true → (i : ℕ) → suc i < length xs → get_or xs i 0 < get_or xs (suc i) 0
unfolding ascending
at_ascending [] e i h = absurd (not-suc-le-zero h)
at_ascending (x ∷ []) e i h = let z : ⊥ = omega arith in absurd z
at_ascending (x ∷ y ∷ xs) e zero h = ltb-true x y (both_true (ltb x y) (ascending (y ∷ xs)) e).0
at_ascending (x ∷ y ∷ xs) e (suc i) h = at_ascending (y ∷ xs) (ascending_tail x (y ∷ xs) e) i (omega arith)

from_rising : (xs : List ℕ) → ((i : ℕ) → suc i < length xs → get_or xs i 0 < get_or xs (suc i) 0) → ascending xs ≡ true
unfolding ascending
from_rising [] f = refl
from_rising (x ∷ []) f = refl
from_rising (x ∷ y ∷ xs) f = rw (lt-ltb x y (f 0 (omega arith))) (from_rising (y ∷ xs) (λ i h. f (suc i) (omega arith)))

-- what `is_sorted_by` answers
pub ascends : (xs : List ℕ) (r : Bool) → IsAllAdjacentAnswer (λ x y b. b ≡ ltb x y) xs r → r ≡ ascending xs
ascends xs true h = sym (from_rising xs (λ i l. ltb-true (get_or xs i 0) (get_or xs (suc i) 0) (rw (← add-one i) (sym (h i 0 (omega arith))))))
ascends xs false h =
    let i = h.0 in
    let l : get_or xs (suc i) 0 ≤ get_or xs i 0 = ltb-false (get_or xs i 0) (get_or xs (suc i) 0) (rw (← add-one i) (sym (h.2 0))) in
    sym (unless_true (ascending xs) (λ e. omega (arith, at_ascending xs e i (omega (arith, h.1)))))

-- d entries further stands a position that is at least d further
pub gap : (xs : List ℕ) → ascending xs ≡ true → (i d : ℕ) → i + d < length xs → get_or xs i 0 + d ≤ get_or xs (i + d) 0
gap xs e i zero h = simp add-zero (omega arith)
gap xs e i (suc d) h =
    let l : suc (i + d) < length xs = omega arith in
    rw (add-suc i d) (omega (arith, gap xs e i d (omega arith), at_ascending xs e (i + d) l))

from_below : (n : ℕ) (xs : List ℕ) → ((i : ℕ) → i < length xs → get_or xs i 0 < n) → all_below n xs ≡ true
unfolding all_below
from_below n [] f = refl
from_below n (x ∷ xs) f = rw (lt-ltb x n (f 0 (omega arith))) (from_below n xs (λ i h. f (suc i) (omega arith)))

-- of an ascending list the last entry tells
pub is_rising : (xs : List ℕ) {ordered : Bool} → ordered ≡ ascending xs → not ordered ≡ false → ascending xs ≡ true
is_rising xs {ordered} f h = sym f ∙ not-false ordered h

pub none_below : (n : ℕ) (xs : List ℕ) → length xs ≡ 0 → true ≡ all_below n xs
none_below n xs e = sym (from_below n xs (λ i h. let z : ⊥ = omega arith in absurd z))

pub last_below : (n : ℕ) (xs : List ℕ) → ascending xs ≡ true → 0 < length xs → ltb (get_or xs (length xs - 1) 0) n ≡ all_below n xs
last_below n xs e z =
    let l = length xs - 1 in
    elim (dec_lt (get_or xs l 0) n) [
      | yes h ↦ lt-ltb (get_or xs l 0) n h ∙ sym (from_below n xs (λ i j.
          (let same : i + (l - i) ≡ l = omega arith in
          let g = gap xs e i (l - i) (omega arith) in
          omega (arith, ap (λ (x : ℕ). get_or xs x 0) same))))
      | no h ↦ le-ltb (get_or xs l 0) n (omega arith) ∙ sym (unless_true (all_below n xs) (λ b. h (at_below n xs b l (omega arith))))
    ]

-- ---- what a list has
pub has_entry : (xs : List ℕ) (i : ℕ) → i < length xs → has xs (get_or xs i 0) ≡ true
unfolding has
has_entry [] i h = absurd (not-suc-le-zero h)
has_entry (x ∷ xs) zero h = rw (eq-eqb x x refl)
has_entry (x ∷ xs) (suc i) h = or_right (eqb x (get_or xs i 0)) (has_entry xs i (omega arith))
  where
    or_right : (a : Bool) {b : Bool} → b ≡ true → (a || b) ≡ true
    or_right true e = refl
    or_right false e = e

pub has_at : (xs : List ℕ) (s n : ℕ) → has_all_of xs s n ≡ true → (d : ℕ) → d < n → has xs (s + d) ≡ true
unfolding has_all_of
has_at xs s zero e d h = absurd (not-suc-le-zero h)
has_at xs s (suc n) e d h =
    let e = both_true (has xs (s + n)) (has_all_of xs s n) e in
    elim (dec_lt d n) [
      | yes l ↦ has_at xs s n e.1 d l
      | no l ↦ (let q : d ≡ n = omega arith in rw q e.0)
    ]

pub has_all : (xs : List ℕ) (s n : ℕ) → ((d : ℕ) → d < n → has xs (s + d) ≡ true) → has_all_of xs s n ≡ true
unfolding has_all_of
has_all xs s zero f = refl
has_all xs s (suc n) f = rw (f n (omega arith)) (has_all xs s n (λ d h. f d (omega arith)))

-- ---- where a position stands
-- how many entries at the front are below s
pub place : List ℕ → ℕ → ℕ
place [] s = 0
place (x ∷ xs) s = cond (ltb x s) (suc (place xs s)) 0

pub place_zero : (xs : List ℕ) → place xs 0 ≡ 0
unfolding place
place_zero [] = refl
place_zero (x ∷ xs) = rw (le-ltb x 0 (omega arith))

pub place_end : (n : ℕ) (xs : List ℕ) → all_below n xs ≡ true → place xs n ≡ length xs
unfolding place all_below
place_end n [] e = refl
place_end n (x ∷ xs) e = let e = both_true (ltb x n) (all_below n xs) e in rw e.0 (ap suc (place_end n xs e.1))

pub place_not : (xs : List ℕ) (s : ℕ) → has xs s ≡ false → place xs (suc s) ≡ place xs s
unfolding place has
place_not [] s e = refl
place_not (x ∷ xs) s e = elim (dec_lt x s) [
  | yes l ↦ rw (lt-ltb x s l, lt-ltb x (suc s) (omega arith)) (ap suc (place_not xs s (rw (ne_eqb x s (omega arith)) at e)))
  | no l ↦ elim (ℕ_discrete x s) [
    | yes q ↦ absurd (true≢false (rw (eq-eqb x s q) at e))
    | no q ↦ rw (le-ltb x s (omega arith), le-ltb x (suc s) (omega arith))
  ]
]

later : (x : ℕ) (xs : List ℕ) (s : ℕ) → ascending (x ∷ xs) ≡ true → has xs s ≡ true → x < s
unfolding ascending has
later x [] s e h = absurd (false≢true h)
later x (y ∷ xs) s e h =
    let e = both_true (ltb x y) (ascending (y ∷ xs)) e in
    let l : x < y = ltb-true x y e.0 in
    elim (ℕ_discrete y s) [
      | yes q ↦ omega arith
      | no q ↦ omega (arith, later y xs s e.1 (rw (ne_eqb y s q) at h))
    ]

place_first : (x : ℕ) (xs : List ℕ) → ascending (x ∷ xs) ≡ true → place xs (suc x) ≡ 0
unfolding place ascending
place_first x [] e = refl
place_first x (y ∷ xs) e = let l = ltb-true x y (both_true (ltb x y) (ascending (y ∷ xs)) e).0 in rw (le-ltb y (suc x) (omega arith))

-- a position that the list has stands at its place, and the next one's place is the next
pub place_has : (xs : List ℕ) (s : ℕ) → ascending xs ≡ true → has xs s ≡ true
    → (place xs (suc s) ≡ suc (place xs s)) × (get_or xs (place xs s) 0 ≡ s) × (place xs s < length xs)
unfolding place has
place_has [] s e h = absurd (false≢true h)
place_has (x ∷ xs) s e h = elim (ℕ_discrete x s) [
  | yes q ↦ rw (← q) (rw (le-ltb x x (omega arith), lt-ltb x (suc x) (omega arith)) (ap suc (place_first x xs e), refl, omega arith))
  | no q ↦
      (let h = rw (ne_eqb x s q) at h in
      let l = later x xs s e h in
      let i = place_has xs s (ascending_tail x xs e) h in
      rw (lt-ltb x s l, lt-ltb x (suc s) (omega arith)) (ap suc i.0, i.1, omega (arith, i.2)))
]

pub place_all : (xs : List ℕ) (s n : ℕ) → ascending xs ≡ true → has_all_of xs s n ≡ true → place xs (s + n) ≡ place xs s + n
unfolding has_all_of
place_all xs s zero e h = rw (add-zero, add-zero)
place_all xs s (suc n) e h =
    let h = both_true (has xs (s + n)) (has_all_of xs s n) h in
    rw (add-suc, add-suc) ((place_has xs (s + n) e h.0).0 ∙ ap suc (place_all xs s n e h.1))
