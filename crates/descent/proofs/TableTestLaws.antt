-- The tests of a lent table in the form of what the code has in hand: a range of entries by the test of each, a state by its own part of the table.
use mathlib.Core.Path.{◌≡◌, refl, sym, ap, ◌∙◌}
use mathlib.Core.Bool.{Bool, true, false, ◌&&◌}
use mathlib.Core.List.{List, [], ◌∷◌, map}
use Prim.Native.Nat.{ℕ, zero, suc, ◌+◌, ◌-◌, ◌*◌, ◌≤◌}
use native.Mathlib.Nat.{le_refl}
use native.Mathlib.Numerals.{add-one}
use native.Mathlib.Omega.{arith}
use lib.IntN.{ℤ, pos}
use lib.ListN.{length, get_or, take, drop, length-drop}
use lib.Seq.{take_all, get_or-drop}
use Rattle.std.specs.List.{list_all, range_with_len}
use Rattle.std.proofs.lemmas.List.Folds.{list_all_more, list_all-map, list_all-append}
use Rattle.std.proofs.lemmas.List.FromFn.{map-range_with_len_more}
use Rattle.tables.specs.Descent.{entry, readable_child, readable_size, readable_flavor, all_below, readable_state}
use Rattle.tables.proofs.ReadableLaws.{below_same}

-- ---- a test of each is the test at each number
module _ {X : Type 0} (test : X → Bool) where
  all_places : (xs : List X) (d : X) (n : ℕ) → n ≤ length xs → list_all test (take n xs) ≡ all_below (λ i. test (get_or xs i d)) n
  all_places xs d zero h = refl
  all_places xs d (suc n) h = rw (← add-one, list_all_more test xs n d (omega arith), all_places xs d n (omega arith)) refl

and_true : (b : Bool) → (b && true) ≡ b
and_true true = refl
and_true false = refl

pub all_numbers : (test : ℕ → Bool) (n : ℕ) → list_all test (range_with_len 0 n) ≡ all_below test n
all_numbers test zero = refl
all_numbers test (suc n) =
    let front = list_all-map (λ b. b) test (range_with_len 0 n) ∙ all_numbers test n in
    sym (list_all-map (λ b. b) test (range_with_len 0 (suc n)))
    ∙ ap (λ k. list_all (λ b. b) (map test (range_with_len 0 k))) (sym (add-one n))
    ∙ ap (list_all (λ b. b)) (map-range_with_len_more test 0 n n (omega arith))
    ∙ list_all-append (λ b. b) (map test (range_with_len 0 n)) (test n ∷ [])
    ∙ rw (front, and_true) refl

-- ---- a state's own part: its entries are those of state 0 there
pub first_entry : (t : List ℤ) (j : ℕ) → entry t 0 j ≡ get_or t j (pos 0)
unfolding entry
first_entry t j = let e : 41 * 0 + j ≡ j = omega arith in rw e

-- the first n entries, and n from s on, each by the test
pub first_pass : (test : ℤ → Bool) (t : List ℤ) (n : ℕ) → n ≤ length t → list_all test (take n t) ≡ all_below (λ i. test (entry t 0 i)) n
first_pass test t n h = all_places test t (pos 0) n h ∙ below_same _ _ n (λ i l. ap test (sym (first_entry t i)))

pub entries_pass : (test : ℤ → Bool) (t : List ℤ) (s n : ℕ) → s + n ≤ length t → list_all test (take n (drop s t)) ≡ all_below (λ i. test (entry t 0 (s + i))) n
entries_pass test t s n h =
    all_places test (drop s t) (pos 0) n (rw length-drop (omega arith))
    ∙ below_same _ _ n (λ i l. ap test (get_or-drop s t i (pos 0) ∙ sym (first_entry t (s + i))))

part_entry : (t : List ℤ) (k j : ℕ) → entry (drop (41 * k) t) 0 j ≡ entry t k j
part_entry t k j = first_entry (drop (41 * k) t) j ∙ (unfold entry in get_or-drop (41 * k) t j (pos 0))

whole_part : (t : List ℤ) (n : ℕ) → take (length t - n) (drop n t) ≡ drop n t
whole_part t n = take_all (length t - n) (drop n t) (rw length-drop (le_refl _))

state_part : (t : List ℤ) (states k : ℕ) → readable_state (drop (41 * k) t) states 0 ≡ readable_state t states k
unfolding readable_state
state_part t states k = ap (λ (e : ℕ → ℤ). all_below (λ d. readable_child states (e d)) 4 && all_below (λ j. readable_size (e (4 + j))) 16 && all_below (λ d. readable_flavor (e (20 + d))) 4) (λ i j. part_entry t k j i)

-- the part that is lent, and what its test says
module _ (t : List ℤ) (states k : ℕ) where
  abbrev pub part_of : List ℤ
  part_of = take (length t - 41 * k) (drop (41 * k) t)

  pub part_length : 41 * k + 41 ≤ length t → 24 ≤ length part_of
  part_length h = rw (whole_part t (41 * k), length-drop) (omega arith)

  pub part_readable : {b : Bool} → b ≡ readable_state part_of states 0 → b ≡ readable_state t states k
  part_readable e = e ∙ ap (λ (u : List ℤ). readable_state u states 0) (whole_part t (41 * k)) ∙ state_part t states k

-- ---- a state, by the flags of its three ranges
module _ (t : List ℤ) (states : ℕ) (held : 24 ≤ length t) {a : Bool} (children : a ≡ list_all (readable_child states) (take 4 t)) where
  pub state_children : a ≡ false → false ≡ readable_state t states 0
  unfolding readable_state
  state_children h = rw (sym (children ∙ first_pass (readable_child states) t 4 (omega arith)) ∙ h)

  module _ (good : a ≡ true) {b : Bool} (sizes : b ≡ list_all readable_size (take 16 (drop 4 t))) where
    pub state_sizes : b ≡ false → false ≡ readable_state t states 0
    unfolding readable_state
    state_sizes h = rw (sym (children ∙ first_pass (readable_child states) t 4 (omega arith)) ∙ good, sym (sizes ∙ entries_pass readable_size t 4 16 (omega arith)) ∙ h)

    pub state_flavors : b ≡ true → {c : Bool} → c ≡ list_all readable_flavor (take 4 (drop 20 t)) → c ≡ readable_state t states 0
    unfolding readable_state
    state_flavors h e =
        rw (sym (children ∙ first_pass (readable_child states) t 4 (omega arith)) ∙ good, sym (sizes ∙ entries_pass readable_size t 4 16 (omega arith)) ∙ h)
        (e ∙ entries_pass readable_flavor t 20 4 (omega arith))
