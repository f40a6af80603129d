-- The tests of a list of pairs: what was read and the rest from i on tell what the whole list tells. What a list that passes them has.
use mathlib.Core.Bool.{Bool, true, false, not, cond, ◌&&◌, and-true, and-false, and_assoc, and_comm, true≢false}
use mathlib.Core.Path.{◌≡◌, refl, sym, ap, subst, ◌∙◌}
use mathlib.Core.List.{List, [], ◌∷◌}
use Prim.Native.Nat.{ℕ, zero, suc, ◌+◌, ◌-◌, ◌*◌, ◌/◌, ◌%◌, ◌^◌, ◌<◌, ◌≤◌}
use native.Mathlib.Nat as N
use native.Mathlib.Omega.{arith}
use native.Mathlib.Decide.{dec_lt}
use lib.Dec.{ltb, leb, eqb}
use lib.ListN.{length, get_or, drop}
use lib.Pow.{pow-add}
use mir.Syntax.{w64}
use mir.Val.{Fits}
use borrow.Author.Tests.{lt-leb, le-leb, lt-ltb, le-ltb, leb-true, ltb-true, not-true, not-false}
use Rattle.std.specs.Simd.{first_chunks}
use Rattle.triple.specs.Domain.{position_count}
use Rattle.triple.proofs.DomainLaws.{positions_are}
use Rattle.fold.specs.declared.pairs.Seen.{Seen}
use Rattle.fold.specs.Cells.{Cell, cell, cells_in}
use Rattle.fold.specs.Unfolds.{shallow, inside, apart, ordered, passes}
use Rattle.fold.specs.Inside.Pairs.{seen_pair, Laid, Tested}
use Rattle.whole.proofs.Bools.{both_true}
use Rattle.fold.proofs.PairLaws.{two_next, two_none}

-- ---- what passes them, and what they say of it
pub tested_laid : (r place : ℕ) (cells : List Cell) → shallow r cells ≡ true → inside cells ≡ true → apart r place cells ≡ true → Laid r place cells
unfolding shallow inside apart
tested_laid r place [] a b c = tt
tested_laid r place (cell m p ∷ cells) a b c =
    let d = both_true (leb m r) (shallow r cells) a in
    let e = both_true (ltb p (4 ^ m)) (inside cells) b in
    let f = both_true (leb place (p * 4 ^ (r - m))) (apart r (suc p * 4 ^ (r - m)) cells) c in
    (leb-true m r d.0, ltb-true p (4 ^ m) e.0, leb-true place (p * 4 ^ (r - m)) f.0, tested_laid r (suc p * 4 ^ (r - m)) cells d.1 e.1 f.1)

-- and so back
pub laid_shallow : (r place : ℕ) (cells : List Cell) → Laid r place cells → shallow r cells ≡ true
unfolding shallow
laid_shallow r place [] l = refl
laid_shallow r place (cell m p ∷ cells) l = rw (le-leb m r l.0) (laid_shallow r (suc p * 4 ^ (r - m)) cells l.3)

pub laid_inside : (r place : ℕ) (cells : List Cell) → Laid r place cells → inside cells ≡ true
unfolding inside
laid_inside r place [] l = refl
laid_inside r place (cell m p ∷ cells) l = rw (lt-ltb p (4 ^ m) l.1) (laid_inside r (suc p * 4 ^ (r - m)) cells l.3)

pub laid_apart : (r place : ℕ) (cells : List Cell) → Laid r place cells → apart r place cells ≡ true
unfolding apart
laid_apart r place [] l = refl
laid_apart r place (cell m p ∷ cells) l = rw (le-leb place (p * 4 ^ (r - m)) l.2) (laid_apart r (suc p * 4 ^ (r - m)) cells l.3)

pub ordered_laid : (r : ℕ) (xs : List ℕ) → shallow r (cells_in xs) ≡ true → inside (cells_in xs) ≡ true → ordered r xs ≡ true → Laid r 0 (cells_in xs)
unfolding ordered
ordered_laid r xs a b c = tested_laid r 0 (cells_in xs) a b (both_true (eqb (length xs % 2) 0) (apart r 0 (cells_in xs)) c).1

three_passed : (a b c : Bool) → cond a (cond b (cond c 3 2) 1) zero ≡ 3 → (a ≡ true) × (b ≡ true) × (c ≡ true)
three_passed true true true e = (refl, refl, refl)
three_passed true true false e = let z : ⊥ = omega arith in absurd z
three_passed true false c e = let z : ⊥ = omega arith in absurd z
three_passed false b c e = let z : ⊥ = omega arith in absurd z

pub passes_tested : (r : ℕ) (xs : List ℕ) → passes r xs ≡ 3 → Tested r xs
unfolding passes
passes_tested r xs e =
    let all = three_passed (leb r 30 && shallow r (cells_in xs)) (inside (cells_in xs)) (ordered r xs) e in
    let deep = both_true (leb r 30) (shallow r (cells_in xs)) all.0 in
    record { low = leb-true r 30 deep.0; laid = ordered_laid r xs deep.1 all.1 all.2 }

-- a cell ends where the positions end, or before
pub ends_inside : (r m p : ℕ) → m ≤ r → p < 4 ^ m → suc p * 4 ^ (r - m) ≤ 4 ^ r
ends_inside r m p h l =
    let e : m + (r - m) ≡ r = omega arith in
    omega (arith, N.mul-le-mul_right (4 ^ (r - m)) l, pow-add 4 m (r - m), ap (λ (x : ℕ). 4 ^ x) e)

-- ---- cells that are apart are so at every finer resolution
module _ (r d : ℕ) where
  scaled : (m p : ℕ) → m ≤ r → p * 4 ^ (r + d - m) ≡ p * 4 ^ (r - m) * 4 ^ d
  scaled m p h =
      let e : r + d - m ≡ (r - m) + d = omega arith in
      ap (λ (x : ℕ). p * 4 ^ x) e ∙ ap (λ (x : ℕ). p * x) (pow-add 4 (r - m) d) ∙ sym (N.mul_assoc p (4 ^ (r - m)) (4 ^ d))

  laid_scaled : (place : ℕ) (cells : List Cell) → Laid r place cells → Laid (r + d) (place * 4 ^ d) cells
  laid_scaled place [] l = tt
  laid_scaled place (cell m p ∷ cells) l =
      let h = l.0 in (
        omega arith,
        l.1,
        rw (scaled m p h) (N.mul-le-mul_right (4 ^ d) l.2),
        rw (scaled m (suc p) h) (laid_scaled (suc p * 4 ^ (r - m)) cells l.3),
      )

  pub laid_finer : (cells : List Cell) → Laid r 0 cells → Laid (r + d) 0 cells
  laid_finer cells l = rw (N.zero-mul (4 ^ d)) at (laid_scaled 0 cells l)

pub low_power : (r : ℕ) → r ≤ 30 → 4 ^ r ≤ 4 ^ 30
low_power r h = N.pow-le-pow_right {n = 4} (omega arith) h

-- ---- one pair, as the code sees it
-- a conjunction, by its first part
pub and_then : (x y : Bool) {z : Bool} → x ≡ true → z ≡ y → z ≡ (x && y)
and_then x y e f = rw e f

pub and_else : (x y : Bool) {z : Bool} → x ≡ false → z ≡ x → z ≡ (x && y)
and_else x y e f = rw e (f ∙ e)

module _ (r : ℕ) (seen : Seen) (m p : ℕ) (bound : (r ≤ 30) × (m ≤ r)) {size : ℕ} (size_is : size ≡ position_count m) where
  sized : size ≡ 4 ^ m
  sized = positions_are m (omega arith) size_is

  pub seen_outside : size ≤ p → record { bounded = false; sorted = seen.sorted; end = seen.end } ≡ seen_pair r seen m p
  unfolding seen_pair
  seen_outside h = rw (le-ltb p (4 ^ m) (rw (← sized) h)) refl

  module _ (h : p < size) {n : ℕ} (n_is : n ≡ position_count (r - m)) where
    wide : n ≡ 4 ^ (r - m)
    wide = positions_are (r - m) (omega arith) n_is

    below : p < 4 ^ m
    below = rw (← sized) h

    ends : p * n + n ≤ 4 ^ 30
    ends = omega (arith, N.suc-mul p (4 ^ (r - m)), ends_inside r m p bound.1 below, low_power r bound.0, ap (λ (x : ℕ). p * x) wide, wide)

    pub first_fits : Fits w64 (p * n)
    first_fits = omega (arith, ends)

    pub end_fits : Fits w64 (p * n + n)
    end_fits = omega (arith, ends)

    pub seen_inside : {sorted : Bool} → sorted ≡ (seen.sorted && leb seen.end (p * n)) → record { bounded = seen.bounded; sorted = sorted; end = p * n + n } ≡ seen_pair r seen m p
    unfolding seen_pair
    seen_inside e =
        let j : suc p * 4 ^ (r - m) ≡ p * n + n = N.suc-mul p (4 ^ (r - m)) ∙ ap (λ (x : ℕ). p * x + x) (sym wide) in
        rw (lt-ltb p (4 ^ m) below, j, ← wide, e) refl

pub ruleset seeing = (seen_outside, first_fits, end_fits, seen_inside, and_then, and_else)

-- ---- the walk: what is seen of the first i cells, and the rest, tell what the whole list tells
pub record Read (r : ℕ) (xs : List ℕ) (seen : Seen) (i : ℕ) : Type 0 where
  pub deep : shallow r (drop i (cells_in xs)) ≡ shallow r (cells_in xs)
  pub low : (seen.bounded && inside (drop i (cells_in xs))) ≡ inside (cells_in xs)
  pub tidy : seen.bounded ≡ true → (seen.sorted && apart r seen.end (drop i (cells_in xs))) ≡ apart r 0 (cells_in xs)

pub read_none : (r : ℕ) (xs : List ℕ) → Read r xs (record { bounded = true; sorted = true; end = 0 }) 0
read_none r xs = record { deep = refl; low = refl; tidy = λ e. refl }

pub passes_deep : (r : ℕ) (xs : List ℕ) → 30 < r → 0 ≡ passes r xs
unfolding passes
passes_deep r xs h = rw (lt-leb r 30 h)

module _ (r : ℕ) (xs : List ℕ) {twos : List (List ℕ)} (twos_is : twos ≡ first_chunks 2 (length xs / 2) xs) {seen : Seen} {i : ℕ} (got : Read r xs seen i) where
  abbrev rest : List Cell
  rest = drop i (cells_in xs)

  -- ---- one more pair
  module _ (h : i < length twos) where
    abbrev m : ℕ
    m = get_or (get_or twos i []) 0 0

    abbrev p : ℕ
    p = get_or (get_or twos i []) 1 0

    abbrev behind : List Cell
    behind = drop (i + 1) (cells_in xs)

    next : rest ≡ cell m p ∷ behind
    next = two_next xs twos_is i h

    pub read_deep : r < m → 0 ≡ passes r xs
    unfolding shallow passes
    read_deep l = let e : false ≡ shallow r (cells_in xs) = rw (next, lt-leb m r l) at got.deep in rw (← e) (rw (and-false (leb r 30)))

    module _ (l : m ≤ r) where
      deep_more : shallow r behind ≡ shallow r (cells_in xs)
      unfolding shallow
      deep_more = rw (next, le-leb m r l) at got.deep

      outside_more : 4 ^ m ≤ p → Read r xs (record { bounded = false; sorted = seen.sorted; end = seen.end }) (i + 1)
      unfolding inside
      outside_more g =
          let e : inside rest ≡ false = rw (next, le-ltb p (4 ^ m) g) refl in
          record {
            deep = deep_more;
            low = sym (and-false seen.bounded) ∙ ap (λ (x : Bool). seen.bounded && x) (sym e) ∙ got.low;
            tidy = λ f. absurd (true≢false (sym f));
          }

      inside_more : p < 4 ^ m → Read r xs (record { bounded = seen.bounded; sorted = seen.sorted && leb seen.end (p * 4 ^ (r - m)); end = suc p * 4 ^ (r - m) }) (i + 1)
      unfolding inside apart
      inside_more g =
          let n = 4 ^ (r - m) in
          let e : apart r seen.end rest ≡ (leb seen.end (p * n) && apart r (suc p * n) behind) = rw next refl in
          record {
            deep = deep_more;
            low = rw (next, lt-ltb p (4 ^ m) g) at got.low;
            tidy = λ f. and_assoc seen.sorted (leb seen.end (p * n)) (apart r (suc p * n) behind) ∙ ap (λ (x : Bool). seen.sorted && x) (sym e) ∙ got.tidy f;
          }

      pub read_more : {after : Seen} → after ≡ seen_pair r seen m p → Read r xs after (i + 1)
      unfolding seen_pair
      read_more e = elim (dec_lt p (4 ^ m)) [
        | yes g ↦ subst (λ (x : Seen). Read r xs x (i + 1)) (sym (e ∙ rw (lt-ltb p (4 ^ m) g) refl)) (inside_more g)
        | no g ↦ subst (λ (x : Seen). Read r xs x (i + 1)) (sym (e ∙ rw (le-ltb p (4 ^ m) (omega arith)) refl)) (outside_more (omega arith))
      ]

  -- ---- all are read
  module _ (bound : r ≤ 30) (h : length twos ≤ i) where
    none : rest ≡ []
    none = two_none xs twos_is i h

    all_shallow : (leb r 30 && shallow r (cells_in xs)) ≡ true
    unfolding shallow
    all_shallow = rw (le-leb r 30 bound) (sym got.deep ∙ rw none refl)

    all_inside : inside (cells_in xs) ≡ seen.bounded
    unfolding inside
    all_inside = sym got.low ∙ rw none (and-true seen.bounded)

    pub read_one : not seen.bounded ≡ true → 1 ≡ passes r xs
    unfolding passes
    read_one b = simp (all_shallow, all_inside, not-true seen.bounded b)

    module _ (b : not seen.bounded ≡ false) {alone : ℕ} (alone_is : alone ≡ length xs % 2) {t : Bool} (k : t ≡ (seen.sorted && eqb alone 0)) where
      in_order : ordered r xs ≡ t
      unfolding apart ordered
      in_order =
          let e : apart r 0 (cells_in xs) ≡ seen.sorted = sym (got.tidy (not-false seen.bounded b)) ∙ rw none (and-true seen.sorted) in
          ap (λ (x : Bool). eqb (length xs % 2) 0 && x) e ∙ and_comm (eqb (length xs % 2) 0) seen.sorted ∙ sym (rw (← alone_is) k)

      pub read_two : not t ≡ true → 2 ≡ passes r xs
      unfolding passes
      read_two s = simp (all_shallow, all_inside, not-false seen.bounded b, in_order, not-true t s)

      pub read_all : not t ≡ false → 3 ≡ passes r xs
      unfolding passes
      read_all s = simp (all_shallow, all_inside, not-false seen.bounded b, in_order, not-false t s)

pub ruleset reading = (passes_deep, read_none, read_deep, read_more, read_one, read_two, read_all)
