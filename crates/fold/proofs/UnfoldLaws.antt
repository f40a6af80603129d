-- The walk of the code along pairs: how many positions are behind it, which run is next, and what stands in the slice.
use mathlib.Core.Path.{◌≡◌, refl, sym, ap, subst, ◌∙◌}
use mathlib.Core.List.{List, [], ◌∷◌, ◌++◌}
use Prim.Native.Nat.{ℕ, suc, ◌+◌, ◌-◌, ◌*◌, ◌/◌, ◌^◌, ◌<◌, ◌≤◌}
use native.Mathlib.Nat as N
use native.Mathlib.Omega.{arith}
use lib.ListN.{length, get_or, take, drop, length-take, length-drop, length-append}
use lib.Seq.{take-add, take_at, drop_at, drop-drop, length-take-le}
use mir.Syntax.{w64}
use mir.Val.{Fits}
use borrow.Rule.Slice.PartMut.{put_mid}
use Rattle.std.specs.Simd.{first_chunks}
use Rattle.whole.proofs.Fill.{poured, fronted, fronted_back, length_fronted, poured_all}
use Rattle.triple.specs.Domain.{position_count}
use Rattle.triple.proofs.DomainLaws.{positions_are}
use Rattle.fold.specs.Cells.{Cell, cell, cells_in}
use Rattle.fold.specs.Unfolds.{run, unfold_of}
use Rattle.fold.specs.Inside.Pairs.{Laid, Tested}
use Rattle.fold.proofs.PairLaws.{two_next, two_none}
use Rattle.fold.proofs.PairTestLaws.{ends_inside, low_power, passes_tested}
use Rattle.fold.proofs.RunLaws.{length_run, unfold_inside, laid_earlier}

abbrev pub positions_of : ℕ → List ℕ → List ℕ
positions_of r xs = unfold_of r (cells_in xs)

-- n positions are behind the cell i
pub record Passed (r : ℕ) (xs : List ℕ) (n i : ℕ) : Type 0 where
  pub laid : Laid r 0 (drop i (cells_in xs))
  pub few : n ≤ length (positions_of r xs)
  pub rest : unfold_of r (drop i (cells_in xs)) ≡ drop n (positions_of r xs)

pub passed_none : (r : ℕ) (xs : List ℕ) → Tested r xs → Passed r xs 0 0
passed_none r xs t = record { laid = t.laid; few = omega arith; rest = refl }

pub positions_few : (r : ℕ) (xs : List ℕ) → Tested r xs → length (positions_of r xs) ≤ 4 ^ 30
positions_few r xs t = omega (arith, unfold_inside r 0 (cells_in xs) t.laid (omega arith), low_power r t.low)

module _ (r : ℕ) (xs : List ℕ) {twos : List (List ℕ)} {n i : ℕ} (twos_is : twos ≡ first_chunks 2 (length xs / 2) xs) (tested : Tested r xs) (passed : Passed r xs n i) where
  pub passed_all : length twos ≤ i → n ≡ length (positions_of r xs)
  unfolding unfold_of
  passed_all h =
      let f = passed.few in
      let none : unfold_of r (drop i (cells_in xs)) ≡ [] = ap (unfold_of r) (two_none xs twos_is i h) in
      omega (arith, length-drop n (positions_of r xs), ap length (sym passed.rest ∙ none))

  module _ (h : i < length twos) where
    abbrev m : ℕ
    m = get_or (get_or twos i []) 0 0

    abbrev p : ℕ
    p = get_or (get_or twos i []) 1 0

    abbrev behind : List Cell
    behind = drop (i + 1) (cells_in xs)

    laid : Laid r 0 (cell m p ∷ behind)
    laid = subst (Laid r 0) (two_next xs twos_is i h) passed.laid

    pub resolution_low : m ≤ r
    resolution_low = laid.0

    pub resolution_byte : m < 256
    resolution_byte = let l = laid.0 in let t = tested.low in omega arith

    module _ {count : ℕ} (count_is : count ≡ position_count (r - m)) where
      wide : count ≡ 4 ^ (r - m)
      wide = let t = tested.low in positions_are (r - m) (omega arith) count_is

      ends : p * count + count ≤ 4 ^ 30
      ends = omega (arith, N.suc-mul p (4 ^ (r - m)), ends_inside r m p laid.0 laid.1, low_power r tested.low, ap (λ (x : ℕ). p * x) wide, wide)

      -- its positions are the next
      next : drop n (positions_of r xs) ≡ run (p * count) count ++ unfold_of r behind
      unfolding unfold_of
      next = sym passed.rest ∙ ap (unfold_of r) (two_next xs twos_is i h) ∙ rw wide refl

      long : n + count ≤ length (positions_of r xs)
      long =
          let f = passed.few in
          omega (arith, length-drop n (positions_of r xs), ap length next, length-append (run (p * count) count) (unfold_of r behind), length_run (p * count) count)

      after : unfold_of r behind ≡ drop (n + count) (positions_of r xs)
      after =
          sym (drop_at (run (p * count) count) (unfold_of r behind) count (length_run (p * count) count)) ∙ ap (drop count) (sym next)
          ∙ drop-drop count n (positions_of r xs)

      pub count_fits : Fits w64 (n + count)
      count_fits = omega (arith, long, positions_few r xs tested)

      pub first_fits : Fits w64 (p * count)
      first_fits = omega (arith, ends)

      pub run_ends : p * count + count ≤ 4 ^ 30
      run_ends = ends

      pub passed_more : Passed r xs (n + count) (i + 1)
      passed_more = record { laid = laid_earlier r (suc p * 4 ^ (r - m)) 0 behind (omega arith) laid.3; few = long; rest = after }

pub ruleset passing = (passes_tested, passed_none, passed_all, resolution_low, resolution_byte, count_fits, first_fits, run_ends, passed_more)

-- ---- and they stand in the place of the slice's entries
pub record Filled (r : ℕ) (xs slice : List ℕ) (n i : ℕ) (out : List ℕ) : Type 0 where
  pub passed : Passed r xs n i
  pub same_length : length out ≡ length slice
  pub poured_so : out ≡ poured (positions_of r xs) n slice

pub filled_none : (r : ℕ) (xs slice : List ℕ) → Tested r xs → Filled r xs slice 0 0 slice
filled_none r xs slice t = record { passed = passed_none r xs t; same_length = refl; poured_so = refl }

module _ (r : ℕ) (xs slice : List ℕ) {twos : List (List ℕ)} {n i : ℕ} {out : List ℕ} (twos_is : twos ≡ first_chunks 2 (length xs / 2) xs) (tested : Tested r xs) (room : length (positions_of r xs) ≤ length slice)
    (filled : Filled r xs slice n i out) where
  pub start_inside : n ≤ length out
  start_inside = omega (arith, filled.passed.few, filled.same_length)

  module _ (h : i < length twos) {count : ℕ} (count_is : count ≡ position_count (r - get_or (get_or twos i []) 0 0)) where
    abbrev this : List ℕ
    this = run (get_or (get_or twos i []) 1 0 * count) count

    more : n + count ≤ length (positions_of r xs)
    more = long r xs twos_is tested filled.passed h count_is

    pub part_room : count ≤ length (take (length out - n) (drop n out))
    part_room = rw (length-take, length-drop) (omega (arith, more, filled.same_length))

    gathered : take n (positions_of r xs) ++ this ≡ take (n + count) (positions_of r xs)
    gathered =
        sym
        (take-add n count (positions_of r xs)
        ∙ ap (λ (l : List ℕ). take n (positions_of r xs) ++ l) (ap (take count) (next r xs twos_is tested filled.passed h count_is) ∙ take_at this _ count (length_run _ count)))

    -- the part from n on was lent, and came back with the run at its front
    pub filled_more : {last : List ℕ} → last ≡ this ++ drop count (take (length out - n) (drop n out)) → Filled r xs slice (n + count) (i + 1) (put_mid n (length out - n) out last)
    filled_more {last} e =
        let w = take n (positions_of r xs) in
        let front : n ≡ length w = sym (length-take-le n (positions_of r xs) filled.passed.few) in
        let before : out ≡ fronted w slice = filled.poured_so ∙ ap (λ (k : ℕ). w ++ drop k slice) front in
        let came : last ≡ fronted this (take (length out - n) (drop n out)) = e ∙ ap (λ (k : ℕ). this ++ drop k (take (length out - n) (drop n out))) (sym (length_run _ count)) in
        let whole : put_mid n (length out - n) out last ≡ fronted (take (n + count) (positions_of r xs)) slice =
        fronted_back w this slice out last n front before came ∙ ap (λ (l : List ℕ). fronted l slice) gathered in
        let wide = length-take-le (n + count) (positions_of r xs) more in
        record {
          passed = passed_more r xs twos_is tested filled.passed h count_is;
          same_length = ap length whole ∙ length_fronted (take (n + count) (positions_of r xs)) slice (omega (arith, wide, more));
          poured_so = whole ∙ ap (λ (k : ℕ). take (n + count) (positions_of r xs) ++ drop k slice) wide;
        }

  module _ (h : length twos ≤ i) where
    pub filled_count : n ≡ length (positions_of r xs)
    filled_count = passed_all r xs twos_is tested filled.passed h

    pub filled_all : out ≡ positions_of r xs ++ drop (length (positions_of r xs)) slice
    filled_all = let e = filled_count in poured_all (positions_of r xs) slice n (length (positions_of r xs)) refl (omega arith) (omega arith) filled.poured_so

pub ruleset filling = (passes_tested, filled_none, start_inside, part_room, filled_more, filled_count, filled_all)
