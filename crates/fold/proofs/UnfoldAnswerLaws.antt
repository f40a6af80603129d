-- What `unfold` answers, and its slice afterwards, at each of its tests, in the form of what the code has in hand there.
use mathlib.Core.Bool.{true, false}
use mathlib.Core.Path.{◌≡◌, refl, ap, ◌∙◌}
use mathlib.Core.List.{List, ◌++◌}
use Prim.Native.Nat.{ℕ, ◌≤◌, ◌<◌}
use native.Mathlib.Omega.{arith}
use native.Mathlib.Decide.{dec_le}
use lib.Dec.{leb}
use lib.ListN.{length, drop}
use borrow.Author.Tests.{lt-ltb, le-ltb, le-leb, leb-true}
use Rattle.triple.specs.declared.refusal.Refusal.{Refusal}
use Rattle.triple.specs.declared.refusal.Refusal.TheVariants as Is
use Rattle.triple.specs.Refusals.{Told, told, refused, number_of}
use Rattle.triple.specs.Lent.{count_of, after_call, Counted}
use Rattle.triple.proofs.LentLaws.{count_short, count_whole}
use Rattle.fold.specs.declared.pairs.Fault.{Fault}
use Rattle.fold.specs.declared.pairs.Fault.TheVariants as Test
use Rattle.fold.specs.Cells.{Cell, cells_in}
use Rattle.fold.specs.Unfolds.{shallow, inside, ordered, passes, passed_before, unfold_call}
use Rattle.fold.specs.Inside.Pairs.{refusal_at}
use Rattle.whole.proofs.Bools.{both_true}
use Rattle.fold.proofs.FoldAnswerLaws.{refused_count, refused_left}
use Rattle.fold.proofs.PassLaws.{deep_no, deep_yes, low_no, low_yes, tidy_no, tidy_yes}
use Rattle.fold.specs.declared.pairs.Cells.{Cells}
use Rattle.std.proofs.Common.{Result, Ok, Err}
use Rattle.std.specs.Result.{MatchResult, IsErrAnd}
use Rattle.triple.proofs.RefusalLaws.{err_is}
use Rattle.fold.proofs.UnfoldLaws.{positions_of}

-- ---- the room, of pairs that have passed their tests
module _ (r : ℕ) (xs slice : List ℕ) {size : ℕ} (size_is : size ≡ length (positions_of r xs)) where
  module _ (h : length slice < size) where
    short : length slice < length (positions_of r xs)
    short = omega arith

    pub short_count : refused (number_of Is.Room) ≡ count_of (told (positions_of r xs)) slice
    short_count = (count_short (positions_of r xs) slice refl short).0

    pub short_left : slice ≡ after_call (told (positions_of r xs)) slice
    short_left = (count_short (positions_of r xs) slice refl short).1

  module _ (h : size ≤ length slice) where
    pub roomy : length (positions_of r xs) ≤ length slice
    roomy = omega arith

    module _ {n : ℕ} {out : List ℕ} (count_is : n ≡ length (positions_of r xs)) (out_is : out ≡ positions_of r xs ++ drop (length (positions_of r xs)) slice) where
      pub whole_count : told n ≡ count_of (told (positions_of r xs)) slice
      whole_count = ap told count_is ∙ (count_whole (positions_of r xs) slice refl roomy out_is).0

      pub whole_left : out ≡ after_call (told (positions_of r xs)) slice
      whole_left = (count_whole (positions_of r xs) slice refl roomy out_is).1

pub ruleset unfolding_room = (short_count, short_left, roomy, whole_count, whole_left)

-- ---- the tests
module _ (o r : ℕ) (xs : List ℕ) {passed : ℕ} (passed_is : passed ≡ passes r xs) where
  abbrev cells : List Cell
  cells = cells_in xs

  module _ (e : passed ≡ 0) where
    deep : refused (number_of Is.Resolution) ≡ unfold_call o r xs
    unfolding unfold_call
    deep =
        let f = deep_no r xs passed_is e in
        elim (dec_le r 30) [
          | yes h ↦ (let g : shallow r cells ≡ false = rw (le-leb r 30 h) at f in simp (le-ltb 30 r h, g))
          | no h ↦ simp (lt-ltb 30 r (omega arith))
        ]

  module _ (some : passed ≡ 0 → ⊥) where
    both : (leb r 30 ≡ true) × (shallow r cells ≡ true)
    both = both_true (leb r 30) (shallow r cells) (deep_yes r xs passed_is (omega arith))

    low : r ≤ 30
    low = leb-true r 30 both.0

    module _ (h : 5 < o) where
      unoriented : refused (number_of Is.Orientation) ≡ unfold_call o r xs
      unfolding unfold_call
      unoriented = simp (le-ltb 30 r low, both.1, lt-ltb 5 o h)

    module _ (oriented : o ≤ 5) where
      module _ (e : passed ≡ 1) where
        past : refused (number_of Is.Position) ≡ unfold_call o r xs
        unfolding unfold_call
        past =
            let f = low_no r xs passed_is e in
            simp (le-ltb 30 r low, both.1, le-ltb 5 o oriented, f)

      module _ (e : passed ≡ 2) where
        unordered : refused (number_of Is.Order) ≡ unfold_call o r xs
        unfolding unfold_call
        unordered =
            simp (le-ltb 30 r low, both.1, le-ltb 5 o oriented, low_yes r xs passed_is (omega arith), tidy_no r xs passed_is e)

      module _ (e : passed ≡ 1 → ⊥) (f : passed ≡ 2 → ⊥) where
        sound : (inside cells ≡ true) × (ordered r xs ≡ true)
        sound = let three : 3 ≤ passed = omega arith in (low_yes r xs passed_is (omega (arith, three)), tidy_yes r xs passed_is three)

        unfolded : told (positions_of r xs) ≡ unfold_call o r xs
        unfolding unfold_call
        unfolded = simp (le-ltb 30 r low, both.1, le-ltb 5 o oriented, sound.0, sound.1)

-- by the test that a list fails
module _ (o r : ℕ) (xs slice : List ℕ) where
  faulty : (fault : Fault) → passed_before fault ≡ passes r xs → refused (number_of (refusal_at o fault)) ≡ unfold_call o r xs
  faulty Test.Resolution e = deep o r xs e refl
  faulty Test.Position e = elim (dec_le o 5) [
    | yes h ↦ rw (le-ltb 5 o h) (past o r xs e (λ z. omega arith) h refl)
    | no h ↦ rw (lt-ltb 5 o (omega arith)) (unoriented o r xs e (λ z. omega arith) (omega arith))
  ]
  faulty Test.Order e = elim (dec_le o 5) [
    | yes h ↦ rw (le-ltb 5 o h) (unordered o r xs e (λ z. omega arith) h refl)
    | no h ↦ rw (lt-ltb 5 o (omega arith)) (unoriented o r xs e (λ z. omega arith) (omega arith))
  ]

  module _ (fault : Fault) (e : passed_before fault ≡ passes r xs) {refusal : Refusal} (refusal_is : refusal ≡ refusal_at o fault) where
    refuses : refused (number_of refusal) ≡ unfold_call o r xs
    refuses = rw refusal_is (faulty fault e)

    pub faulty_count : refused (number_of refusal) ≡ count_of (unfold_call o r xs) slice
    faulty_count = refused_count slice refuses

    pub faulty_left : slice ≡ after_call (unfold_call o r xs) slice
    faulty_left = refused_left slice refuses

-- what the reading of its pairs answers, each fault as the refusal that it is
module _ (o : ℕ) {m : Result Cells Refusal} where
  pub read_err : (x : Result Cells Fault) → MatchResult x (λ y. m ≡ Ok y) (λ fault. IsErrAnd m (λ d. d ≡ refusal_at o fault)) → {refusal : Refusal} → m ≡ Err refusal → (fault : Fault) × (x ≡ Err fault) × (refusal ≡ refusal_at o fault)
  read_err (Ok y) h was = cc
  read_err (Err fault) h was = let e = err_is (refusal_at o fault) m h in (fault, refl, cc)

  pub read_ok : (x : Result Cells Fault) → MatchResult x (λ y. m ≡ Ok y) (λ fault. IsErrAnd m (λ d. d ≡ refusal_at o fault)) → {cells : Cells} → m ≡ Ok cells → x ≡ Ok cells
  read_ok (Ok y) h was = cc
  read_ok (Err fault) h was = let e = err_is (refusal_at o fault) m h in cc

-- of a list that passes
module _ (o r : ℕ) (xs slice : List ℕ) (e : 3 ≡ passes r xs) where
  module _ (h : 5 < o) where
    no_orientation : refused (number_of Is.Orientation) ≡ unfold_call o r xs
    no_orientation = unoriented o r xs e (λ z. omega arith) h

    pub unoriented_count : refused (number_of Is.Orientation) ≡ count_of (unfold_call o r xs) slice
    unoriented_count = refused_count slice no_orientation

    pub unoriented_left : slice ≡ after_call (unfold_call o r xs) slice
    unoriented_left = refused_left slice no_orientation

  -- its cells, which are of the same pairs
  pub unfolds : o ≤ 5 → {m : ℕ} {ys : List ℕ} → (m ≡ r) × (ys ≡ xs) → {t : Told ℕ} {out : List ℕ} → Counted (told (positions_of m ys)) slice t out → Counted (unfold_call o r xs) slice t out
  unfolds h s c = let f = unfolded o r xs e (λ z. omega arith) h (λ z. omega arith) (λ z. omega arith) in rw (s.0, s.1, f) at c

pub ruleset unfolding_tests = (faulty_count, faulty_left, unoriented_count, unoriented_left)
