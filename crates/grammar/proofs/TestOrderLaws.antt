-- The tests one after the other, in the form of what the code has in hand: the first line at fault by each, and 0 by those before.
use mathlib.Core.Path.{◌≡◌, refl, sym, ap, ◌∙◌}
use mathlib.Core.Bool.{Bool, true, false}
use mathlib.Core.List.{List, [], ◌∷◌}
use Prim.Native.Nat.{ℕ, zero, suc, ◌+◌, ◌≤◌, ◌<◌, min}
use native.Mathlib.Nat.{zero-add}
use native.Mathlib.Omega.{arith}
use native.Mathlib.Numerals.{add-one}
use lib.ListN.{length, get_or, take, drop, drop_of_length-le}
use lib.Seq.{drop-cons}
use Rattle.std.proofs.Common.{Option, Some, None}
use Rattle.std.specs.Option.{MatchOption}
use Rattle.triple.specs.declared.refusal.Refusal.{Refusal}
use Rattle.triple.specs.Refusals.{number_of}
use Rattle.grammar.specs.declared.lines.Lines.{Lines}
use Rattle.grammar.specs.declared.scan.Scan.{Scan}
use Rattle.grammar.specs.declared.tests.Test.{Test}
use Rattle.grammar.specs.Texts.{rows_of, Line, lines_of}
use Rattle.grammar.specs.Tests.{Verdict, fine, fault, first, fault_at, bad_shape, line_tests, some_rows, text_tests}
use Rattle.grammar.specs.Inside.Places.{line_at, lines_from, lines_by, Sized}
use Rattle.grammar.specs.Inside.LineTests.{test_of}
use Rattle.grammar.specs.Scans.{scan_of}
use Rattle.grammar.proofs.FirstLaws.{first_at, first_passed, first_here, first_none}
use Rattle.grammar.proofs.PlaceLaws.{length_lines, Places, places_lines, scan_places}
use Rattle.grammar.proofs.ScanLaws.{some_row}

-- ---- the lines, one by one
take_lines : (text : List ℕ) (ls : Lines) (n k i : ℕ) → n ≤ k → take n (lines_from text ls k i) ≡ lines_from text ls n i
unfolding lines_from
take_lines text ls zero k i h = refl
take_lines text ls (suc n) zero i h = absurd (omega arith)
take_lines text ls (suc n) (suc k) i h = ap (λ l. line_at text ls i ∷ l) (take_lines text ls n k (suc i) (omega arith))

pub line_of : (text : List ℕ) (ls : Lines) (n k i : ℕ) (d : Line) → n < k → get_or (lines_from text ls k i) n d ≡ line_at text ls (i + n)
unfolding lines_from
line_of text ls n zero i d h = absurd (omega arith)
line_of text ls zero (suc k) i d h = let e : i ≡ i + 0 = omega arith in ap (line_at text ls) e
line_of text ls (suc n) (suc k) i d h = let e : suc i + n ≡ i + suc n = omega arith in line_of text ls n k (suc i) d (omega arith) ∙ ap (line_at text ls) e

pub lines_before : (text : List ℕ) (ls : Lines) (i : ℕ) → i < min ls.count 8 → take i (lines_by text ls) ≡ lines_from text ls i 0
unfolding lines_by
lines_before text ls i h = take_lines text ls i (min ls.count 8) 0 (omega arith)

-- ---- the first line at fault
module _ (text : List ℕ) (ls : Lines) (test : Test) where
  abbrev lines : List Line
  lines = lines_by text ls

  -- what the test says of line i
  abbrev bad_at : ℕ → Bool
  bad_at i = test_of lines test (take i lines) (line_at text ls i)

  -- the first of them that is at fault, as a search finds it
  abbrev pub Found : ℕ → Option ℕ → Type 0
  Found rows r = MatchOption r ((k : ℕ) → 0 ≤ k → k < rows → bad_at k ≡ false) (λ i. (0 ≤ i) × (i < rows) × (bad_at i ≡ true) × ((k : ℕ) → 0 ≤ k → k < i → bad_at k ≡ false))

  module _ {rows : ℕ} (rows_is : rows ≡ min ls.count 8) where
    count_is : length lines ≡ rows
    unfolding lines_by
    count_is = length_lines text ls (min ls.count 8) 0 ∙ sym rows_is

    here : (i : ℕ) → i < rows → get_or lines i (line_at text ls 0) ≡ line_at text ls i
    unfolding lines_by
    here i h = line_of text ls i (min ls.count 8) 0 (line_at text ls 0) (omega arith) ∙ ap (line_at text ls) (zero-add i)

    passed : (k : ℕ) → k ≤ rows → ((j : ℕ) → 0 ≤ j → j < k → bad_at j ≡ false) → first (test_of lines test) lines ≡ first_at (test_of lines test) lines k
    passed k h f = first_passed (test_of lines test) lines (line_at text ls 0) k (omega (arith, count_is)) (λ j g. rw (here j (omega arith)) (f j (omega arith) g))

    pub first_found : (r : Option ℕ) → Found rows r → MatchOption r (first (test_of lines test) lines ≡ 0) (λ i. (i < 8) × (first (test_of lines test) lines ≡ i + 1))
    first_found (Some i) f =
        (omega (arith, f.1), passed i (omega (arith, f.1)) f.3 ∙ first_here (test_of lines test) lines i (line_at text ls 0) (omega (arith, count_is, f.1)) (rw (here i f.1) f.2))
    first_found None f = passed rows (omega arith) f ∙ first_none (test_of lines test) lines rows (omega (arith, count_is))

-- ---- the tests' order
module _ (n : ℕ) {k first : ℕ} (e : k ≡ first) (next : Verdict) where
  pub stopped : (k ≡ 0 → ⊥) → fault n k ≡ fault_at n first next
  stopped h = rw e (go first (λ z. h (e ∙ z)))
    where
      go : (f : ℕ) → (f ≡ 0 → ⊥) → fault n f ≡ fault_at n f next
      go zero h = absurd (h refl)
      go (suc f) h = refl

  pub passed_by : {v : Verdict} → k ≡ 0 → v ≡ next → v ≡ fault_at n first next
  passed_by z f = f ∙ (rw (sym e ∙ z) refl)

-- what is left to ask, test after test, each with its refusal
abbrev pub asked : List Line → List (Test × Refusal) → Verdict
asked ls [] = fine
asked ls ((t, e) ∷ ts) = fault_at (number_of e) (first (test_of ls t) ls) (asked ls ts)

module _ (ls : List Line) (tests : List (Test × Refusal)) (k : ℕ) (d : Test × Refusal) (h : k < length tests) where
  pub asked_fault : (n : ℕ) → first (test_of ls (get_or tests k d).0) ls ≡ n + 1 → fault (number_of (get_or tests k d).1) (n + 1) ≡ asked ls (drop k tests)
  asked_fault n e = rw (drop-cons tests k d, e, add-one) refl

  pub asked_next : first (test_of ls (get_or tests k d).0) ls ≡ 0 → asked ls (drop (k + 1) tests) ≡ asked ls (drop k tests)
  asked_next e = rw (drop-cons tests k d, add-one, e) refl

pub asked_none : (ls : List Line) (tests : List (Test × Refusal)) (k : ℕ) → length tests ≤ k → fine ≡ asked ls (drop k tests)
asked_none ls tests k h = rw (drop_of_length-le tests {i = k} h) refl

-- ---- the text
module _ (text : List ℕ) where
  pub empty_text : length text ≡ 0 → fault 12 0 ≡ text_tests text fine
  unfolding text_tests rows_of
  empty_text h = go text h
    where
      go : (t : List ℕ) → length t ≡ 0 → fault 12 0 ≡ some_rows (rows_of t) (line_tests (lines_of t) fine)
      go [] h = refl
      go (b ∷ t) h = absurd (omega arith)

  module _ {s : Scan} (scanned : s ≡ scan_of text) where
    pub lines_kept : s.lines ≡ (scan_of text).lines
    lines_kept = ap (λ s. s.lines) scanned

    fault_is : s.fault ≡ first bad_shape (rows_of text)
    unfolding scan_of
    fault_is = ap (λ s. s.fault) scanned

    places : s.fault ≡ 0 → Places text s.lines (lines_of text)
    places h = rw scanned (scan_places text (sym fault_is ∙ h))

    pub scanned_sized : s.fault ≡ 0 → Sized s.lines
    scanned_sized h = (places h).sized

    pub scanned_lines : s.fault ≡ 0 → lines_by text s.lines ≡ lines_of text
    scanned_lines h = places_lines (places h)

    module _ (some : length text ≡ 0 → ⊥) where
      rows_tested : (next : Verdict) → some_rows (rows_of text) next ≡ fault_at 12 (first bad_shape (rows_of text)) next
      rows_tested next = let r = some_row text (omega arith) in rw r.rows refl

      pub text_shape : (s.fault ≡ 0 → ⊥) → fault 12 s.fault ≡ text_tests text fine
      unfolding text_tests
      text_shape h = stopped 12 fault_is (line_tests (lines_of text) fine) h ∙ sym (rows_tested (line_tests (lines_of text) fine))

      pub text_lines : s.fault ≡ 0 → {v : Verdict} → v ≡ line_tests (lines_by text s.lines) fine → v ≡ text_tests text fine
      unfolding text_tests
      text_lines h e =
          passed_by 12 fault_is (line_tests (lines_of text) fine) h (e ∙ ap (λ ls. line_tests ls fine) (scanned_lines h)) ∙ sym (rows_tested (line_tests (lines_of text) fine))

pub ruleset scanned_text = (empty_text, scanned_sized, text_shape, text_lines)
