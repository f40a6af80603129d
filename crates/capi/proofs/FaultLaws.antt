-- A fault's number is at most 20 and its line at most 9, so that a status has both: test 12 finds the ninth line at fault, and the later tests see no more than eight.
use mathlib.Core.Path.{◌≡◌, refl}
use mathlib.Core.Bool.{Bool, true, false, cond, ◌||◌, not}
use mathlib.Core.List.{List, [], ◌∷◌, ◌++◌}
use Prim.Native.Nat.{ℕ, zero, suc, ◌+◌, ◌≤◌, ◌<◌}
use native.Mathlib.Omega.{arith}
use borrow.Author.Tests.{leb-false}
use lib.Dec.{leb}
use lib.ListN.{length, length-append, length-map}
use Rattle.grammar.specs.Texts.{Row, shaped, Line, line_of, rows_of, lines_of}
use Rattle.grammar.specs.Tests.{Verdict, fine, fault, first_from, first, fault_at, bad_shape, line_tests, some_rows, text_tests}
use Rattle.tables.specs.Verdicts.{split_tests, verdict}

-- ---- the line that a test finds
first_within : {A : Type 0} (bad : List A → A → Bool) (before ls : List A) → first_from bad before ls ≤ length before + length ls
first_within bad before [] = omega arith
first_within bad before (l ∷ ls) = go (bad before l) (first_within bad (before ++ (l ∷ [])) ls)
  where
    go : (b : Bool) → first_from bad (before ++ (l ∷ [])) ls ≤ length (before ++ (l ∷ [])) + length ls
        → cond b (suc (length before)) (first_from bad (before ++ (l ∷ [])) ls) ≤ length before + suc (length ls)
    go true h = omega arith
    go false h = omega (arith, length-append before (l ∷ []))

few_first : {A : Type 0} (bad : List A → A → Bool) (ls : List A) → length ls ≤ 8 → first bad ls ≤ 9
few_first bad ls h = omega (arith, first_within bad [] ls)

fair_row : (before : List Row) (r : Row) → bad_shape before r ≡ false → length before < 8
unfolding bad_shape
fair_row before r e = leb-false 8 (length before) (go (leb 8 (length before)) e)
  where
    go : (b : Bool) → (b || not (shaped r)) ≡ false → b ≡ false
    go true e = e
    go false e = refl

-- ---- rows: one of the first nine is at fault, or there are at most eight
next_row : (before : List Row) (r : Row) → length before < 8 → length (before ++ (r ∷ [])) ≤ 8
next_row before r h = omega (arith, length-append before (r ∷ []))

rows_first : (before rs : List Row) → length before ≤ 8 → first_from bad_shape before rs ≤ 9
rows_first before [] h = omega arith
rows_first before (r ∷ rs) h = go (bad_shape before r) refl (λ k. rows_first (before ++ (r ∷ [])) rs k)
  where
    go : (b : Bool) → bad_shape before r ≡ b → (length (before ++ (r ∷ [])) ≤ 8 → first_from bad_shape (before ++ (r ∷ [])) rs ≤ 9)
        → cond b (suc (length before)) (first_from bad_shape (before ++ (r ∷ [])) rs) ≤ 9
    go true e next = omega arith
    go false e next = next (next_row before r (fair_row before r e))

rows_few : (before rs : List Row) → length before ≤ 8 → first_from bad_shape before rs ≡ 0 → length before + length rs ≤ 8
rows_few before [] h e = omega arith
rows_few before (r ∷ rs) h e = go (bad_shape before r) refl e (λ k f. rows_few (before ++ (r ∷ [])) rs k f)
  where
    go : (b : Bool) → bad_shape before r ≡ b → cond b (suc (length before)) (first_from bad_shape (before ++ (r ∷ [])) rs) ≡ 0
        → (length (before ++ (r ∷ [])) ≤ 8 → first_from bad_shape (before ++ (r ∷ [])) rs ≡ 0 → length (before ++ (r ∷ [])) + length rs ≤ 8) → length before + suc (length rs) ≤ 8
    go true t e next = absurd (omega arith)
    go false t e next = omega (arith, length-append before (r ∷ []), next (next_row before r (fair_row before r t)) e)

-- ---- a verdict's number and line
abbrev pub Few : Verdict → Type 0
Few fine = Unit
Few (fault n line) = (n ≤ 20) × (line ≤ 9)

few_at : (n line : ℕ) (next : Verdict) → n ≤ 20 → line ≤ 9 → Few next → Few (fault_at n line next)
few_at n zero next h k f = f
few_at n (suc line) next h k f = (h, k)

module _ (ls : List Line) (h : length ls ≤ 8) where
  split_few : Few (split_tests ls)
  unfolding split_tests
  split_few = few_at 20 _ fine (omega arith) (few_first _ ls h) tt

  line_few : (next : Verdict) → Few next → Few (line_tests ls next)
  unfolding line_tests
  line_few next f =
      few_at 13 _ _ (omega arith) (few_first _ ls h)
      (few_at 14 _ _ (omega arith) (few_first _ ls h)
      (few_at 15 _ _ (omega arith) (few_first _ ls h)
      (few_at 16 _ _ (omega arith) (few_first _ ls h)
      (few_at 17 _ _ (omega arith) (few_first _ ls h)
      (few_at 18 _ _ (omega arith) (few_first _ ls h)
      (few_at 19 _ _ (omega arith) (few_first _ ls h) f))))))

text_few : (rs : List Row) (next : Verdict) → (length rs ≤ 8 → Few next) → Few (some_rows rs next)
text_few [] next f = (omega arith, omega arith)
text_few (r ∷ rs) next f = go (first bad_shape (r ∷ rs)) refl
  where
    go : (k : ℕ) → first bad_shape (r ∷ rs) ≡ k → Few (fault_at 12 k next)
    go zero e = f (omega (arith, rows_few [] (r ∷ rs) (omega arith) e))
    go (suc k) e = (omega arith, omega (arith, rows_first [] (r ∷ rs) (omega arith), e))

pub verdict_few : (text : List ℕ) → Few (verdict text)
unfolding verdict text_tests lines_of
verdict_few text =
    text_few (rows_of text) _
    (λ h. let k : length (lines_of text) ≤ 8 = omega (arith, length-map (rows_of text) line_of) in line_few (lines_of text) k _ (split_few (lines_of text) k))

pub fault_few : (text : List ℕ) {n line : ℕ} → verdict text ≡ fault n line → (n ≤ 20) × (line ≤ 9)
fault_few text e = rw e at (verdict_few text)
