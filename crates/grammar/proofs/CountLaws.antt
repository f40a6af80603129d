-- How many tokens a text has that is accepted: two for each letter that is listed, and test 12 lets no more than eight lines through.
use mathlib.Core.Path.{◌≡◌, refl}
use mathlib.Core.Bool.{Bool, true, false, not, ◌||◌, cond}
use mathlib.Core.List.{List, [], ◌∷◌, ◌++◌, map}
use Prim.Native.Nat.{ℕ, zero, suc, ◌+◌, ◌*◌, ◌%◌, ◌<◌, ◌≤◌}
use native.Mathlib.Omega.{arith}
use borrow.Author.Tests.{eqb-true, ne_eqb, leb-false}
use lib.Dec.{T, eqb, leb}
use lib.ListN.{length, length-append, length-map}
use Rattle.grammar.specs.Texts.{Row, shaped, Line, line_of, rows_of, lines_of}
use Rattle.grammar.specs.Curves.{is_named, named_from, token_bytes}
use Rattle.grammar.specs.Tests.{Verdict, fine, first_from, first, bad_shape, some_rows, text_tests}
use Rattle.grammar.proofs.GoodLineLaws.{no_fault, not_here}

-- ---- lines
shaped_here : (before : List Row) (r : Row) → T (not (bad_shape before r)) → length before < 8
unfolding bad_shape
shaped_here before r t = leb-false 8 (length before) (go (leb 8 (length before)) t)
  where
    go : (b : Bool) → T (not (b || not (shaped r))) → b ≡ false
    go true t = absurd t
    go false t = refl

rows_few : (before rs : List Row) → first_from bad_shape before rs ≡ 0 → length before ≤ 8 → length before + length rs ≤ 8
rows_few before [] e h = omega arith
rows_few before (r ∷ rs) e h =
    let here = not_here (bad_shape before r) (length before) _ e in
    let one = length-append before (r ∷ []) in
    omega (arith, one, rows_few (before ++ (r ∷ [])) rs here.1 (omega (arith, one, shaped_here before r here.0)))

some_few : (rs : List Row) (next : Verdict) → some_rows rs next ≡ fine → length rs ≤ 8
some_few [] next e = omega arith
some_few (r ∷ rs) next e = omega (arith, rows_few [] (r ∷ rs) (no_fault 12 (first bad_shape (r ∷ rs)) next e).0 (omega arith))

pub lines_few : (text : List ℕ) (next : Verdict) → text_tests text next ≡ fine → length (lines_of text) ≤ 8
unfolding text_tests lines_of
lines_few text next p = omega (arith, length-map (rows_of text) line_of, some_few (rows_of text) _ p)

-- ---- letters that are listed: one more line lists at most one more
module _ (l : Line) (ls : List Line) where
  past : (n b : ℕ) → l.name < b → length (named_from (l ∷ ls) n b) ≤ length (named_from ls n b)
  past zero b h = omega arith
  past (suc n) b h = rw (ne_eqb l.name b (omega arith)) (go (is_named ls b) (past n (suc b) (omega arith)))
    where
      go : (t : Bool) → length (named_from (l ∷ ls) n (suc b)) ≤ length (named_from ls n (suc b)) → length (cond t (b ∷ named_from (l ∷ ls) n (suc b)) (named_from (l ∷ ls) n (suc b))) ≤ length (cond t (b ∷ named_from ls n (suc b)) (named_from ls n (suc b)))
      go true h = omega arith
      go false h = h

  one_more : (n b : ℕ) → length (named_from (l ∷ ls) n b) ≤ suc (length (named_from ls n b))
  one_more zero b = omega arith
  one_more (suc n) b = go (eqb l.name b) refl (is_named ls b) (one_more n (suc b))
    where
      go : (u : Bool) → eqb l.name b ≡ u → (t : Bool) → length (named_from (l ∷ ls) n (suc b)) ≤ suc (length (named_from ls n (suc b)))
          → length (cond (u || t) (b ∷ named_from (l ∷ ls) n (suc b)) (named_from (l ∷ ls) n (suc b))) ≤ suc (length (cond t (b ∷ named_from ls n (suc b)) (named_from ls n (suc b))))
      go true e true h = omega arith
      go true e false h = omega (arith, past n (suc b) (omega (arith, eqb-true l.name b e)))
      go false e true h = omega arith
      go false e false h = h

no_names : (n b : ℕ) → length (named_from [] n b) ≡ 0
no_names zero b = refl
no_names (suc n) b = no_names n (suc b)

names_few : (ls : List Line) (n b : ℕ) → length (named_from ls n b) ≤ length ls
names_few [] n b = omega (arith, no_names n b)
names_few (l ∷ ls) n b = omega (arith, one_more l ls n b, names_few ls n b)

-- ---- tokens
tokens_twice : (ls : List Line) → length (token_bytes ls) ≡ 2 * length (named_from ls 26 65)
unfolding token_bytes
tokens_twice ls = let names = named_from ls 26 65 in omega (arith, length-append names (map (λ b. b + 32) names), length-map names (λ b. b + 32))

pub tokens_even : (ls : List Line) → length (token_bytes ls) % 2 ≡ 0
tokens_even ls = even (length (named_from ls 26 65)) (tokens_twice ls)
  where
    even : (k : ℕ) {n : ℕ} → n ≡ 2 * k → n % 2 ≡ 0
    even k e = omega arith

pub tokens_few : (text : List ℕ) (next : Verdict) → text_tests text next ≡ fine → length (token_bytes (lines_of text)) ≤ 16
tokens_few text next p = few (tokens_twice (lines_of text)) (names_few (lines_of text) 26 65) (lines_few text next p)
  where
    few : {n k m : ℕ} → n ≡ 2 * k → k ≤ m → m ≤ 8 → n ≤ 16
    few e h l = omega arith
