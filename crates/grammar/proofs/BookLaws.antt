-- A book of words in the form of what the code has in hand: the first of its rows that has a letter, and a byte's word by what
-- was found.
use mathlib.Core.Path.{◌≡◌, refl, sym, ap, ◌∙◌}
use mathlib.Core.List.{List, [], ◌∷◌, ◌++◌}
use Prim.Native.Nat.{ℕ, zero, suc, ◌+◌, ◌-◌, ◌≤◌, ◌<◌, min}
use native.Mathlib.Nat.{zero-add, add-zero, add-suc, suc-add}
use native.Mathlib.Omega.{arith}
use lib.ListN.{length, get_or, take, drop, length-take}
use lib.Seq.{get_or-take}
use borrow.Author.Tests.{eq-eqb, ne_eqb}
use Rattle.std.specs.Prelude.{Option, Some, None}
use Rattle.std.specs.List.{AllWithin, HoldsAt}
use Rattle.whole.proofs.Fill.{fronted}
use Rattle.grammar.specs.declared.word.Book.{Book}
use Rattle.grammar.specs.Words.{upper, reversed, word_of}
use Rattle.grammar.specs.Books.{row_word, rows_word, book_of}

-- ---- rows

-- k rows that have not the letter are passed over
rows_passed : (words letters from len : List ℕ) (b k n i : ℕ) → ((j : ℕ) → j < k → get_or letters (i + j) 0 ≡ b → ⊥)
    → rows_word words letters from len b (k + n) i ≡ rows_word words letters from len b n (i + k)
unfolding rows_word
rows_passed words letters from len b zero n i f = let e : i + 0 ≡ i = omega arith in let m : 0 + n ≡ n = omega arith in rw (e, m) refl
rows_passed words letters from len b (suc k) n i f =
    let first : get_or letters i 0 ≡ b → ⊥ = λ e. f 0 (omega arith) (ap (λ j. get_or letters j 0) (add-zero i) ∙ e) in
    let next : i + suc k ≡ suc i + k = omega arith in
    rw (suc-add, ne_eqb (get_or letters i 0) b first, next)
    (rows_passed words letters from len b k n (suc i) (λ j h e. f (suc j) (omega arith) (ap (λ j. get_or letters j 0) (add-suc i j ∙ sym (suc-add i j)) ∙ e)))

-- `rows` are the letters of the first n rows
module _ (words : List ℕ) (book : Book) (b n : ℕ) (n_is : n ≡ min book.count 8) {rows : List ℕ} (rows_are : rows ≡ take n book.letters) where
  -- none of the first k rows has the letter
  abbrev Passed : ℕ → Type 0
  Passed k = AllWithin (λ x. x ≡ b → ⊥) rows 0 k

  letter_at : (i : ℕ) → i < n → get_or rows i 0 ≡ get_or book.letters i 0
  letter_at i h = rw rows_are (get_or-take n book.letters i 0 h)

  book_is : (k m : ℕ) → k + m ≡ n → Passed k → rows_word words book.letters book.from book.len b m k ≡ book_of words book b
  unfolding book_of
  book_is k m e f =
      let all : k + m ≡ min book.count 8 = omega arith in
      let passed = rows_passed words book.letters book.from book.len b k m 0 (λ j h g. f j 0 (omega arith) h (letter_at j (omega arith) ∙ ap (λ j. get_or book.letters j 0) (sym (zero-add j)) ∙ g)) in
      rw (all, zero-add) at (sym passed)

  pub found_here : (i : ℕ) → (i < length rows) × HoldsAt (λ x. x ≡ b) rows i × Passed i → {w : List ℕ} → w ≡ row_word words book.from book.len i → Some w ≡ book_of words book b
  unfolding rows_word
  found_here i f g =
      let inside : i < n = omega (arith, f.0, ap length rows_are, length-take n book.letters) in
      let here : get_or book.letters i 0 ≡ b = sym (letter_at i inside) ∙ f.1 0 in
      ap Some g ∙ (rw (← book_is i (suc (n - suc i)) (omega arith) f.2, eq-eqb (get_or book.letters i 0) b here) refl)

  pub found_nothing : length book.letters ≡ 8 → Passed (length rows) → None ≡ book_of words book b
  unfolding rows_word
  found_nothing e f =
      let all : length rows ≡ n = ap length rows_are ∙ length-take n book.letters ∙ omega arith in
      book_is n 0 (omega arith) (rw all at f)

-- ---- a byte's word by what was found

module _ (book : ℕ → Option (List ℕ)) (b : ℕ) where
  pub word_along : {w : List ℕ} → Some w ≡ book b → w ≡ word_of book b
  unfolding word_of
  word_along e = rw (← e) refl

  module _ (none_here : None ≡ book b) {u : ℕ} (up : u ≡ upper b) where
    pub word_back : {w : List ℕ} → Some w ≡ book u → reversed w ≡ word_of book b
    unfolding word_of
    word_back e = rw (← none_here, ← up, ← e) refl

    pub word_itself : None ≡ book u → b ∷ [] ≡ word_of book b
    unfolding word_of
    word_itself e = rw (← none_here, ← up, ← e) refl

-- v, of k bytes, is the word w: it has room where w has, and written to the front it is w written
module _ {v w : List ℕ} {k : ℕ} (e : v ≡ w) (l : length v ≡ k) where
  pub room_for : {n : ℕ} → length w ≤ n → k ≤ n
  room_for h = omega (arith, ap length e)

  pub wrote : (d : List ℕ) {x : List ℕ} → x ≡ v ++ drop k d → (k ≡ length w) × (x ≡ fronted w d)
  wrote d f = let long : k ≡ length w = sym l ∙ ap length e in (long, f ∙ (rw (long, e)))
