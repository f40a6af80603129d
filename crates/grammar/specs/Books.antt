-- A book of words: which word each motif's letter has, as parts of one slice of bytes.
use Rattle.std.specs.Prelude.{cond, List, ℕ, zero, suc, min, eqb, get_or, take, drop, Option, None, Some}
use Rattle.grammar.specs.declared.word.Book.{Book}

-- the word of row i: so many bytes from a place on, or as many as there are
abbrev pub row_word : List ℕ → List ℕ → List ℕ → ℕ → List ℕ
row_word words from len i = take (get_or len i 0) (drop (get_or from i 0) words)

-- the word of the first of k rows, from row i on, whose letter is b
unfoldable pub rows_word : List ℕ → List ℕ → List ℕ → List ℕ → ℕ → ℕ → ℕ → Option (List ℕ)
rows_word words letters from len b zero i = None
rows_word words letters from len b (suc k) i =
    cond (eqb (get_or letters i 0) b) (Some (row_word words from len i)) (rows_word words letters from len b k (suc i))

-- a byte's word, by the first `count` of the book's eight rows
unfoldable pub book_of : List ℕ → Book → ℕ → Option (List ℕ)
book_of words book b = rows_word words book.letters book.from book.len b (min book.count 8) 0
