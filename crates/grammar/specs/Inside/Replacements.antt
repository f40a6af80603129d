-- What stands in a byte's place after a pass, and the word that a search of the book found.
use Rattle.std.specs.Prelude.{List, [], ◌∷◌, ℕ, Option}
use Rattle.grammar.specs.Words.{reversed}
use Rattle.grammar.specs.Books.{book_of}
use Rattle.grammar.specs.declared.word.Lexicon.{Lexicon}
use Rattle.grammar.specs.declared.word.Replacement.{Replacement}

-- the words of a book with its bytes
abbrev pub book_in : Lexicon → ℕ → Option (List ℕ)
book_in x = book_of x.bytes.now x.book

-- what byte b becomes
abbrev pub replacement_word : ℕ → Replacement → List ℕ
replacement_word b (Replacement.Along w) = w.now
replacement_word b (Replacement.Back w) = reversed w.now
replacement_word b Replacement.Itself = b ∷ []
