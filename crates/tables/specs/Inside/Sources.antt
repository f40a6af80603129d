-- What the compiler has of a text: its lines by where their parts stand, and its tokens' letters.
use Rattle.std.specs.Prelude.{◌≡◌, cond, List, [], ◌∷◌, ℕ, zero, suc, min, take}
use Rattle.grammar.specs.declared.lines.Lines.{Lines}
use Rattle.grammar.specs.Words.{upper}
use Rattle.grammar.specs.Texts.{lines_of}
use Rattle.grammar.specs.Curves.{token_bytes}
use Rattle.grammar.specs.Tests.{fine, text_tests}
use Rattle.grammar.specs.Inside.Places.{lines_by, Sized}
use Rattle.grammar.specs.Scans.{has_name}
use Rattle.tables.specs.declared.Source.{Source}

-- those of n bytes from b on that are letters, in either case, of listed motifs
unfoldable pub listed_from : Lines → ℕ → ℕ → List ℕ
listed_from ls zero b = []
listed_from ls (suc n) b =
    let rest = listed_from ls n (suc b) in
    cond (has_name ls.name (upper b) (min ls.count 8) 0) (b ∷ rest) rest

unfoldable pub letters_in : Source → List ℕ
letters_in s = take s.count s.bytes

-- read from a text that the tests 12 to 19 find no fault with
pub record Ready (text : List ℕ) (s : Source) : Type 0 where
  pub sized : Sized s.lines
  pub lines : lines_by text s.lines ≡ lines_of text
  pub fair : text_tests text fine ≡ fine
  pub tokens : letters_in s ≡ token_bytes (lines_of text)
