-- The lines that stand at the places that a scan keeps; and what the loop of a scan needs of the row at hand.
use Rattle.std.specs.Prelude.{List, [], ◌∷◌, ℕ, zero, suc, ◌+◌, ◌-◌, ◌≤◌, ◌<◌, min, length, get_or}
use Rattle.grammar.specs.declared.lines.Lines.{Lines}
use Rattle.grammar.specs.declared.scan.Scanner.{Scanner}
use Rattle.grammar.specs.Books.{row_word}
use Rattle.grammar.specs.Scans.{with_line}
use Rattle.grammar.specs.Texts.{Line}

abbrev pub line_at : List ℕ → Lines → ℕ → Line
line_at text ls i = record {
  name = get_or ls.name i 0;
  rule = row_word text ls.rule ls.rule_len i;
  draw = row_word text ls.draw ls.draw_len i;
}

unfoldable pub lines_from : List ℕ → Lines → ℕ → ℕ → List Line
lines_from text ls zero i = []
lines_from text ls (suc k) i = line_at text ls i ∷ lines_from text ls k (suc i)

-- the first `count` of eight
unfoldable pub lines_by : List ℕ → Lines → List Line
lines_by text ls = lines_from text ls (min ls.count 8) 0

-- no rule has more than 24 bytes, no draw more than 12
pub record Sized (ls : Lines) : Type 0 where
  pub rules : (i : ℕ) → get_or ls.rule_len i 0 ≤ 24
  pub draws : (i : ℕ) → get_or ls.draw_len i 0 ≤ 12

-- ---- a row of the text from `at` on that is a line: n bytes before its LF, k of them its rule's
pub record LineRoom (text : List ℕ) (at k n : ℕ) : Type 0 where
  pub inside : at + n < length text
  pub long : k + 3 < n
  pub rule_fits : k ≤ 24
  pub draw_fits : n ≤ k + 15

abbrev pub row_added : List ℕ → Scanner → ℕ → ℕ → Scanner
row_added text s k n =
    record { lines = with_line s.lines (get_or text s.at 0) (s.at + 2) k (s.at + (k + 3)) (n - (k + 3)); at = s.at + (n + 1) }
