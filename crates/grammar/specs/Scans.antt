-- A text's lines as a scan keeps them: where the parts of each stand in the text, for the lines before the first that is at fault by 12.
use Rattle.std.specs.Prelude.{Bool, false, ◌||◌, List, [], ◌∷◌, ℕ, zero, suc, ◌+◌, eqb, length, get_or, take, set, replicate}
use Rattle.grammar.specs.declared.lines.Lines.{Lines}
use Rattle.grammar.specs.declared.scan.Scan.{Scan}
use Rattle.grammar.specs.declared.word.Book.{Book}
use Rattle.grammar.specs.Texts.{Line, rows_of, lines_of}
use Rattle.grammar.specs.Tests.{first, bad_shape}

abbrev zeros : List ℕ
zeros = replicate 8 0

abbrev pub no_lines : Lines
no_lines = record { name = zeros; rule = zeros; rule_len = zeros; draw = zeros; draw_len = zeros; count = 0 }

-- one line more: its letter, the place and the length of its rule, those of its draw
abbrev pub with_line : Lines → ℕ → ℕ → ℕ → ℕ → ℕ → Lines
with_line ls name rule long draw wide = record {
  name = set ls.name ls.count name;
  rule = set ls.rule ls.count rule;
  rule_len = set ls.rule_len ls.count long;
  draw = set ls.draw ls.count draw;
  draw_len = set ls.draw_len ls.count wide;
  count = ls.count + 1;
}

-- lines that stand one after the other from a place on: letter, space, rule, space, draw, LF
unfoldable pub lines_placed : Lines → ℕ → List Line → Lines
lines_placed so_far at [] = so_far
lines_placed so_far at (l ∷ ls) =
    let rule = length l.rule in
    let draw = length l.draw in
    lines_placed (with_line so_far l.name (at + 2) rule (at + (rule + 3)) draw) (at + (rule + (draw + 4))) ls

-- those before the first at fault, which has a number from 1; all where none is
abbrev pub unfaulted : ℕ → List Line → List Line
unfaulted zero ls = ls
unfaulted (suc n) ls = take n ls

unfoldable pub scan_of : List ℕ → Scan
scan_of text = let fault = first bad_shape (rows_of text) in record { lines = lines_placed no_lines 0 (unfaulted fault (lines_of text)); fault = fault }

-- ---- what is read off the lines that a scan keeps
-- whether b is the letter of one of k lines from line i on
unfoldable pub has_name : List ℕ → ℕ → ℕ → ℕ → Bool
has_name names b zero i = false
has_name names b (suc k) i = eqb (get_or names i 0) b || has_name names b k (suc i)

-- the books of their rules and of their draws
abbrev pub rule_book : Lines → Book
rule_book ls = record { letters = ls.name; from = ls.rule; len = ls.rule_len; count = ls.count }

abbrev pub draw_book : Lines → Book
draw_book ls = record { letters = ls.name; from = ls.draw; len = ls.draw_len; count = ls.count }
