-- The lines of a text with the places of its lines.
use Rattle.std.specs.Prelude.{List, ℕ}
use Rattle.grammar.specs.declared.sheet.Sheet.{Sheet}
use Rattle.grammar.specs.Texts.{Line}
use Rattle.grammar.specs.Inside.Places.{line_at, lines_by}

abbrev pub lines_in : Sheet → List Line
lines_in s = lines_by s.text.now s.lines

abbrev pub line_in : Sheet → ℕ → Line
line_in s i = line_at s.text.now s.lines i
