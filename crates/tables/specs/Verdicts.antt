-- The whole test of a grammar text: 12 to 19, and then 20, no clean split of a token's children.
use Rattle.std.specs.Prelude.{Bool, true, false, not, ◌&&◌, List, ℕ, ◌+◌}
use Rattle.grammar.specs.Texts.{Line, lines_of}
use Rattle.grammar.specs.Curves.{token_of}
use Rattle.grammar.specs.Tests.{Verdict, fine, first, fault_at, text_tests}
use Rattle.tables.specs.Classifier.{classes}

-- a token's children split cleanly, in either frame
abbrev pub splits : List Line → ℕ → Bool
splits ls m = (classes ls m false).whole && (classes ls m true).whole

-- 20: those of the line's motif, or of its lowercase form, do not
unfoldable pub bad_split : List Line → Line → Bool
bad_split ls l = not (splits ls (token_of ls l.name) && splits ls (token_of ls (l.name + 32)))

unfoldable pub split_tests : List Line → Verdict
split_tests ls = fault_at 20 (first (λ _. bad_split ls) ls) fine

unfoldable pub verdict : List ℕ → Verdict
verdict text = text_tests text (split_tests (lines_of text))
