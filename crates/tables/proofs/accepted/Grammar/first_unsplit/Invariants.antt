-- `Grammar::first_unsplit` finds the first line at fault: those passed are not.
use Rattle.tables.specs.Verdicts.{bad_split}
use Rattle.grammar.proofs.FirstLaws.{first_at}
use Rattle.grammar.specs.Tests.{first}
use Rattle.grammar.specs.Texts.{lines_of}
use mathlib.Core.Path.{◌≡◌}
use Rattle.tables.proofs.accepted.Grammar.first_unsplit.Given as goal

abbrev pub invariant-loop-i : goal.invariant-loop-i
invariant-loop-i l = first_at (λ _. bad_split (lines_of l.self.text.now)) (lines_of l.self.text.now) l.i ≡ first (λ _. bad_split (lines_of l.self.text.now)) (lines_of l.self.text.now)
