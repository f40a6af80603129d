-- `Grammar::first_unsplit` finds the first line at fault: those passed are not.
use mathlib.Core.Path.{sym}
use native.Mathlib.Omega.{arith}
use borrow.Author.Rules.{rules}
use Rattle.tables.proofs.UnsplitLaws.{unsplit}
use Rattle.tables.proofs.accepted.Grammar.first_unsplit.Goals as goal

pub returns-then-bad_split : goal.returns-then-bad_split
returns-then-bad_split c = (omega arith, search (rules, unsplit))

pub loop-i-preserved : goal.loop-i-preserved
loop-i-preserved c = search (rules, unsplit)

pub returns : goal.returns
returns c = sym (search (rules, unsplit))
