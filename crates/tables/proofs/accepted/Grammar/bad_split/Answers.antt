-- `Grammar::bad_split` asks for the line's two tokens.
use Rattle.tables.proofs.UnsplitLaws.{unsplit}
use borrow.Author.Rules.{rules}
use Rattle.tables.proofs.accepted.Grammar.bad_split.Goals as goal
use Rattle.tables.proofs.accepted.Grammar.bad_split.Goals.{then-splits, else-splits}

pub splits-requires : goal.splits-requires
splits-requires c = search (rules, unsplit)

pub overflow_add-b : goal.overflow_add-b
overflow_add-b c = search (rules, unsplit)

pub splits-requires-then-splits : goal.splits-requires-then-splits
splits-requires-then-splits c = search (rules, unsplit)

pub returns : goal.returns
returns c =
    elim c.if-splits.branch [
      | then-splits w ↦ rw w.result-is (search (rules, unsplit))
      | else-splits w ↦ rw w.result-is (search (rules, unsplit))
    ]
