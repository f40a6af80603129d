-- `cut`: its level tells all.
use borrow.Author.Rules.{rules}
use Rattle.area.proofs.WalkLaws.{cut_off}
use Rattle.area.proofs.walking.cut.Goals as goal

pub returns : goal.returns
returns c = search (rules, cut_off)
