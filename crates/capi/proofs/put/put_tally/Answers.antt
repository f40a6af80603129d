-- `put::put_tally`: the slice is too short, or it gets two values.
use borrow.Author.Rules.{rules}
use Rattle.triple.proofs.LentLaws.{put_short, put_whole}
use Rattle.capi.proofs.put.put_tally.Goals as goal

pub returns-then-out-lt2 : goal.returns-then-out-lt2
returns-then-out-lt2 c = put_short _ _ (search rules) (search rules)

pub returns : goal.returns
returns c = put_whole _ _ (search rules)
