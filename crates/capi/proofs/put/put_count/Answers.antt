-- `put::put_count`: the slice is too short, or it gets the count.
use borrow.Author.Rules.{rules}
use Rattle.triple.proofs.LentLaws.{put_short, put_whole}
use Rattle.capi.proofs.put.put_count.Goals as goal

pub returns-then-out-lt1 : goal.returns-then-out-lt1
returns-then-out-lt1 c = put_short _ _ (search rules) (search rules)

pub returns : goal.returns
returns c = put_whole _ _ (search rules)
