-- `put::put_pair`: the slice is too short, or it gets two values.
use borrow.Author.Rules.{rules}
use mir.Syntax.{w64}
use Rattle.triple.proofs.LentLaws.{put_short}
use Rattle.capi.proofs.SignedLaws.{put_signed}
use Rattle.capi.proofs.put.put_pair.Goals as goal

pub returns-then-out-lt2 : goal.returns-then-out-lt2
returns-then-out-lt2 c = put_short _ _ (search rules) (search rules)

pub returns : goal.returns
returns c = put_signed w64 _ _ (search rules) (search rules)
