-- `put::put_drawn`: the slice is too short, or it gets three values.
use native.Mathlib.Omega.{arith}
use lib.ListN.{length-set}
use borrow.Author.Rules.{rules}
use mir.Syntax.{w64}
use Rattle.triple.proofs.LentLaws.{put_short}
use Rattle.capi.proofs.SignedLaws.{put_signed}
use Rattle.capi.proofs.put.put_drawn.Goals as goal

pub returns-then-out-lt3 : goal.returns-then-out-lt3
returns-then-out-lt3 c = put_short _ _ (search rules) (search rules)

pub bounds-out-1 : goal.bounds-out-1
bounds-out-1 c = simp length-set (omega arith)

pub returns : goal.returns
returns c = put_signed w64 _ _ (search rules) (search rules)
