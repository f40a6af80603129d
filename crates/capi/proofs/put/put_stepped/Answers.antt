-- `put::put_stepped`: the slice is too short, or it gets three values.
use native.Mathlib.Omega.{arith}
use lib.ListN.{length-set}
use borrow.Author.Rules.{rules}
use Rattle.triple.proofs.LentLaws.{put_short}
use Rattle.capi.proofs.MendLaws.{three_stored}
use Rattle.capi.proofs.put.put_stepped.Goals as goal

pub returns-then-out-lt3 : goal.returns-then-out-lt3
returns-then-out-lt3 c = put_short _ _ (search rules) (search rules)

pub bounds-out-1 : goal.bounds-out-1
bounds-out-1 c = simp length-set (omega arith)

pub bounds-out-2 : goal.bounds-out-2
bounds-out-2 c = simp length-set (omega arith)

pub returns : goal.returns
returns c = three_stored _ _ _ c.change_number-number.ensures (search rules)
