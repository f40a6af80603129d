-- `put::put_position`: the slice is too short, or it gets four values.
use native.Mathlib.Omega.{arith}
use lib.ListN.{length-set}
use borrow.Author.Rules.{rules}
use Rattle.triple.proofs.LentLaws.{put_short, put_whole}
use Rattle.capi.proofs.put.put_position.Goals as goal

pub returns-then-out-lt4 : goal.returns-then-out-lt4
returns-then-out-lt4 c = put_short _ _ (search rules) (search rules)

pub bounds-out-1 : goal.bounds-out-1
bounds-out-1 c = simp length-set (omega arith)

pub bounds-out-2 : goal.bounds-out-2
bounds-out-2 c = simp length-set (omega arith)

pub bounds-out-3 : goal.bounds-out-3
bounds-out-3 c = simp length-set (omega arith)

pub returns : goal.returns
returns c = put_whole _ _ (search rules)
