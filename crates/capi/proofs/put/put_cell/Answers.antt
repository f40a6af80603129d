-- `put::put_cell`: the slice is too short, or it gets four values.
use native.Mathlib.Omega.{arith}
use lib.ListN.{length-set}
use borrow.Author.Rules.{rules}
use mir.Syntax.{w32}
use Rattle.triple.proofs.LentLaws.{put_short}
use Rattle.capi.proofs.SignedLaws.{put_signed}
use Rattle.capi.proofs.put.put_cell.Goals as goal

pub returns-then-out-lt4 : goal.returns-then-out-lt4
returns-then-out-lt4 c = put_short _ _ (search rules) (search rules)

pub bounds-out-1 : goal.bounds-out-1
bounds-out-1 c = simp length-set (omega arith)

pub bounds-out-2 : goal.bounds-out-2
bounds-out-2 c = simp length-set (omega arith)

pub returns : goal.returns
returns c = put_signed w32 _ _ (search rules) (search rules)
