-- `put::put_reading`: the slice is too short, or it gets five values.
use mathlib.Core.Path.{◌≡◌, refl}
use mathlib.Core.Bool.{Bool, true, false, cond}
use native.Mathlib.Omega.{arith}
use mir.Val.{bool_byte}
use lib.ListN.{length-set}
use borrow.Author.Rules.{rules}
use Rattle.triple.proofs.LentLaws.{put_short, put_whole}
use Rattle.capi.proofs.put.put_reading.Goals as goal

-- the mark, as it is stored
flag-number : (b : Bool) → bool_byte b ≡ cond b 1 0
flag-number true = refl
flag-number false = refl

pub returns-then-out-lt5 : goal.returns-then-out-lt5
returns-then-out-lt5 c = put_short _ _ (search rules) (search rules)

pub bounds-out-1 : goal.bounds-out-1
bounds-out-1 c = simp length-set (omega arith)

pub bounds-out-2 : goal.bounds-out-2
bounds-out-2 c = simp length-set (omega arith)

pub bounds-out-3 : goal.bounds-out-3
bounds-out-3 c = simp length-set (omega arith)

pub bounds-out-4 : goal.bounds-out-4
bounds-out-4 c = simp length-set (omega arith)

pub returns : goal.returns
returns c = rw (flag-number c.args.r.old) (put_whole _ _ (search rules))
