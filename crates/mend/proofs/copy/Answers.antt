-- `copy`: the first k bytes stand in the place of the buffer's.
use mathlib.Core.Path.{◌≡◌, refl}
use native.Mathlib.Omega.{arith}
use lib.ListN.{get_or}
use Rattle.whole.proofs.Fill.{poured_more}
use Rattle.mend.proofs.copy.Goals as goal

pub loop-k-preserved : goal.loop-k-preserved
loop-k-preserved c =
    let a = c.args in
    rw c.loop-k.invariant (poured_more a.from.now a.out.now c.loop-k.k 0 (get_or a.from.now c.loop-k.k 0) (omega arith) (omega arith) refl)

pub returns : goal.returns
returns c =
    let same : c.loop-k.k ≡ c.args.n = omega arith in
    rw (← same) c.loop-k.invariant
