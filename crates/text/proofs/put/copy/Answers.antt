-- The first k bytes are in place.
use Rattle.std.proofs.Common.{arith, ◌∙◌, length-set}
use Rattle.text.proofs.PutLaws.{copy_more}
use Rattle.text.proofs.put.copy.Goals as goal

pub loop-k-preserved : goal.loop-k-preserved
loop-k-preserved c =
    let (long, done) = c.loop-k.invariant in
    (length-set _ _ _ ∙ long, copy_more _ _ _ _ _ done (omega arith) (omega arith))
