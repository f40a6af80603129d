-- `Cells::read`: a list that passes more than two tests passes all three.
use Rattle.std.proofs.Common.{arith}
use Rattle.fold.proofs.PassLaws.{passes_most}
use Rattle.fold.proofs.pairs.Cells.read.Goals as goal

pub invariant_of-result : goal.invariant_of-result
invariant_of-result c = let most = passes_most c.args.resolution c.args.pairs.now in record { tested = omega (arith, c.in_default) }
