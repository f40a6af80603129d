-- `put_run`: the first d entries are the run's first.
use Rattle.std.proofs.Common.{ap, ◌++◌, drop, arith}
use lib.Seq.{length-take-le}
use Rattle.fold.proofs.RunLaws.{run_is}
use Rattle.fold.proofs.unfolding.put_run.Goals as goal

pub returns : goal.returns
returns c =
    let long = length-take-le c.args.count c.args.out.now (omega arith) in
    ap (λ l. l ++ drop c.args.count c.args.out.now) (run_is c.args.count c.args.first c.loop-d.s-items (omega arith) (λ k h. c.loop-d.invariant k (omega arith)))
