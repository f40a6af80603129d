-- `pen::triple_in`: the triple that is answered.
use Rattle.sketch.proofs.PutLaws.{triple_at, triple_none}
use Rattle.sketch.proofs.pen.triple_in.Goals as goal

pub returns-in-Ok : goal.returns-in-Ok
returns-in-Ok c = triple_at c.args.sum c.to_triple.ensures c.in-Ok.is

pub returns-in-Err : goal.returns-in-Err
returns-in-Err c = triple_none c.args.sum c.to_triple.ensures c.in-Err.is c.new.ensures
