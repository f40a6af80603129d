-- `put`: the code's first k bytes stand in the place of the buffer's.
use borrow.Author.Rules.{rules}
use Rattle.code.proofs.WriteLaws.{putting}
use Rattle.code.proofs.put.Goals as goal

pub loop-k-preserved : goal.loop-k-preserved
loop-k-preserved c = search (rules, putting)

pub returns : goal.returns
returns c = search (rules, putting)
