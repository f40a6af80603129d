-- `lines::is_named` asks the first n letters.
use native.Mathlib.Omega.{arith}
use Rattle.grammar.proofs.TallyLaws.{named_any}
use Rattle.grammar.proofs.lines.is_named.Goals as goal

pub returns : goal.returns
returns c = named_any c.args.lines.name c.args.b c.args.n (omega arith) c.contains.ensures.value
