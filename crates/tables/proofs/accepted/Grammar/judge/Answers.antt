-- `Grammar::judge` tests the splits, and then the part.
use mathlib.Core.Path.{refl}
use native.Mathlib.Omega.{arith}
use Rattle.tables.proofs.CompilerLaws.{split_faulty, past_refused, within_states}
use Rattle.tables.proofs.accepted.Grammar.judge.Goals as goal

pub returns-in-Some : goal.returns-in-Some
returns-in-Some c = split_faulty c.args.self.now.ready c.in-Some.ensures.1 c.args.size c.args.start (λ e. omega (arith, c.in-Some.ensures.0))

pub returns-then-is_past : goal.returns-then-is_past
returns-then-is_past c = past_refused c.args.self.now.ready refl c.args.size c.args.start c.in_default.ensures c.is_past.ensures c.if-is_past.true

pub returns : goal.returns
returns c = within_states c.args.self.now.ready refl c.args.size c.args.start c.in_default.ensures c.is_past.ensures c.if-is_past.false
