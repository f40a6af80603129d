-- Shown of each branch by what its comparison says of the two numbers.
use native.Mathlib.Omega.{arith}
use Rattle.whole.proofs.View.{seen, eq_of, eq_by, told, differ, fact_of}
use Rattle.polygon.proofs.ReadLaws.{level, not_level}
use Rattle.polygon.proofs.reading.parity_from.Goals as goal

pub returns-then-b-level : goal.returns-then-b-level
returns-then-b-level c = level c.args.p c.args.q (eq_by (search seen) (search seen) tt (omega (arith, fact_of (search (told, c.if-b-level.true)) (search seen) (search seen) tt)))

pub returns : goal.returns
returns c =
    not_level c.args.p c.args.q
    (λ e. omega (arith, fact_of (search (told, differ c.if-b-level.false)) (search seen) (search seen) tt, eq_of (search seen) (search seen) tt e))
