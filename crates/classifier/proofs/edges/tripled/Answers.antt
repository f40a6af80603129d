-- `edges::tripled` is linear, and within 768, as both are of eight bits.
use native.Mathlib.Omega.{arith}
use Rattle.whole.proofs.View.{eq_by}
use Rattle.classifier.proofs.ComparisonLaws.{seen8, within_by}
use Rattle.classifier.proofs.edges.tripled.Goals as goal

pub returns-then-flip : goal.returns-then-flip
returns-then-flip c = rw c.if-flip.true (eq_by (search seen8 depth 12) (search seen8 depth 12) tt (omega arith), within_by 768 (search seen8 depth 12) tt)

pub returns-else-flip : goal.returns-else-flip
returns-else-flip c = rw c.if-flip.false (eq_by (search seen8 depth 12) (search seen8 depth 12) tt (omega arith), within_by 768 (search seen8 depth 12) tt)
