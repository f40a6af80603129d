-- `entry_at`: the entry, as an i64.
use mathlib.Core.Path.{ap, ◌∙◌}
use native.Mathlib.Omega.{arith}
use mir.Syntax.{w64}
use mir.Val.{to_z, of_z}
use Rattle.whole.proofs.View.{seen, eq_by}
use Rattle.tables.specs.Descent.{entry}
use Rattle.descent.proofs.level.entry_at.Goals as goal

pub returns : goal.returns
unfolding entry
returns c = ap (λ z. to_z w64 (of_z w64 z)) c.from.ensures ∙ eq_by (search seen depth 12) (search seen depth 12) tt (omega arith)
