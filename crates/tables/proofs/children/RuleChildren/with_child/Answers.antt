-- `RuleChildren::with_child` puts the child behind those met so far.
use mathlib.Core.Path.{refl}
use Rattle.tables.proofs.RuleChildLaws.{one_child}
use Rattle.tables.proofs.children.RuleChildren.with_child.Goals as goal

pub returns : goal.returns
returns c = one_child c.args.self _ c.args.token c.requires refl refl refl
