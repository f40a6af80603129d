-- `axiom_node` meets its contract: the axiom's motif is the token of its letter.
use Rattle.std.proofs.Common.{rules}
use Rattle.nodes.proofs.ChildLaws.{axioms}
use Rattle.nodes.proofs.axiom_node.Goals as goal

pub returns-then-orientation-gt-GREATEST_ORIENTATION : goal.returns-then-orientation-gt-GREATEST_ORIENTATION
returns-then-orientation-gt-GREATEST_ORIENTATION c = search (rules, axioms)

pub returns : goal.returns
returns c = search (rules, axioms)
