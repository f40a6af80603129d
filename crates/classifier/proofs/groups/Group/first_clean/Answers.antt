-- `Group::first_clean` goes along the children: the first clean edge of those left is the first of all, at each turn.
use mathlib.Core.Path.{sym, ◌∙◌}
use native.Mathlib.Omega.{arith}
use Rattle.classifier.specs.Inside.Sets.{members}
use Rattle.classifier.proofs.EdgeLaws.{seen, look_found, look_next, look_past}
use Rattle.classifier.proofs.SetLaws.{pass_end}
use Rattle.classifier.proofs.groups.Group.first_clean.Goals as goal
use Rattle.classifier.proofs.groups.Group.first_clean.Goals.{then-self-d+in_default, else-self-d}

pub returns-in-Some : goal.returns-in-Some
returns-in-Some c = look_found _ _ _ c.loop-d.invariant (omega arith) c.if-self-d.true c.in-Some.ensures

pub loop-d-preserved : goal.loop-d-preserved
loop-d-preserved c =
    elim c.if-self-d.branch [
      | then-self-d+in_default w ↦ look_next _ _ _ c.loop-d.invariant (omega arith) w.if-self-d.true (sym w.in_default.is ∙ w.clean_edge.ensures)
      | else-self-d w ↦ look_past _ _ _ c.loop-d.invariant (omega arith) w.if-self-d.false
    ]

pub returns : goal.returns
returns c = pass_end (seen (members c.args.self.now)) c.loop-d.invariant (omega arith)
