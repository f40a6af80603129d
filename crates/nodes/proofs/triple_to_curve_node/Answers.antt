-- `triple_to_curve_node`: a position that is told, and the node below the cell it names.
use Rattle.std.proofs.Common.{rules, ◌∙◌}
use Rattle.triple.proofs.RefusalLaws.{handed_on}
use Rattle.nodes.proofs.NodeBelow.{reaching}
use Rattle.nodes.proofs.triple_to_curve_node.Goals as goal

pub returns-in_err-l : goal.returns-in_err-l
returns-in_err-l c = handed_on c.in_err-l.field-0.0 _ c.from_residual.ensures.1 ∙ search (rules, reaching, c.in_err-l.was)

pub frame_below-frame-requires : goal.frame_below-frame-requires
frame_below-frame-requires c = search (rules, reaching, c.in_ok-l.was)

pub returns : goal.returns
returns c = search (rules, reaching, c.in_ok-l.was)
