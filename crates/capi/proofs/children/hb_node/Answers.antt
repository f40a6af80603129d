-- `hb_node`: the node's values and positions are written, or the refusal's number is answered; the triple is that of the numbers given.
use mathlib.Core.Path.{sym, ap, ◌∙◌}
use borrow.Author.Rules.{rules}
use Rattle.nodes.specs.declared.Reached.{Reached}
use Rattle.nodes.specs.Nodes.{node_of}
use Rattle.nodes.proofs.NodeMotifs.{reached_motif}
use Rattle.capi.specs.Calls.{node_values}
use Rattle.triple.proofs.LentLaws.{both_told, both_refused}
use Rattle.capi.proofs.SignedLaws.{triple_made}
use Rattle.capi.proofs.children.hb_node.Goals as goal
use Rattle.triple.specs.Refusals.{said}

pub put_node-requires : goal.put_node-requires
put_node-requires c = reached_motif _ _ _ _ (sym c.triple_to_curve_node-answer.ensures ∙ ap said c.in-Ok.is)

pub returns-in-Ok : goal.returns-in-Ok
returns-in-Ok c = both_told (λ (c : Reached). node_values c.node) _ _ (c.triple_to_curve_node-answer.ensures ∙ ap (node_of _ _) (triple_made (search rules) c.new.ensures)) (ap said c.in-Ok.is) c.put_node.ensures

pub returns-in-Err : goal.returns-in-Err
returns-in-Err c = both_refused (λ (p : Reached). node_values p.node) _ _ (c.triple_to_curve_node-answer.ensures ∙ ap (node_of _ _) (triple_made (search rules) c.new.ensures)) (ap said c.in-Err.is) c.number.ensures
