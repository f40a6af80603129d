-- Each contract of this crate's operations allows one result alone. What an answer says has a left inverse: so two answers that say the same are the same.
use Rattle.std.specs.Prelude.{Result}
use Rattle.std.proofs.Common.{◌≡◌, ℕ, Bool, sym, ◌∙◌}
use lib.Ieee.{Float}
use Rattle.triple.specs.declared.Triple.{Triple}
use Rattle.triple.proofs.Determined.{determined, said_one_to_one}
use Rattle.nodes.specs.declared.Frame.{Frame}
use Rattle.nodes.specs.declared.Node.{Node}
use Rattle.nodes.specs.Nodes.{good_frame, good_node, can_step, child_step_of, node_of}
use Rattle.nodes.specs.NodeAnswers.{axiom_node_of}
use Rattle.triple.specs.Refusals.{said}
use Rattle.triple.specs.declared.refusal.Refusal.{Refusal}
use Rattle.nodes.specs.declared.Reached.{Reached}
use Rattle.nodes.specs.declared.ChildStep.{ChildStep}

-- ---- the operations
pub frame_new_determined : (motif flip : ℕ) (a b : Float) (m n : Frame) → m ≡ record { motif = motif; flip = flip; pos_a = a; pos_b = b } → n ≡ record { motif = motif; flip = flip; pos_a = a; pos_b = b } → m ≡ n
frame_new_determined motif flip a b m n p q = p ∙ sym q

pub frame_is_good_determined : (f : Frame) (a b : Bool) → a ≡ good_frame f → b ≡ good_frame f → a ≡ b
frame_is_good_determined f a b p q = p ∙ sym q

pub new_determined : (o r : ℕ) (f : Frame) (m n : Node) → m ≡ record { orientation = o; resolution = r; frame = f } → n ≡ record { orientation = o; resolution = r; frame = f } → m ≡ n
new_determined o r f m n p q = p ∙ sym q

pub can_step_determined : (n : Node) (a b : Bool) → a ≡ can_step n → b ≡ can_step n → a ≡ b
can_step_determined n a b p q = p ∙ sym q

pub is_good_determined : (n : Node) (a b : Bool) → a ≡ good_node n → b ≡ good_node n → a ≡ b
is_good_determined n a b p q = p ∙ sym q

pub axiom_node_determined : (o : ℕ) (a b : Result Node Refusal) → said a ≡ axiom_node_of o → said b ≡ axiom_node_of o → a ≡ b
axiom_node_determined o = determined said said_one_to_one

pub node_determined : (o r : ℕ) (t : Triple) (a b : Result Reached Refusal) → said a ≡ node_of o r t → said b ≡ node_of o r t → a ≡ b
node_determined o r t = determined said said_one_to_one

pub child_determined : (n : Node) (d : ℕ) (a b : Result ChildStep Refusal) → said a ≡ child_step_of n d → said b ≡ child_step_of n d → a ≡ b
child_determined n d = determined said said_one_to_one
