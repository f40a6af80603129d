-- The walk by child steps: from the node of the orientation's own axiom, r steps by the digits of s, highest first.
use Rattle.std.specs.Prelude.{ℕ, zero, suc, ◌-◌, ◌/◌, ◌%◌}
use Rattle.triple.specs.Refusals.{Told, told, ◌>>=◌}
use Rattle.nodes.specs.declared.Node.{Node}
use Rattle.nodes.specs.declared.ChildStep.{ChildStep}
use Rattle.nodes.specs.Nodes.{child_step_of}
use Rattle.nodes.specs.NodeAnswers.{axiom_node_of}

-- the node that they answer
unfoldable pub walked_node : ℕ → ℕ → ℕ → Told Node
walked_node o zero s = axiom_node_of o
walked_node o (suc r) s = do
  n ← walked_node o r (s / 4)
  c ← child_step_of n (s % 4)
  told c.node

-- the last of them, where there is one
unfoldable pub last_step : ℕ → ℕ → ℕ → Told ChildStep
last_step o r s = do
  n ← walked_node o (r - 1) (s / 4)
  child_step_of n (s % 4)
