-- THE WALK by child steps: `nodes`' laws, over each resolution from 0.
use mathlib.Core.Path.{◌≡◌, refl, sym, ap, ◌∙◌}
use Prim.Native.Nat.{ℕ, zero, suc, ◌^◌, ◌<◌, ◌≤◌}
use native.Mathlib.Omega.{arith}
use Rattle.triple.specs.declared.Triple.{Triple}
use Rattle.triple.specs.Refusals.{Told, told, refused, ◌>>=◌}
use Rattle.lsystem.specs.declared.cell.Cell.{Cell}
use Rattle.lsystem.specs.declared.Position.{Position}
use Rattle.lsystem.specs.Cells.{cell_of, position_of}
use Rattle.nodes.specs.declared.Node.{Node}
use Rattle.nodes.specs.declared.ChildStep.{ChildStep}
use Rattle.nodes.specs.declared.Reached.{Reached}
use Rattle.nodes.specs.Nodes.{child_step_of, node_at, node_of}
use Rattle.nodes.specs.NodeWalks.{last_step}
use Rattle.nodes.proofs.NodeWalk.{walk_nodes, walk_cell, node_good}
use Rattle.nodes.proofs.AnsweredSteps.{child_in_bounds, child_orientation, child_resolution}
use Rattle.demands.specs.Demands.{ChildSteps, ChildStepFrom}
use Rattle.triple.proofs.RefusalLaws.{told_same}
use Rattle.demands.proofs.ToldLaws.{told_refused}

-- the cell of an answer with a node beside it
cell_of_lem : (t : Told Cell) (n : Node) → ((t >>= λ c. told (record { cell = c; node = n })) >>= λ (c : ChildStep). told c.cell) ≡ t
cell_of_lem (told c) n = refl
cell_of_lem (refused e) n = refl

last_cell : (o r s : ℕ) → o ≤ 5 → r ≤ 30 → s < 4 ^ r → 1 ≤ r → (last_step o r s >>= λ c. told c.cell) ≡ cell_of o r s
last_cell o zero s h k l m = let z : ⊥ = omega arith in absurd z
last_cell o (suc n) s h k l m =
    ap (λ t. t >>= λ (c : ChildStep). told c.cell) (walk_cell o h n s (omega arith) l) ∙ cell_of_lem (cell_of o (suc n) s) (node_at o (suc n) s)

-- the node of a triple that has the position s
node_of_lem : (o r s : ℕ) (t : Triple) → (position_of o r t >>= λ p. told p.s) ≡ told s → (node_of o r t >>= λ p. told p.node) ≡ told (node_at o r s)
unfolding node_of
node_of_lem o r s t e = go (position_of o r t) e
  where
    go : (p : Told Position) → (p >>= λ p. told p.s) ≡ told s → ((p >>= λ p. told (record { position = p; node = node_at o r p.s })) >>= λ (p : Reached). told p.node) ≡ told (node_at o r s)
    go (told p) e = ap (λ s. told (node_at o r s)) (told_same e)
    go (refused n) e = absurd (told_refused e refl)

pub child_steps : (o r s : ℕ) → o ≤ 5 → r ≤ 30 → s < 4 ^ r → ChildSteps o r s
unfolding node_at
child_steps o r s h k l = record {
  node = (node_at o r s, walk_nodes o h r s k l, node_good o h r s k l, refl, refl);
  cell = last_cell o r s h k l;
  arrives = λ t e. node_of_lem o r s t e ∙ sym (walk_nodes o h r s k l);
}

pub child_step : (n : Node) (d : ℕ) (c : ChildStep) → child_step_of n d ≡ told c → ChildStepFrom n c
child_step n d c e = record { in_bounds = child_in_bounds n d c e; orientation = child_orientation n d c e; resolution = child_resolution n d c e }
