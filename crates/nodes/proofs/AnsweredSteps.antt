-- A step that is answered: its cell is in bounds one resolution below the node's, and its node goes on in the same walk.
use Rattle.std.proofs.Common.{◌≡◌, ℕ, ◌+◌, true, not, ltb, sym, refl, ap, ◌∙◌}
use borrow.Author.Tests.{not-false}
use Rattle.triple.specs.declared.refusal.Refusal.TheVariants as Is
use Rattle.triple.specs.Refusals.{Told, told, refused, ◌>>=◌}
use Rattle.triple.specs.Orientations.{curve_place}
use Rattle.triple.specs.Triples.{is_in_bounds}
use Rattle.triple.proofs.RefusalLaws.{never, passed}
use Rattle.lsystem.specs.declared.cell.Cell.{Cell}
use Rattle.lsystem.specs.Cells.{named}
use Rattle.nodes.specs.declared.Node.{Node}
use Rattle.nodes.specs.declared.ChildStep.{ChildStep}
use Rattle.nodes.specs.Nodes.{can_step, child_cell, node_below, bounded, cell_below_of, step_to, child_step_of}

-- what is bounded is in bounds
within : (r : ℕ) (t : Told Cell) (c : Cell) → bounded r t ≡ told c → is_in_bounds r c.triple ≡ true
within r (told k) c e =
    let p = passed (not (is_in_bounds r k.triple)) Is.Bounds e in
    let same : k ≡ c = cc p.1 in
    ap (λ (c : Cell). is_in_bounds r c.triple) (sym same) ∙ not-false (is_in_bounds r k.triple) p.0
within r (refused n) c e = never e

module _ (n : Node) (d : ℕ) (c : ChildStep) (e : child_step_of n d ≡ told c) where
  abbrev place : ℕ
  place = curve_place n.orientation 1 d

  answered : (k : Cell) × (cell_below_of n place ≡ told k) × (c ≡ record { cell = k; node = node_below n place })
  unfolding child_step_of step_to
  answered =
      let good = passed (not (can_step n)) Is.Node e in
      let digit = passed (ltb 3 d) Is.Digit good.1 in
      go (cell_below_of n place) refl digit.1
    where
      go : (t : Told Cell) → cell_below_of n place ≡ t → (t >>= λ k. told (record { cell = k; node = node_below n place })) ≡ told c → (k : Cell) × (cell_below_of n place ≡ told k) × (c ≡ record { cell = k; node = node_below n place })
      go (told k) p q = (k, p, cc)
      go (refused m) p q = never q

  pub child_in_bounds : is_in_bounds (n.resolution + 1) c.cell.triple ≡ true
  unfolding cell_below_of
  child_in_bounds =
      let a = answered in
      ap (λ (c : ChildStep). is_in_bounds (n.resolution + 1) c.cell.triple) a.2
      ∙ within (n.resolution + 1) (named n.orientation (n.resolution + 1) (child_cell n.frame place)) a.0 a.1

  pub child_orientation : c.node.orientation ≡ n.orientation
  child_orientation = ap (λ (c : ChildStep). c.node.orientation) answered.2

  pub child_resolution : c.node.resolution ≡ n.resolution + 1
  child_resolution = ap (λ (c : ChildStep). c.node.resolution) answered.2
