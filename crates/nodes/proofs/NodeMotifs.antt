-- The motif of a node that is answered is one of A5's fourteen.
use Rattle.std.proofs.Common.{◌≡◌, ℕ, ◌<◌, ◌≤◌, Bool, true, false, not, ltb, nat_abs, sym, refl, ap, subst, arith, ltb-false}
use borrow.Author.Tests.{not-false}
use Rattle.triple.specs.declared.Triple.{Triple}
use Rattle.triple.specs.declared.refusal.Refusal.TheVariants as Is
use Rattle.triple.specs.Refusals.{Told, told, refused, ◌>>=◌}
use Rattle.triple.specs.Orientations.{curve_place}
use Rattle.triple.proofs.RefusalLaws.{never, passed}
use Rattle.triple.proofs.OrientationLaws.{place_small}
use Rattle.turtle.specs.Plane.{flipped}
use Rattle.tables.specs.Children.{child}
use Rattle.tables.specs.Table.{state_of}
use Rattle.tables.specs.Descent.{child_at}
use Rattle.lsystem.specs.declared.cell.Cell.{Cell}
use Rattle.lsystem.specs.declared.Position.{Position}
use Rattle.lsystem.specs.Cells.{position_of}
use Rattle.a5.specs.A5.{a5}
use Rattle.a5.specs.A5Table.{a5_table}
use Rattle.a5.proofs.A5Entries.{child_state}
use Rattle.nodes.specs.declared.Frame.{Frame}
use Rattle.nodes.specs.declared.Node.{Node}
use Rattle.nodes.specs.declared.ChildStep.{ChildStep}
use Rattle.nodes.specs.declared.Reached.{Reached}
use Rattle.nodes.specs.Nodes.{good_frame, can_step, is_flipped, frame, below, node_below, cell_below_of, step_to, child_step_of, node_at, node_of}
use Rattle.nodes.proofs.DescentLaws.{entries}
use Rattle.nodes.proofs.NodeLaws.{good_of, steps_of}
use Rattle.nodes.proofs.NodeWalk.{frame_good}
use Rattle.nodes.proofs.NodeBelow.{told_asked}

state_small : (m : ℕ) (f : Bool) → m < 14 → state_of m f < 28
unfolding state_of
state_small m true h = omega arith
state_small m false h = omega arith

token_small : (m : ℕ) (f : Bool) (d : ℕ) → m < 14 → d < 4 → (child a5 m d).token < 14
unfolding state_of
token_small m f d h l =
    let c : nat_abs (child_at a5_table (state_of m f) d) ≡ state_of (child a5 m d).token (flipped f (child a5 m d).flip) = ap nat_abs (child_state m f d h l) in
    omega (arith, c, (entries (state_of m f) d (state_small m f h) l).0)

below_motif : (n : Frame) (d : ℕ) → good_frame n ≡ true → d < 4 → (below n d).motif ≤ 13
unfolding below frame
below_motif n d g l = omega (arith, token_small n.motif (is_flipped n) d (omega (arith, (good_of n g).motif)) l)

pub child_motif : (n : Node) (d : ℕ) (c : ChildStep) → child_step_of n d ≡ told c → c.node.frame.motif ≤ 13
unfolding child_step_of step_to
child_motif n d c e =
    let o = n.orientation in
    let bad = passed (not (can_step n)) Is.Node e in
    let high = passed (ltb 3 d) Is.Digit bad.1 in
    let good = (steps_of n (not-false (can_step n) bad.0)).good in
    found (cell_below_of n (curve_place o 1 d)) (below_motif n.frame _ good (place_small o 1 d (omega (arith, ltb-false 3 d high.0)))) high.1
  where
    made : Cell → ChildStep
    made k = record { cell = k; node = node_below n (curve_place n.orientation 1 d) }

    found : (b : Told Cell) → (node_below n (curve_place n.orientation 1 d)).frame.motif ≤ 13 → (b >>= λ k. told (made k)) ≡ told c → c.node.frame.motif ≤ 13
    found (refused k) h e = never e
    found (told k) h e =
        let q : c ≡ made k = cc in
        subst (λ (c : ChildStep). c.node.frame.motif ≤ 13) (sym q) h

pub reached_motif : (o r : ℕ) (t : Triple) (p : Reached) → node_of o r t ≡ told p → p.node.frame.motif ≤ 13
unfolding node_of node_at
reached_motif o r t p e = go (position_of o r t) refl e
  where
    go : (a : Told Position) → position_of o r t ≡ a → (a >>= λ q. told (record { position = q; node = node_at o r q.s })) ≡ told p → p.node.frame.motif ≤ 13
    go (refused k) ea e = never e
    go (told q) ea e =
        let z : p ≡ record { position = q; node = node_at o r q.s } = cc in
        let a = told_asked o r t q ea in
        subst (λ (p : Reached). p.node.frame.motif ≤ 13) (sym z) (good_of _ (frame_good o r q.s a.resolution a.position)).motif
