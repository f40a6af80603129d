-- Nodes and child steps. A node is a frame of the curve, and the orientation and resolution of the walk that came to it.
-- A frame's positions are f64; they are worked on as whole numbers.
use Rattle.std.specs.Prelude.{ℕ, zero, suc, ◌+◌, ◌*◌, ◌/◌, ◌%◌, ◌^◌, Bool, false, not, ◌&&◌, ◌==◌, nat_le, nat_lt, Float}
use Rattle.std.specs.Float.{nan, inf, fin, binary64}
use Rattle.std.specs.Float.Ieee.{up, down, of_int, to_signed}
use Rattle.triple.specs.declared.Triple.{Triple}
use Rattle.triple.specs.declared.refusal.Refusal.TheVariants as Is
use Rattle.triple.specs.Refusals.{Told, told, refused, number_of, refuse, ◌>>=◌}
use Rattle.triple.specs.Domain.{greatest_resolution, greatest_orientation}
use Rattle.triple.specs.Orientations.{axiom_of, curve_place}
use Rattle.triple.specs.Triples.{is_in_bounds}
use Rattle.turtle.specs.declared.AB.{AB}
use Rattle.turtle.specs.declared.walk.DrawnCell.{DrawnCell}
use Rattle.turtle.specs.Plane.{ab, origin, ◌⊕◌, thrice, signed, flipped}
use Rattle.grammar.specs.Curves.{token_of}
use Rattle.tables.specs.Children.{child, offset, leaf}
use Rattle.tables.specs.Table.{bit}
use Rattle.lsystem.specs.declared.cell.Cell.{Cell}
use Rattle.nodes.specs.declared.Frame.{Frame}
use Rattle.nodes.specs.declared.Node.{Node}
use Rattle.nodes.specs.declared.ChildStep.{ChildStep}
use Rattle.nodes.specs.declared.Reached.{Reached}
use Rattle.a5.specs.A5.{a5}
use Rattle.lsystem.specs.Cells.{named, position_of}

-- ---- good frames: motif at most 13, flip 0 or 1, each position a whole multiple of 4, at most 2 ^ 36 in size, not negative zero
-- the size of fin s m e is m * up e / down e
unfoldable pub good_position : Float → Bool
good_position nan = false
good_position (inf s) = false
good_position (fin s m e) = m * up e % (4 * down e) == 0 && nat_le (m * up e) (2 ^ 36 * down e) && not (s && m == 0)

unfoldable pub good_frame : Frame → Bool
good_frame n = nat_le n.motif 13 && nat_le n.flip 1 && good_position n.pos_a && good_position n.pos_b

-- ---- good nodes: orientation at most 5, resolution at most 30, and a good frame
unfoldable pub good_node : Node → Bool
good_node n = nat_le n.orientation greatest_orientation && nat_le n.resolution greatest_resolution && good_frame n.frame

-- one that has children: its resolution is at most 29
unfoldable pub can_step : Node → Bool
can_step n = good_node n && nat_lt n.resolution greatest_resolution

-- ---- a frame's parts as the tables have them, and the frame of such parts
abbrev pub is_flipped : Frame → Bool
is_flipped n = n.flip == 1

-- where it starts
unfoldable pub frame_start : Frame → AB
frame_start n = ab (to_signed 63 n.pos_a) (to_signed 63 n.pos_b)

unfoldable pub frame : ℕ → Bool → AB → Frame
frame m f p = record { motif = m; flip = bit f; pos_a = of_int binary64 p.a; pos_b = of_int binary64 p.b }

-- that of the orientation's own axiom
unfoldable pub axiom_frame : ℕ → Frame
axiom_frame o = frame (token_of a5 (axiom_of o)) false origin

-- ---- the child at the place d of a frame's four
-- its cell: the leaf d of the frame's motif, where the frame is
unfoldable pub child_cell : Frame → ℕ → DrawnCell
child_cell n d =
    let l = leaf a5 n.motif (is_flipped n) d in
    record { sum = thrice (frame_start n) ⊕ l.sum; flavor = l.flavor }

-- the frame below it: one level down, the position doubles
unfoldable pub below : Frame → ℕ → Frame
below n d =
    let c = child a5 n.motif d in
    let f = is_flipped n in
    frame c.token (flipped f c.flip) (frame_start n ⊕ frame_start n ⊕ signed f (offset a5 n.motif d))

-- refused if the cell is out of bounds, as every one is whose corner sum is refused
abbrev pub bounded : ℕ → Told Cell → Told Cell
bounded r (told c) = refuse (not (is_in_bounds r c.triple)) Is.Bounds (told c)
bounded r (refused n) = refused (number_of Is.Bounds)

-- both, one resolution down in the node's own orientation
abbrev pub node_below : Node → ℕ → Node
node_below n d = record { orientation = n.orientation; resolution = n.resolution + 1; frame = below n.frame d }

unfoldable pub cell_below_of : Node → ℕ → Told Cell
cell_below_of n d =
    let r = n.resolution + 1 in
    bounded r (named n.orientation r (child_cell n.frame d))

unfoldable pub step_to : Node → ℕ → Told ChildStep
step_to n d = do
  c ← cell_below_of n d
  told (record { cell = c; node = node_below n d })

-- THE CHILD STEP from the node n by the digit d: to the child at the place d, or 3 - d
unfoldable pub child_step_of : Node → ℕ → Told ChildStep
child_step_of n d =
    refuse (not (can_step n)) Is.Node
    (refuse (nat_lt 3 d) Is.Digit
    (step_to n (curve_place n.orientation 1 d)))

-- ---- nodes of a walk
-- that of the orientation's own axiom, at resolution 0
unfoldable pub axiom_node : ℕ → Node
axiom_node o = record { orientation = o; resolution = 0; frame = axiom_frame o }

-- the frame below the cell that s names: r steps by the digits of s, highest first
unfoldable pub frame_at : ℕ → ℕ → ℕ → Frame
frame_at o zero s = axiom_frame o
frame_at o (suc r) s = below (frame_at o r (s / 4)) (curve_place o 1 (s % 4))

unfoldable pub node_at : ℕ → ℕ → ℕ → Node
node_at o r s = record { orientation = o; resolution = r; frame = frame_at o r s }

-- THE NODE of the triple t at resolution r in orientation o, with its position
unfoldable pub node_of : ℕ → ℕ → Triple → Told Reached
node_of o r t = do
  p ← position_of o r t
  told (record { position = p; node = node_at o r p.s })
