-- How the code goes down A5's table: a place in units of its own level, which doubles at each step.
use Rattle.std.specs.Prelude.{ℕ, zero, suc, ◌+◌, ◌*◌, ◌/◌, ◌%◌, ◌^◌, ◌<◌, ◌≤◌, Bool, pos, ◌+ℤ◌, ◌*ℤ◌, ◌==◌, unsigned_abs}
use Rattle.triple.specs.Refusals.{Told, told, ◌>>=◌}
use Rattle.triple.specs.Orientations.{moved_by}
use Rattle.turtle.specs.declared.AB.{AB}
use Rattle.turtle.specs.Plane.{ab}
use Rattle.turtle.specs.Corners.{triple_of}
use Rattle.tables.specs.Table.{state_of}
use Rattle.tables.specs.Descent.{child_at, offset_at, sum_at, flavor_at}
use Rattle.a5.specs.A5Table.{a5_table}
use Rattle.lsystem.specs.declared.cell.Cell.{Cell}
use Rattle.nodes.specs.declared.Frame.{Frame}
use Rattle.nodes.specs.declared.descent.Place.{Place}
use Rattle.nodes.specs.declared.descent.Drawn.{Drawn}
use Rattle.nodes.specs.Nodes.{is_flipped, frame_start, frame}

-- ---- what the table has of the child and the leaf d of the state k
unfoldable pub step_at : ℕ → ℕ → Place
step_at k d = record { a = (offset_at a5_table k d).a; b = (offset_at a5_table k d).b; state = unsigned_abs (child_at a5_table k d) }

unfoldable pub leaf_at : ℕ → ℕ → Drawn
leaf_at k d = record { sum = sum_at a5_table k d; flavor = unsigned_abs (flavor_at a5_table k d) }

-- ---- one level down from a place, to the child d; and the leaf d there
unfoldable pub down : Place → ℕ → Place
down p d =
    let t = step_at p.state d in
    record { a = pos 2 *ℤ p.a +ℤ t.a; b = pos 2 *ℤ p.b +ℤ t.b; state = t.state }

unfoldable pub leaf_from : Place → ℕ → Drawn
leaf_from p d =
    let l = leaf_at p.state d in
    record { sum = ab (pos 3 *ℤ p.a +ℤ l.sum.a) (pos 3 *ℤ p.b +ℤ l.sum.b); flavor = l.flavor }

-- by the digits n to 1 of s
unfoldable pub descended : ℕ → ℕ → Place → Place
descended zero s p = p
descended (suc n) s p = descended n s (down p (s / 4 ^ suc n % 4))

abbrev pub at_origin : ℕ → Place
at_origin k = record { a = pos 0; b = pos 0; state = k }

-- where a place's frame starts
abbrev pub start_of : Place → AB
start_of p = ab p.a p.b

-- ---- a frame's place, and the frame at a place
abbrev pub place_of_frame : Frame → Place
place_of_frame n = record { a = (frame_start n).a; b = (frame_start n).b; state = state_of n.motif (is_flipped n) }

abbrev pub frame_of_place : Place → Frame
frame_of_place p = frame (p.state / 2) (p.state % 2 == 1) (start_of p)

-- ---- a drawn cell by its triple, moved or not, and its flavor
unfoldable pub named_by : Bool → ℕ → Drawn → Told Cell
named_by moves r c = do
  t ← triple_of c.sum
  told (record { triple = moved_by moves r t; flavor = c.flavor })

-- ---- what the code asks so that nothing overflows
-- a place with k levels below it, on which no coordinate passes `most`
pub record Room (most k : ℕ) (p : Place) : Type 0 where
  pub state : p.state < 28
  pub a : (unsigned_abs p.a + 16) * 2 ^ k ≤ most
  pub b : (unsigned_abs p.b + 16) * 2 ^ k ≤ most

-- a place with coordinates that an f64 holds
pub record Exact (p : Place) : Type 0 where
  pub a : unsigned_abs p.a ≤ 2 ^ 38
  pub b : unsigned_abs p.b ≤ 2 ^ 38
