-- How the code draws: the pen after a word of strokes and turns, the buffer after it, and what it asks so that both are so.
use Rattle.std.specs.Prelude.{Bool, cond, List, [], ◌∷◌, ℕ, ◌+◌, ◌*◌, ◌^◌, ◌≤◌, ◌<◌, ℤ, pos, neg_ℤ, length}
use lib.Seq.{sets}
use Rattle.triple.specs.declared.Triple.{Triple}
use Rattle.triple.specs.Refusals.{Told, told, refused}
use Rattle.triple.specs.Orientations.{place_from}
use Rattle.turtle.specs.declared.AB.{AB}
use Rattle.turtle.specs.declared.letter.Stroke.{Stroke}
use Rattle.turtle.specs.declared.walk.DrawnCell.{DrawnCell}
use Rattle.turtle.specs.declared.walk.Turtle.{Turtle}
use Rattle.turtle.specs.Plane.{ab, origin}
use Rattle.turtle.specs.Corners.{triple_of}
use Rattle.turtle.specs.Inside.Sizes.{Small}
use Rattle.turtle.specs.Walk.{Sym, left, right, letter, move, cell}
use Rattle.grammar.specs.Curves.{letter_count}
use Rattle.lsystem.specs.Cells.{flavor_in, cell_values}
use Rattle.sketch.specs.declared.pen.Pen.{Pen}

-- where the walk starts: at the origin, or 2 ^ r steps of (4, - 4) from it
unfoldable pub start_of : Bool → ℕ → AB
start_of shifted r = cond shifted (ab (pos (4 * 2 ^ r)) (neg_ℤ (pos (4 * 2 ^ r)))) origin

-- ---- a drawn cell's four entries
abbrev pub triple_in : Told Triple → Triple
triple_in (told t) = t
triple_in (refused n) = record { x = pos 0; y = pos 0; z = pos 0 }

unfoldable pub entries_of : DrawnCell → List ℤ
entries_of c = cell_values (record { triple = triple_in (triple_of c.sum); flavor = flavor_in c.flavor })

-- ---- the pen
-- the place of the next cell
abbrev pub place_of : Pen → ℕ
place_of p = place_from p.backward p.cells p.drawn

abbrev pub pen_at : Turtle → ℕ → Pen → Pen
pen_at t k p = record { turtle = t; drawn = k; cells = p.cells; backward = p.backward }

-- one symbol
unfoldable pub pen_on : Sym Stroke → Pen → Pen
pen_on left p = pen_at (move left p.turtle) p.drawn p
pen_on right p = pen_at (move right p.turtle) p.drawn p
pen_on (letter s) p = pen_at (move (letter s) p.turtle) (p.drawn + 1) p

unfoldable pub ink : Sym Stroke → Pen → List ℤ → List ℤ
ink left p out = out
ink right p out = out
ink (letter s) p out = sets out (4 * place_of p) (entries_of (cell s p.turtle))

-- a word of them
unfoldable pub pen_after : List (Sym Stroke) → Pen → Pen
pen_after [] p = p
pen_after (a ∷ w) p = pen_after w (pen_on a p)

unfoldable pub inked : List (Sym Stroke) → Pen → List ℤ → List ℤ
inked [] p out = out
inked (a ∷ w) p out = inked w (pen_on a p) (ink a p out)

-- there is room for a word's cells, and the turtle has not gone far
pub record Room (w : List (Sym Stroke)) (p : Pen) (out : List ℤ) : Type 0 where
  pub fits : p.drawn + letter_count w ≤ p.cells
  pub few : p.cells ≤ 4096
  pub room : 4 * p.cells ≤ length out
  pub small : Small (256 + 8 * p.drawn) p.turtle.at
  pub faces : p.turtle.heading < 6

-- a drawing that is not refused
pub record Drawable (o r : ℕ) : Type 0 where
  pub some : 1 ≤ r
  pub shallow : r ≤ 6
  pub oriented : o ≤ 5
