-- The turtle's walk: turns and strokes, the cells that it draws, where it ends.
use Rattle.std.specs.Prelude.{cond, List, [], ◌∷◌, ◌++◌, ℕ, ◌+◌, ◌%◌, eqb, Option, Some, None, Result, Ok, Err}
use Rattle.turtle.specs.declared.AB.{AB}
use Rattle.turtle.specs.declared.letter.Stroke.{Stroke}
use Rattle.turtle.specs.declared.walk.Turtle.{Turtle}
use Rattle.turtle.specs.declared.walk.DrawnCell.{DrawnCell}
use Rattle.turtle.specs.declared.walk.Corners.{Corners}
use Rattle.turtle.specs.declared.walk.Stepped.{Stepped}
use Rattle.turtle.specs.declared.walk.Unhosted.{Unhosted}
use Rattle.turtle.specs.Plane.{origin, ◌⊕◌, rots, far}
use Rattle.turtle.specs.Letters.{toggled, stroke_of}

-- '+', '-', or a letter: a motif's token in a rule, a stroke in a drawing
pub data Sym (A : Type 0) : Type 0 where
  left : Sym A
  right : Sym A
  letter : A → Sym A

-- the symbols that a text of bytes has; a byte that is neither turn nor draw letter is passed over
abbrev pub drawn : Option Stroke → List (Sym Stroke)
drawn (Some s) = letter s ∷ []
drawn None = []

unfoldable pub symbol_of : ℕ → List (Sym Stroke)
symbol_of b = cond (eqb b 43) (left ∷ []) (cond (eqb b 45) (right ∷ []) (drawn (stroke_of b)))

unfoldable pub symbols_of : List ℕ → List (Sym Stroke)
symbols_of [] = []
symbols_of (b ∷ w) = symbol_of b ++ symbols_of w

abbrev pub turtle : AB → ℕ → Turtle
turtle p h = record { at = p; heading = h }

abbrev pub start : Turtle
start = turtle origin 0

unfoldable pub move : Sym Stroke → Turtle → Turtle
move left t = turtle t.at ((t.heading + 1) % 6)
move right t = turtle t.at ((t.heading + 5) % 6)
move (letter s) t = turtle (t.at ⊕ rots t.heading s.step) t.heading

-- the corners of the cell that a stroke hosts
unfoldable pub corner : Turtle → AB → AB
corner t c = t.at ⊕ rots t.heading c

unfoldable pub corners : Stroke → Turtle → Corners
corners s t = record { p = corner t s.p; q = corner t s.q; r = corner t s.r }

-- base xor 1 if lowercase, which the stroke has, xor the heading's low bit
unfoldable pub turned_flavor : ℕ → Option ℕ → Option ℕ
turned_flavor h (Some f) = Some (toggled h f)
turned_flavor h None = None

-- the cell: the sum of its three corners, and its flavor
unfoldable pub cell : Stroke → Turtle → DrawnCell
cell s t = record { sum = corner t s.p ⊕ corner t s.q ⊕ corner t s.r; flavor = turned_flavor t.heading s.flavor }

-- the cells drawn along a word, in order, and where the turtle ends
unfoldable pub cells : List (Sym Stroke) → Turtle → List DrawnCell
cells [] t = []
cells (left ∷ w) t = cells w (move left t)
cells (right ∷ w) t = cells w (move right t)
cells (letter s ∷ w) t = cell s t ∷ cells w (move (letter s) t)

unfoldable pub final : List (Sym Stroke) → Turtle → Turtle
final [] t = t
final (a ∷ w) t = final w (move a t)

-- ---- a single step on a byte, on every turtle: its heading is taken modulo 6
abbrev pub faced : Turtle → Turtle
faced t = turtle t.at (t.heading % 6)

abbrev pub step_by : List (Sym Stroke) → Turtle → Stepped
step_by [] t = Stepped.NoDraw
step_by (left ∷ w) t = Stepped.Turned (move left t)
step_by (right ∷ w) t = Stepped.Turned (move right t)
step_by (letter s ∷ w) t = Stepped.Drew (cell s t) (move (letter s) t)

unfoldable pub step_of : ℕ → Turtle → Stepped
step_of b t = cond (far t.at) Stepped.Lost (step_by (symbol_of b) (faced t))

abbrev pub corners_by : Option Stroke → Turtle → Result Corners Unhosted
corners_by (Some s) t = Ok (corners s t)
corners_by None t = Err Unhosted.NoDraw

unfoldable pub corners_of : ℕ → Turtle → Result Corners Unhosted
corners_of b t = cond (far t.at) (Err Unhosted.Lost) (corners_by (stroke_of b) (faced t))
