-- The classifier of a state: its children's hulls where they stand, and what tells them apart.
use Rattle.std.specs.Prelude.{Bool, List, [], ◌∷◌, map, ℕ}
use Rattle.turtle.specs.declared.AB.{AB}
use Rattle.turtle.specs.declared.walk.Turtle.{Turtle}
use Rattle.turtle.specs.declared.letter.Stroke.{Stroke}
use Rattle.turtle.specs.Plane.{◌⊕◌, signed, flipped, thrice}
use Rattle.turtle.specs.Walk.{Sym, left, right, letter, start, move, corner}
use Rattle.classifier.specs.declared.Classifier.{Classifier}
use Rattle.classifier.specs.Hulls.{hull}
use Rattle.classifier.specs.Splits.{Polygon}
use Rattle.classifier.specs.Shapes.{classifier_of}
use Rattle.grammar.specs.Texts.{Line}
use Rattle.grammar.specs.Curves.{strokes, letter_of}
use Rattle.tables.specs.declared.Child.{Child}
use Rattle.tables.specs.Children.{child, offset}

-- the corners of the cells drawn along a word
unfoldable pub footprint : List (Sym Stroke) → Turtle → List AB
footprint [] t = []
footprint (left ∷ w) t = footprint w (move left t)
footprint (right ∷ w) t = footprint w (move right t)
footprint (letter s ∷ w) t = corner t s.p ∷ corner t s.q ∷ corner t s.r ∷ footprint w (move (letter s) t)

-- the convex hull of a token's footprint, the corners of its leaves
unfoldable pub hull_of : List Line → ℕ → List AB
hull_of ls m = hull (footprint (strokes ls 1 (letter_of ls m)) start)

-- a child's hull from where it starts, three times as large
unfoldable pub placed_hull : List Line → Child → AB → Bool → List AB
placed_hull ls c at f = map (λ p. thrice at ⊕ thrice (signed (flipped f c.flip) p)) (hull_of ls c.token)

unfoldable pub polygon : List Line → ℕ → Bool → ℕ → Polygon
polygon ls m f d = record { digit = d; corners = placed_hull ls (child ls m d) (signed f (offset ls m d)) f }

abbrev pub polygons : List Line → ℕ → Bool → List Polygon
polygons ls m f = polygon ls m f 0 ∷ polygon ls m f 1 ∷ polygon ls m f 2 ∷ polygon ls m f 3 ∷ []

-- three separators, and the child for each pattern of sides
unfoldable pub classes : List Line → ℕ → Bool → Classifier
classes ls m f = classifier_of (polygons ls m f)
