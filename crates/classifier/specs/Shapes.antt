-- A hull, a placed footprint and a classifier as the code has them, and what they mean.
use Rattle.std.specs.Prelude.{false, List, [], ◌∷◌, map, ℕ, zero, suc, min, pos, length, get_or, take}
use Rattle.turtle.specs.declared.AB.{AB}
use Rattle.turtle.specs.Plane.{ab, ◌⊕◌, signed, thrice}
use Rattle.classifier.specs.declared.Corner.{Corner}
use Rattle.classifier.specs.declared.Hull.{Hull}
use Rattle.classifier.specs.declared.Placed.{Placed}
use Rattle.classifier.specs.declared.Separator.{Separator}
use Rattle.classifier.specs.declared.Classifier.{Classifier}
use Rattle.classifier.specs.Splits.{Polygon, tree_of, whole, separators, choice}

-- ---- hulls
abbrev pub point_of : Corner → AB
point_of c = ab c.a c.b

abbrev pub corner_of : AB → Corner
corner_of p = record { a = p.a; b = p.b }

abbrev pub no_corner : Corner
no_corner = record { a = pos 0; b = pos 0 }

-- n corners: those of a list, and behind them (0, 0)
abbrev pub padded : ℕ → List AB → List Corner
padded zero ps = []
padded (suc n) [] = no_corner ∷ padded n []
padded (suc n) (p ∷ ps) = corner_of p ∷ padded n ps

-- a list of points as the code has it
abbrev pub hull_by : List AB → Hull
hull_by ps = record { corners = padded 24 ps; count = length ps }

-- the points that a hull of the code has
unfoldable pub points_of : Hull → List AB
points_of h = map point_of (take (min h.count 24) h.corners)

-- ---- a placed footprint, three times as large
unfoldable pub placed_corners : Placed → List AB
placed_corners g = map (λ p. thrice (point_of g.at) ⊕ thrice (signed g.flip p)) (points_of g.hull)

abbrev pub no_placed : Placed
no_placed = record { hull = record { corners = []; count = 0 }; at = no_corner; flip = false }

abbrev pub polygon_of : List Placed → ℕ → Polygon
polygon_of gs d = record { digit = d; corners = placed_corners (get_or gs d no_placed) }

abbrev pub polygons_of : List Placed → List Polygon
polygons_of gs = polygon_of gs 0 ∷ polygon_of gs 1 ∷ polygon_of gs 2 ∷ polygon_of gs 3 ∷ []

-- ---- the classifier of four children: what their tree comes to
abbrev pub no_separator : Separator
no_separator = record { x = pos 0; y = pos 0; c = pos 0 }

unfoldable pub classifier_of : List Polygon → Classifier
classifier_of gs =
    let t = tree_of 3 gs in
    let ss = separators t in
    record {
      separators = get_or ss 0 no_separator ∷ get_or ss 1 no_separator ∷ get_or ss 2 no_separator ∷ [];
      choices = choice ss 0 t ∷ choice ss 1 t ∷ choice ss 2 t ∷ choice ss 3 t ∷ choice ss 4 t ∷ choice ss 5 t ∷ choice ss 6 t ∷ choice ss 7 t ∷ [];
      whole = whole t;
    }
