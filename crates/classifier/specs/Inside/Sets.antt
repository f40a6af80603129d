-- What the code has on its way to a classifier: a set of children, the line that is found, the lines that are gathered.
use Rattle.std.specs.Prelude.{◌≡◌, Bool, true, false, not, cond, ◌&&◌, List, [], ◌∷◌, ℕ, zero, suc, ◌+◌, ◌≤◌, ltb, ℤ, neg_ℤ, ◌+ℤ◌, length, get_or}
use Rattle.turtle.specs.declared.AB.{AB}
use Rattle.turtle.specs.Plane.{origin}
use Rattle.turtle.specs.Inside.Sizes.{Within}
use Rattle.classifier.specs.declared.Placed.{Placed}
use Rattle.classifier.specs.declared.Separator.{Separator}
use Rattle.classifier.specs.declared.groups.Group.{Group}
use Rattle.classifier.specs.Splits.{Polygon, line_through, over, tree_of, whole, collected, choice}
use Rattle.classifier.specs.Shapes.{placed_corners, no_placed, polygon_of, no_separator}

-- a corner of a placed footprint reaches no further
pub record Close (p : AB) : Type 0 where
  pub a : Within 768 p.a
  pub b : Within 768 p.b

-- one coordinate of it, of the place and of the corner
abbrev pub tripled : Bool → ℤ → ℤ → ℤ
tripled false a x = a +ℤ a +ℤ a +ℤ (x +ℤ x +ℤ x)
tripled true a x = a +ℤ a +ℤ a +ℤ (neg_ℤ x +ℤ neg_ℤ x +ℤ neg_ℤ x)

-- ---- a set of children: the polygons of its digits, in order
abbrev pub kept : Bool → Polygon → List Polygon → List Polygon
kept true g gs = g ∷ gs
kept false g gs = gs

-- those of n digits from d on
unfoldable pub members_from : List Placed → List Bool → ℕ → ℕ → List Polygon
members_from gs has zero d = []
members_from gs has (suc n) d = let rest = members_from gs has n (suc d) in kept (get_or has d false) (polygon_of gs d) rest

abbrev pub members : Group → List Polygon
members group = members_from group.children.now group.has 4 0

-- whether the child of digit d is one of them, and over the line, or not over it
abbrev pub on_side : Bool → Bool → Bool
on_side true b = b
on_side false b = not b

abbrev pub stays : Bool → Separator → List Placed → List Bool → ℕ → Bool
stays above s gs has d = get_or has d false && on_side above (over s (placed_corners (get_or gs d no_placed)))

-- the digit of the first one
abbrev pub first_digit : List Polygon → ℕ
first_digit [] = 0
first_digit (g ∷ gs) = g.digit

-- the edge from corner i to the next one, or from the last one to the first
unfoldable pub edge_at : List AB → ℕ → Separator
edge_at ps i = cond (ltb (i + 1) (length ps)) (line_through (get_or ps i origin) (get_or ps (i + 1) origin)) (line_through (get_or ps i origin) (get_or ps 0 origin))

-- ---- lines gathered so far, each once, and whether each set met was split
pub record Lines : Type 0 where
  pub lines : List Separator
  pub whole : Bool

-- as the code has them, those unused zero
abbrev pub three_of : List Separator → List Separator
three_of ss = get_or ss 0 no_separator ∷ get_or ss 1 no_separator ∷ get_or ss 2 no_separator ∷ []

-- what is gathered once the tree of a set is gone through, and the child that a pattern leads to there: by a tree of any depth that the set needs
pub record Through (gs : List Polygon) (so_far r : Lines) : Type 0 where
  pub by : (n : ℕ) → length gs ≤ suc n → r ≡ record { lines = collected so_far.lines (tree_of n gs); whole = so_far.whole && whole (tree_of n gs) }

pub record Led (gs : List Polygon) (ss : List Separator) (pattern d : ℕ) : Type 0 where
  pub by : (n : ℕ) → length gs ≤ suc n → d ≡ choice ss pattern (tree_of n gs)
