-- Which child a point belongs to: lines that separate the children's footprints, and the child for each side of them.
use Rattle.std.specs.Prelude.{Bool, true, false, not, ◌&&◌, cond, List, [], ◌∷◌, ◌++◌, ℕ, zero, suc, ◌/◌, ◌%◌, ◌^◌, eqb, ltb, ℤ, pos, neg_ℤ, ◌+ℤ◌, ◌-ℤ◌, ◌*ℤ◌, length, Option, None, Some}
use Rattle.std.specs.Int.Signed.{le_z}
use Rattle.turtle.specs.declared.AB.{AB}
use Rattle.whole.specs.Tests.{equal}
use Rattle.classifier.specs.declared.Separator.{Separator}

-- ---- a child of a state: its digit, and the hull of its footprint, three times as large
pub record Polygon : Type 0 where
  pub digit : ℕ
  pub corners : List AB

-- ---- the line through an edge, and a point's value by it
unfoldable pub line_through : AB → AB → Separator
line_through p q =
    let x = q.b -ℤ p.b in
    let y = neg_ℤ (q.a -ℤ p.a) in
    record { x = x; y = y; c = neg_ℤ (x *ℤ p.a +ℤ y *ℤ p.b) }

unfoldable pub value : Separator → AB → ℤ
value s p = s.x *ℤ p.a +ℤ s.y *ℤ p.b +ℤ s.c

-- the edges of a polygon in hull order, the last back to the first corner
abbrev pub edges_from : AB → AB → List AB → List Separator
edges_from home p [] = line_through p home ∷ []
edges_from home p (q ∷ qs) = line_through p q ∷ edges_from home q qs

abbrev pub edges : List AB → List Separator
edges [] = []
edges (p ∷ ps) = edges_from p p ps

abbrev pub all_edges : List Polygon → List Separator
all_edges [] = []
all_edges (g ∷ gs) = edges g.corners ++ all_edges gs

-- ---- a clean split: every polygon is on one side or the other, and neither side is empty
abbrev pub over : Separator → List AB → Bool
over s [] = true
over s (p ∷ ps) = le_z (pos 0) (value s p) && over s ps

abbrev pub under : Separator → List AB → Bool
under s [] = true
under s (p ∷ ps) = le_z (value s p) (pos 0) && under s ps

-- the polygons over the line, or those not over it
unfoldable pub polygons_on : Bool → Separator → List Polygon → List Polygon
polygons_on b s [] = []
polygons_on true s (g ∷ gs) = cond (over s g.corners) (g ∷ polygons_on true s gs) (polygons_on true s gs)
polygons_on false s (g ∷ gs) = cond (over s g.corners) (polygons_on false s gs) (g ∷ polygons_on false s gs)

abbrev pub is_empty : List Polygon → Bool
is_empty [] = true
is_empty (g ∷ gs) = false

abbrev pub all_under : Separator → List Polygon → Bool
all_under s [] = true
all_under s (g ∷ gs) = under s g.corners && all_under s gs

abbrev pub clean : List Polygon → Separator → Bool
clean gs s = all_under s (polygons_on false s gs) && not (is_empty (polygons_on true s gs)) && not (is_empty (polygons_on false s gs))

abbrev pub first_clean : List Polygon → List Separator → Option Separator
first_clean gs [] = None
first_clean gs (s ∷ ss) = let rest = first_clean gs ss in cond (clean gs s) (Some s) rest

-- ---- the tree of splits: the first clean edge splits the set into two smaller sets, and each of those again
pub data Tree : Type 0 where
  only : ℕ → Tree
  split : Separator → Tree → Tree → Tree
  stuck : Tree

abbrev pub split_by : (List Polygon → Tree) → List Polygon → Option Separator → Tree
split_by again gs None = stuck
split_by again gs (Some s) = split s (again (polygons_on true s gs)) (again (polygons_on false s gs))

abbrev pub tree_by : (List Polygon → Tree) → List Polygon → Tree
tree_by again [] = stuck
tree_by again (g ∷ []) = only g.digit
tree_by again (g ∷ (h ∷ gs)) = split_by again (g ∷ h ∷ gs) (first_clean (g ∷ h ∷ gs) (all_edges (g ∷ h ∷ gs)))

-- of a set of at most `most` children and one
unfoldable pub tree_of : ℕ → List Polygon → Tree
tree_of zero gs = tree_by (λ _. stuck) gs
tree_of (suc most) gs = tree_by (tree_of most) gs

unfoldable pub whole : Tree → Bool
whole (only d) = true
whole (split s t u) = whole t && whole u
whole stuck = false

-- ---- its separators in order, each once, and the child for a pattern of sides: bit i is 1 on the side over separator i
abbrev pub same_separator : Separator → Separator → Bool
same_separator s t = equal s.x t.x && equal s.y t.y && equal s.c t.c

abbrev pub separator_index : List Separator → Separator → ℕ
separator_index [] s = 0
separator_index (t ∷ ts) s = cond (same_separator t s) 0 (suc (separator_index ts s))

abbrev pub with_separator : List Separator → Separator → List Separator
with_separator ss s = cond (ltb (separator_index ss s) (length ss)) ss (ss ++ (s ∷ []))

unfoldable pub collected : List Separator → Tree → List Separator
collected ss (only d) = ss
collected ss (split s t u) = collected (collected (with_separator ss s) t) u
collected ss stuck = ss

unfoldable pub separators : Tree → List Separator
separators t = collected [] t

unfoldable pub choice : List Separator → ℕ → Tree → ℕ
choice ss pattern (only d) = d
choice ss pattern (split s t u) = cond (eqb (pattern / 2 ^ separator_index ss s % 2) 1) (choice ss pattern t) (choice ss pattern u)
choice ss pattern stuck = 0
