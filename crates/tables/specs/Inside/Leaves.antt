-- The cells drawn along a token's strokes so far: loop invariants of the compiler.
use Rattle.std.specs.Prelude.{Result, Ok, ◌≡◌, List, [], ◌∷◌, ◌++◌, map, ◌+◌, ◌*◌, take}
use Rattle.turtle.specs.declared.AB.{AB}
use Rattle.turtle.specs.declared.letter.Stroke.{Stroke}
use Rattle.turtle.specs.declared.walk.Turtle.{Turtle}
use Rattle.turtle.specs.declared.walk.DrawnCell.{DrawnCell}
use Rattle.turtle.specs.declared.walk.Corners.{Corners}
use Rattle.turtle.specs.declared.walk.Unhosted.{Unhosted}
use Rattle.turtle.specs.Inside.Sizes.{Small, SmallStroke}
use Rattle.turtle.specs.Walk.{Sym, letter, move, corners, cell, cells, final}
use Rattle.classifier.specs.Shapes.{point_of}
use Rattle.grammar.specs.Curves.{letter_count}
use Rattle.tables.specs.declared.Drawn.{Drawn}
use Rattle.tables.specs.declared.leaves.CellWalk.{CellWalk}
use Rattle.tables.specs.Classifier.{footprint}
use Rattle.tables.specs.Table.{leaf_of}
use Rattle.tables.specs.Descent.{Leaf}
use Rattle.tables.specs.declared.DrawnLeaf.{DrawnLeaf}

-- the cells so far
abbrev pub corners_in : CellWalk → List AB
corners_in k = map point_of (take (3 * k.count) k.corners)

abbrev pub leaf_in : DrawnLeaf → Leaf
leaf_in l = record { sum = point_of l.sum; flavor = l.flavor }

abbrev pub leaves_in : CellWalk → List Leaf
leaves_in k = map leaf_in (take k.count k.leaves)

-- what a letter hosts where the turtle stands: its corners, and the cell that they sum to
pub record Hosts (t : Turtle) (h : Result Corners Unhosted) (d : DrawnCell) (next : Turtle) : Type 0 where
  pub stroke : Stroke
  pub small : SmallStroke stroke
  pub hosted : h ≡ Ok (corners stroke t)
  pub drawn : d ≡ cell stroke t
  pub moved : next ≡ move (letter stroke) t

-- one cell more
pub record CellAdded (k : CellWalk) (c : Corners) (d : DrawnCell) (t : Turtle) (n : CellWalk) : Type 0 where
  pub turtle : n.turtle ≡ t
  pub count : n.count ≡ k.count + 1
  pub corners : corners_in n ≡ corners_in k ++ (c.p ∷ c.q ∷ c.r ∷ [])
  pub leaves : leaves_in n ≡ leaves_in k ++ (leaf_of d ∷ [])

-- from k on, along w
pub record CellsOnward (k : CellWalk) (w : List (Sym Stroke)) (n : CellWalk) : Type 0 where
  pub count : n.count ≡ k.count + letter_count w
  pub corners : corners_in n ≡ corners_in k ++ footprint w k.turtle
  pub leaves : leaves_in n ≡ leaves_in k ++ map leaf_of (cells w k.turtle)
  pub turtle : n.turtle ≡ final w k.turtle

-- all that is drawn along w from t on
pub record IsDrawn (w : List (Sym Stroke)) (t : Turtle) (d : Drawn) : Type 0 where
  pub corners : map point_of d.corners ≡ footprint w t
  pub leaves : map leaf_in d.leaves ≡ map leaf_of (cells w t)
  pub end : point_of d.end ≡ (final w t).at
  pub near : Small 32 (point_of d.end)
