-- What the compiler has of a state's children: where each starts, and its footprint there.
use Rattle.std.specs.Prelude.{◌≡◌, Bool, List, [], ◌∷◌, ℕ, ◌<◌}
use Rattle.turtle.specs.declared.AB.{AB}
use Rattle.turtle.specs.Plane.{signed}
use Rattle.grammar.specs.Texts.{Line, lines_of}
use Rattle.tables.specs.declared.Child.{Child}
use Rattle.tables.specs.declared.Source.{Source}
use Rattle.tables.specs.Children.{children, offset}
use Rattle.tables.specs.Inside.Sources.{Ready}

-- where each child of a token starts, opposite where the state is flipped
unfoldable pub starts : List Line → ℕ → Bool → List AB
starts ls m f = signed f (offset ls m 0) ∷ signed f (offset ls m 1) ∷ signed f (offset ls m 2) ∷ signed f (offset ls m 3) ∷ []

-- the children of a token of the text
pub record ChildrenOf (text : List ℕ) (s : Source) (m : ℕ) (cs : List Child) : Type 0 where
  pub ready : Ready text s
  pub below : m < s.count
  pub are : cs ≡ children (lines_of text) m
