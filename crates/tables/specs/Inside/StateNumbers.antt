-- A state's 41 numbers, read one by one from the parts that the compiler has of the state.
use Rattle.std.specs.Prelude.{Bool, cond, List, [], ◌∷◌, ℕ, ◌-◌, ◌/◌, ◌%◌, ltb, eqb, ℤ, pos, get_or}
use Rattle.turtle.specs.Plane.{flipped}
use Rattle.classifier.specs.declared.Corner.{Corner}
use Rattle.classifier.specs.declared.Separator.{Separator}
use Rattle.classifier.specs.Shapes.{no_corner, no_separator}
use Rattle.tables.specs.declared.Child.{Child}
use Rattle.tables.specs.declared.DrawnLeaf.{DrawnLeaf}
use Rattle.tables.specs.declared.StateParts.{StateParts}
use Rattle.tables.specs.Children.{no_child}
use Rattle.tables.specs.Table.{state_of, up_to}

abbrev pub state_in : Bool → Child → ℤ
state_in f c = pos (state_of c.token (flipped f c.flip))

abbrev pub no_leaf : DrawnLeaf
no_leaf = record { sum = no_corner; flavor = pos 0 }

-- coordinates and factors alternate
abbrev pub coordinate_at : Corner → ℕ → ℤ
coordinate_at c j = cond (eqb (j % 2) 0) c.a c.b

abbrev pub factor_at : Separator → ℕ → ℤ
factor_at s j = cond (eqb (j % 3) 0) s.x (cond (eqb (j % 3) 1) s.y s.c)

-- number j: 4 states, 4 pairs, 4 pairs, 4 flavors, 3 separators of three, 8 choices
unfoldable pub number_of : StateParts → ℕ → ℤ
number_of p j =
    cond (ltb j 4) (state_in p.flip (get_or p.children j no_child))
    (cond (ltb j 12) (coordinate_at (get_or p.starts ((j - 4) / 2) no_corner) j)
    (cond (ltb j 20) (coordinate_at (get_or p.leaves ((j - 12) / 2) no_leaf).sum j)
    (cond (ltb j 24) (get_or p.leaves (j - 20) no_leaf).flavor
    (cond (ltb j 33) (factor_at (get_or p.classes.separators ((j - 24) / 3) no_separator) j)
    (pos (get_or p.classes.choices (j - 33) 0))))))

unfoldable pub numbers_of : StateParts → List ℤ
numbers_of p = up_to (λ j. number_of p j ∷ []) 41
