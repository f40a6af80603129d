-- The table of a grammar: each state's 41 numbers, in state order. A state is 2 * token + flip.
-- 0 to 3: the children's states. 4 to 11: their offsets, pairs, opposite where the state is flipped. 12 to 19: the leaves' corner sums,
-- pairs. 20 to 23: the leaves' flavors. 24 to 32: three separators of three, those unused 0. 33 to 40: the child for each pattern.
use Rattle.std.specs.Prelude.{Bool, true, false, List, [], ◌∷◌, ◌++◌, ℕ, zero, suc, ◌+◌, ◌*◌, ℤ, pos, negsuc, length, get_or, Option, Some, None}
use Rattle.turtle.specs.declared.AB.{AB}
use Rattle.turtle.specs.declared.walk.DrawnCell.{DrawnCell}
use Rattle.turtle.specs.Plane.{signed, flipped}
use Rattle.classifier.specs.declared.Separator.{Separator}
use Rattle.classifier.specs.Shapes.{no_separator}
use Rattle.grammar.specs.Texts.{Line}
use Rattle.grammar.specs.Curves.{token_bytes}
use Rattle.tables.specs.Children.{child, offset, leaf}
use Rattle.tables.specs.Classifier.{classes}
use Rattle.tables.specs.Descent.{Leaf}

abbrev pub bit : Bool → ℕ
bit false = 0
bit true = 1

unfoldable pub state_of : ℕ → Bool → ℕ
state_of m f = 2 * m + bit f

abbrev pub pair : AB → List ℤ
pair p = p.a ∷ p.b ∷ []

-- a drawn cell that has no flavor is none of a state's: no such text is accepted
abbrev pub flavor_number : Option ℕ → ℤ
flavor_number (Some f) = pos f
flavor_number None = negsuc 0

-- a drawn cell, as a table has it
abbrev pub leaf_of : DrawnCell → Leaf
leaf_of c = record { sum = c.sum; flavor = flavor_number c.flavor }

abbrev pub three : Separator → List ℤ
three s = s.x ∷ s.y ∷ s.c ∷ []

-- f at 0, at 1, .. below n
abbrev pub up_to : {A : Type 0} → (ℕ → List A) → ℕ → List A
up_to f zero = []
up_to f (suc n) = up_to f n ++ f n

unfoldable pub state_row : List Line → ℕ → Bool → List ℤ
state_row ls m f =
    let c = classes ls m f in
    up_to (λ d. pos (state_of (child ls m d).token (flipped f (child ls m d).flip)) ∷ []) 4
    ++ (up_to (λ d. pair (signed f (offset ls m d))) 4
    ++ (up_to (λ d. pair (leaf ls m f d).sum) 4
    ++ (up_to (λ d. flavor_number (leaf ls m f d).flavor ∷ []) 4
    ++ (up_to (λ i. three (get_or c.separators i no_separator)) 3
    ++ up_to (λ p. pos (get_or c.choices p 0) ∷ []) 8))))

-- the whole table: the states of each token
unfoldable pub table_of : List Line → List ℤ
table_of ls = up_to (λ m. state_row ls m false ++ state_row ls m true) (length (token_bytes ls))
