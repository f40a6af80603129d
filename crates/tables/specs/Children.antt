-- A token's four children: their tokens, flips and offsets; and its leaves.
use Rattle.std.specs.Prelude.{Bool, false, List, [], ◌∷◌, ℕ, zero, suc, ◌+◌, ◌%◌, eqb, get_or, None}
use Rattle.turtle.specs.declared.AB.{AB}
use Rattle.turtle.specs.declared.walk.DrawnCell.{DrawnCell}
use Rattle.turtle.specs.Plane.{origin, ◌⊕◌, signed, facing}
use Rattle.turtle.specs.Walk.{Sym, left, right, letter, turtle, cells}
use Rattle.grammar.specs.Words.{word_of}
use Rattle.grammar.specs.Texts.{Line}
use Rattle.tables.specs.declared.Child.{Child}
use Rattle.grammar.specs.Curves.{rules, strokes, net, letter_of, rule_symbols}

-- the children along a rule: each at heading 0, or flipped: at heading 3
unfoldable pub children_along : ℕ → List (Sym ℕ) → List Child
children_along h [] = []
children_along h (left ∷ w) = children_along ((h + 1) % 6) w
children_along h (right ∷ w) = children_along ((h + 5) % 6) w
children_along h (letter m ∷ w) = record { token = m; flip = eqb h 3 } ∷ children_along h w

-- those of a token, in the order of its rule, which is reversed for a lowercase one
unfoldable pub children : List Line → ℕ → List Child
children ls m = children_along 0 (rule_symbols ls (word_of (rules ls) (letter_of ls m)))

abbrev pub no_child : Child
no_child = record { token = 0; flip = false }

abbrev pub child : List Line → ℕ → ℕ → Child
child ls m d = get_or (children ls m) d no_child

-- where child d starts: the nets of those before it after r passes, opposite where flipped
unfoldable pub offset_after : List Line → ℕ → List Child → ℕ → AB
offset_after ls r cs zero = origin
offset_after ls r [] (suc d) = origin
offset_after ls r (c ∷ cs) (suc d) = signed c.flip (net ls r (letter_of ls c.token)) ⊕ offset_after ls r cs d

unfoldable pub offset : List Line → ℕ → ℕ → AB
offset ls m d = offset_after ls 1 (children ls m) d

-- the four cells of a token's drawing with one pass, walked from the origin at heading 0 or 3
unfoldable pub leaves : List Line → ℕ → Bool → List DrawnCell
leaves ls m f = cells (strokes ls 1 (letter_of ls m)) (turtle origin (facing f))

abbrev pub no_cell : DrawnCell
no_cell = record { sum = origin; flavor = None }

abbrev pub leaf : List Line → ℕ → Bool → ℕ → DrawnCell
leaf ls m f d = get_or (leaves ls m f) d no_cell
