-- The children along a rule so far, by the source's own letters: loop invariants of the compiler.
use Rattle.std.specs.Prelude.{◌≡◌, cond, List, [], ◌∷◌, ◌++◌, ℕ, ◌+◌, min, eqb, take}
use Rattle.turtle.specs.Walk.{Sym, left, right, letter}
use Rattle.grammar.specs.Words.{upper}
use Rattle.grammar.specs.Curves.{place_in, turned, letter_count}
use Rattle.grammar.specs.Scans.{has_name}
use Rattle.tables.specs.declared.Source.{Source}
use Rattle.tables.specs.declared.children.RuleChildren.{RuleChildren}
use Rattle.tables.specs.Children.{children_along}
use Rattle.tables.specs.Inside.Sources.{letters_in}

-- a rule's byte and a rule's bytes, as `rule_symbol` and `rule_symbols` have them of the lines
unfoldable pub rule_symbol_by : Source → ℕ → List (Sym ℕ)
rule_symbol_by s b =
    cond (eqb b 43) (left ∷ [])
    (cond (eqb b 45) (right ∷ [])
    (cond (has_name s.lines.name (upper b) (min s.lines.count 8) 0) (letter (place_in (letters_in s) b) ∷ []) []))

unfoldable pub rule_symbols_by : Source → List ℕ → List (Sym ℕ)
rule_symbols_by s [] = []
rule_symbols_by s (b ∷ w) = rule_symbol_by s b ++ rule_symbols_by s w

-- from m on, along w
pub record ChildrenOnward (m : RuleChildren) (w : List (Sym ℕ)) (n : RuleChildren) : Type 0 where
  pub count : n.count ≡ m.count + letter_count w
  pub children : take n.count n.children ≡ take m.count m.children ++ children_along m.heading w
  pub heading : n.heading ≡ turned m.heading w
