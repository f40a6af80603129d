-- A grammar as words of symbols: what the lines of an accepted text stand for. Proofs go by it; the definitions speak of bytes.
use mathlib.Core.Path.{◌≡◌}
use mathlib.Core.List.{List, [], ◌∷◌, ◌++◌}
use Prim.Native.Nat.{ℕ, zero, suc, ◌+◌, ◌%◌, ◌<◌}
use lib.Dec.{eqb}
use lib.ListN.{length}
use Rattle.turtle.specs.declared.AB.{AB}
use Rattle.turtle.specs.declared.letter.Stroke.{Stroke}
use Rattle.turtle.specs.Plane.{◌⊕◌, facing}
use Rattle.turtle.specs.Walk.{Sym, left, right, letter, symbols_of, start, final}
use Rattle.grammar.specs.Words.{word_of}
use Rattle.grammar.specs.Texts.{Line}
use Rattle.grammar.specs.Curves.{rules, draws, token_bytes, letter_of, rule_symbols, turned, letter_count}

-- meant at the tokens below `tokens`
pub record Grammar : Type 0 where
  pub tokens : ℕ
  pub rule : ℕ → List (Sym ℕ)
  pub draw : ℕ → List (Sym Stroke)

unfoldable pub grammar_of : List Line → Grammar
grammar_of ls = record {
  tokens = length (token_bytes ls);
  rule = λ m. rule_symbols ls (word_of (rules ls) (letter_of ls m));
  draw = λ m. symbols_of (word_of (draws ls) (letter_of ls m));
}

-- every letter of w replaced by its word
unfoldable pub graft : {A B : Type 0} → (A → List (Sym B)) → List (Sym A) → List (Sym B)
graft f [] = []
graft f (left ∷ w) = left ∷ graft f w
graft f (right ∷ w) = right ∷ graft f w
graft f (letter a ∷ w) = f a ++ graft f w

-- r passes of the rules
unfoldable pub expand : Grammar → ℕ → List (Sym ℕ) → List (Sym ℕ)
expand g zero w = w
expand g (suc r) w = expand g r (graft g.rule w)

-- the strokes of a word after r passes
unfoldable pub drawn : Grammar → ℕ → List (Sym ℕ) → List (Sym Stroke)
drawn g r w = graft g.draw (expand g r w)

-- where the turtle ends that draws a token
unfoldable pub net_of : Grammar → ℕ → ℕ → AB
net_of g r m = (final (drawn g r (letter m ∷ [])) start).at

-- every letter of w is met at heading 0 or 3, and is a token
unfoldable pub Upright : Grammar → ℕ → List (Sym ℕ) → Type 0
Upright g h [] = Unit {0}
Upright g h (left ∷ w) = Upright g ((h + 1) % 6) w
Upright g h (right ∷ w) = Upright g ((h + 5) % 6) w
Upright g h (letter m ∷ w) = (h ≡ facing (eqb h 3)) × (m < g.tokens) × Upright g h w

-- what is asked of a grammar, of each of its tokens
pub record Accepted (g : Grammar) : Type 0 where
  pub four : (m : ℕ) → m < g.tokens → letter_count (g.rule m) ≡ 4
  pub faced : (m : ℕ) → m < g.tokens → Upright g 0 (g.rule m)
  pub rule_turns : (m : ℕ) → m < g.tokens → turned 0 (g.rule m) ≡ 0
  pub single : (m : ℕ) → m < g.tokens → letter_count (g.draw m) ≡ 1
  pub draw_turns : (m : ℕ) → m < g.tokens → turned 0 (g.draw m) ≡ 0
  pub twice : (m : ℕ) → m < g.tokens → net_of g 2 m ≡ net_of g 1 m ⊕ net_of g 1 m
