-- What a grammar's lines draw: passes of the rules, the draw pass, the turtle's walk; and their motifs by token.
use Rattle.std.specs.Prelude.{Bool, true, false, ◌&&◌, ◌||◌, cond, List, [], ◌∷◌, ◌++◌, map, ℕ, zero, suc, ◌+◌, ◌%◌, eqb, get_or, Option, None, Some}
use Rattle.turtle.specs.declared.AB.{AB}
use Rattle.turtle.specs.declared.walk.DrawnCell.{DrawnCell}
use Rattle.turtle.specs.declared.letter.Stroke.{Stroke}
use Rattle.turtle.specs.Walk.{Sym, left, right, letter, symbols_of, start, cells, final}
use Rattle.grammar.specs.Words.{upper, expand_once}
use Rattle.grammar.specs.Texts.{Line}

-- the word that the lines have for a motif letter: a rule, or a draw
abbrev pub book_by : (Line → List ℕ) → List Line → ℕ → Option (List ℕ)
book_by word [] b = None
book_by word (l ∷ ls) b = cond (eqb l.name b) (Some (word l)) (book_by word ls b)

abbrev pub rules : List Line → ℕ → Option (List ℕ)
rules = book_by (λ l. l.rule)

abbrev pub draws : List Line → ℕ → Option (List ℕ)
draws = book_by (λ l. l.draw)

-- r passes of the rules, and then one of the draws
unfoldable pub passes : List Line → ℕ → List ℕ → List ℕ
passes ls zero w = w
passes ls (suc r) w = passes ls r (expand_once (rules ls) w)

unfoldable pub strokes : List Line → ℕ → ℕ → List (Sym Stroke)
strokes ls r b = symbols_of (expand_once (draws ls) (passes ls r (b ∷ [])))

-- THE DRAWING of a motif letter with r passes: the cells along the walk, from the origin at heading 0
unfoldable pub drawing : List Line → ℕ → ℕ → List DrawnCell
drawing ls r b = cells (strokes ls r b) start

-- where that walk ends
unfoldable pub net : List Line → ℕ → ℕ → AB
net ls r b = (final (strokes ls r b) start).at

-- ---- tokens: the motifs in letter order, then their lowercase forms
abbrev pub is_named : List Line → ℕ → Bool
is_named [] b = false
is_named (l ∷ ls) b = eqb l.name b || is_named ls b

-- those of n letters from b on that are listed
abbrev pub named_from : List Line → ℕ → ℕ → List ℕ
named_from ls zero b = []
named_from ls (suc n) b = let rest = named_from ls n (suc b) in cond (is_named ls b) (b ∷ rest) rest

unfoldable pub token_bytes : List Line → List ℕ
token_bytes ls = let names = named_from ls 26 65 in names ++ map (λ b. b + 32) names

-- a token's letter, and the token of a letter: the number of tokens where there is none
unfoldable pub letter_of : List Line → ℕ → ℕ
letter_of ls m = get_or (token_bytes ls) m 0

abbrev pub place_in : List ℕ → ℕ → ℕ
place_in [] b = 0
place_in (c ∷ cs) b = cond (eqb c b) 0 (suc (place_in cs b))

unfoldable pub token_of : List Line → ℕ → ℕ
token_of ls b = place_in (token_bytes ls) b

-- ---- a rule's turns and children; a byte that is neither is passed over
unfoldable pub rule_symbol : List Line → ℕ → List (Sym ℕ)
rule_symbol ls b =
    cond (eqb b 43) (left ∷ [])
    (cond (eqb b 45) (right ∷ [])
    (cond (is_named ls (upper b)) (letter (token_of ls b) ∷ []) []))

unfoldable pub rule_symbols : List Line → List ℕ → List (Sym ℕ)
rule_symbols ls [] = []
rule_symbols ls (b ∷ w) = rule_symbol ls b ++ rule_symbols ls w

-- the heading after a word's turns, and how many letters the word has
unfoldable pub turned : {A : Type 0} → ℕ → List (Sym A) → ℕ
turned h [] = h
turned h (left ∷ w) = turned ((h + 1) % 6) w
turned h (right ∷ w) = turned ((h + 5) % 6) w
turned h (letter a ∷ w) = turned h w

unfoldable pub letter_count : {A : Type 0} → List (Sym A) → ℕ
letter_count [] = 0
letter_count (left ∷ w) = letter_count w
letter_count (right ∷ w) = letter_count w
letter_count (letter a ∷ w) = suc (letter_count w)

-- every letter is met at heading 0 or 3
unfoldable pub upright : {A : Type 0} → ℕ → List (Sym A) → Bool
upright h [] = true
upright h (left ∷ w) = upright ((h + 1) % 6) w
upright h (right ∷ w) = upright ((h + 5) % 6) w
upright h (letter a ∷ w) = (eqb h 0 || eqb h 3) && upright h w
