-- What a word's symbols come to, byte by byte, and whether each of its bytes may stand there: loop invariants of the tests 14 to 18.
use Rattle.std.specs.Prelude.{◌≡◌, Bool, true, false, ◌&&◌, ◌||◌, List, [], ◌∷◌, ℕ, ◌+◌, ◌%◌, eqb}
use Rattle.std.specs.List.{FoldsTo}
use Rattle.turtle.specs.Walk.{Sym, left, right, letter, symbol_of, symbols_of}
use Rattle.grammar.specs.declared.tally.Kind.{Kind}
use Rattle.grammar.specs.declared.tally.Tally.{Tally}
use Rattle.grammar.specs.Words.{upper}
use Rattle.grammar.specs.Texts.{Line}
use Rattle.grammar.specs.Curves.{is_named, rule_symbol, rule_symbols, turned, letter_count, upright}
use Rattle.grammar.specs.Tests.{lawful_rule, is_turn, is_stroke, lawful_draw}

pub record Tallied {A : Type 0} (w : List (Sym A)) (ok : Bool) (t : Tally) : Type 0 where
  pub count : t.letters ≡ letter_count w
  pub end : t.heading ≡ turned 0 w
  pub straight : t.upright ≡ upright 0 w
  pub sound : t.lawful ≡ ok

abbrev pub still_upright : Tally → Bool
still_upright t = t.upright && (eqb t.heading 0 || eqb t.heading 3)

-- a byte's symbols
pub data Means {A : Type 0} : Kind → List (Sym A) → Bool → Type 0 where
  leftward : Means Kind.Left (left ∷ []) true
  rightward : Means Kind.Right (right ∷ []) true
  lettered : {a : A} → Means Kind.Letter (letter a ∷ []) true
  strayed : {a : A} → Means Kind.Stray (letter a ∷ []) false
  nothing : Means Kind.Nothing [] false

abbrev pub no_tally : Tally
no_tally = record { letters = 0; heading = 0; upright = true; lawful = true }

-- one byte more
abbrev pub tally_with : Kind → Tally → Tally
tally_with Kind.Left t = record { letters = t.letters; heading = (t.heading + 1) % 6; upright = t.upright; lawful = t.lawful }
tally_with Kind.Right t = record { letters = t.letters; heading = (t.heading + 5) % 6; upright = t.upright; lawful = t.lawful }
tally_with Kind.Letter t = record { letters = t.letters + 1; heading = t.heading; upright = still_upright t; lawful = t.lawful }
tally_with Kind.Stray t = record { letters = t.letters + 1; heading = t.heading; upright = still_upright t; lawful = false }
tally_with Kind.Nothing t = record { letters = t.letters; heading = t.heading; upright = t.upright; lawful = false }

-- a byte of a rule and of a draw, and whole words of them
abbrev pub RuleByte : List Line → ℕ → Kind → Type 0
RuleByte ls b k = Means k (rule_symbol ls b) (eqb b 43 || eqb b 45 || is_named ls (upper b))

abbrev pub DrawByte : ℕ → Kind → Type 0
DrawByte b k = Means k (symbol_of b) (is_turn b || is_stroke b)

abbrev pub RuleWord : List Line → List ℕ → Tally → Type 0
RuleWord ls w t = Tallied (rule_symbols ls w) (lawful_rule ls w) t

abbrev pub DrawWord : List ℕ → Tally → Type 0
DrawWord w t = Tallied (symbols_of w) (lawful_draw w) t

-- the tally of a word whose bytes are of the kinds that `is` says
abbrev pub Counts : (ℕ → Kind → Type 0) → Tally → List ℕ → Tally → Type 0
Counts is = FoldsTo (λ t b s. (k : Kind) × is b k × (s ≡ tally_with k t))
