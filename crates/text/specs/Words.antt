-- A line of bytes and its words, which single spaces set apart.
use Rattle.std.specs.Prelude.{cond, List, [], ◌∷◌, ◌++◌, ℕ, suc, eqb}

-- how many elements stand before the first b; all of them where there is none
unfoldable pub until : ℕ → List ℕ → ℕ
until b [] = 0
until b (c ∷ w) = cond (eqb c b) 0 (suc (until b w))

-- b in front of the first word
abbrev pub grown : ℕ → List (List ℕ) → List (List ℕ)
grown b [] = []
grown b (w ∷ ws) = (b ∷ w) ∷ ws

-- THE WORDS of a line: one more than its spaces, and empty where spaces meet
unfoldable pub words_of : List ℕ → List (List ℕ)
words_of [] = [] ∷ []
words_of (b ∷ line) = cond (eqb b 32) ([] ∷ words_of line) (grown b (words_of line))

-- THE LINE of words, with a single space between two
unfoldable pub spaced : List (List ℕ) → List ℕ
spaced [] = []
spaced (w ∷ []) = w
spaced (w ∷ v ∷ ws) = w ++ (32 ∷ spaced (v ∷ ws))
