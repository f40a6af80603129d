-- Words of bytes: reversal, and one expansion pass.
use Rattle.std.specs.Prelude.{Bool, ◌&&◌, cond, List, [], ◌∷◌, ◌++◌, map, reverse, ℕ, ◌+◌, ◌-◌, leb, eqb, Option, None, Some}

abbrev pub is_lower : ℕ → Bool
is_lower b = leb 97 b && leb b 122

abbrev pub is_upper : ℕ → Bool
is_upper b = leb 65 b && leb b 90

-- a lowercase letter in uppercase; any other byte as it is
unfoldable pub upper : ℕ → ℕ
upper b = cond (is_lower b) (b - 32) b

-- a byte met from the other end: '+' and '-' exchanged, a letter's case swapped
unfoldable pub mirrored : ℕ → ℕ
mirrored b = cond (eqb b 43) 45 (cond (eqb b 45) 43 (cond (is_lower b) (b - 32) (cond (is_upper b) (b + 32) b)))

-- the order reversed, each turn flipped, each letter's case swapped
unfoldable pub reversed : List ℕ → List ℕ
reversed w = reverse (map mirrored w)

-- a byte's word, as a book has it; of a lowercase letter, its uppercase letter's word reversed; else the byte itself
abbrev pub reversed_or_self : ℕ → Option (List ℕ) → List ℕ
reversed_or_self b (Some w) = reversed w
reversed_or_self b None = b ∷ []

abbrev pub by_book : (ℕ → Option (List ℕ)) → ℕ → Option (List ℕ) → List ℕ
by_book book b (Some w) = w
by_book book b None = reversed_or_self b (book (upper b))

unfoldable pub word_of : (ℕ → Option (List ℕ)) → ℕ → List ℕ
word_of book b = by_book book b (book b)

-- one pass: every byte's word, one after the other
unfoldable pub expand_once : (ℕ → Option (List ℕ)) → List ℕ → List ℕ
expand_once book [] = []
expand_once book (b ∷ w) = word_of book b ++ expand_once book w
