-- The text form of a grammar: lines of a motif letter, its rule and its draw, set apart by single spaces.
use Rattle.std.specs.Prelude.{Bool, true, false, ◌&&◌, cond, List, [], ◌∷◌, map, ℕ, leb, eqb, length, get_or}
use Rattle.text.specs.Words.{words_of as fields_of}

-- ---- the text cut into rows, each with whether its LF is there
pub record Row : Type 0 where
  pub bytes : List ℕ
  pub ended : Bool

abbrev pub prefixed : ℕ → List Row → List Row
prefixed b [] = record { bytes = b ∷ []; ended = false } ∷ []
prefixed b (r ∷ rs) = record { bytes = b ∷ r.bytes; ended = r.ended } ∷ rs

unfoldable pub rows_of : List ℕ → List Row
rows_of [] = []
rows_of (b ∷ text) = cond (eqb b 10) (record { bytes = []; ended = true } ∷ rows_of text) (prefixed b (rows_of text))

-- ---- a row's fields, its words: three and LF, of one byte, 1 to 24 bytes, 1 to 12 bytes
abbrev pub sized : ℕ → List ℕ → Bool
sized most field = leb 1 (length field) && leb (length field) most

unfoldable pub shaped : Row → Bool
shaped r =
    let fields = fields_of r.bytes in
    r.ended && eqb (length fields) 3 && sized 1 (get_or fields 0 []) && sized 24 (get_or fields 1 []) && sized 12 (get_or fields 2 [])

pub record Line : Type 0 where
  pub name : ℕ
  pub rule : List ℕ
  pub draw : List ℕ

unfoldable pub line_of : Row → Line
line_of r = let fields = fields_of r.bytes in record { name = get_or (get_or fields 0 []) 0 0; rule = get_or fields 1 []; draw = get_or fields 2 [] }

unfoldable pub lines_of : List ℕ → List Line
lines_of text = map line_of (rows_of text)
