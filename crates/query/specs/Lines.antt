-- A query as a line of bytes, without LF, and its answer as one.
use Rattle.std.specs.Prelude.{Bool, ◌&&◌, cond, List, [], ◌∷◌, ℕ, ltb, eqb, length, get_or, Option, Some, None}
use Rattle.triple.specs.declared.Triple.{Triple}
use Rattle.triple.specs.declared.refusal.Refusal.TheVariants as Is
use Rattle.triple.specs.Refusals.{Told, told, refused, number_of, refuse, ◌>>=◌}
use Rattle.lsystem.specs.declared.Position.{Position}
use Rattle.curve.specs.Points.{mark_of}
use Rattle.text.specs.Words.{words_of, spaced}
use Rattle.text.specs.Decimals.{u8, u64, i32, natural, integer}
use Rattle.text.specs.Patterns.{f64}
use Rattle.query.specs.declared.Query.{Query}
use Rattle.query.specs.declared.Found.{Found}
use Rattle.query.specs.Queries.{answer_of}

-- ---- the query of a line's words
-- a word that is no such number spoils its line
abbrev pub number : {A : Type 0} → Option A → Told A
number (Some v) = told v
number None = refused (number_of Is.Line)

-- the words after o and r
abbrev pub position_rest : ℕ → ℕ → List (List ℕ) → Told Query
position_rest o r w = do
  s ← number (u64 (get_or w 3 []))
  told (Query.Position o r s)

abbrev pub cell_rest : ℕ → ℕ → List (List ℕ) → Told Query
cell_rest o r w = do
  x ← number (i32 (get_or w 3 []))
  y ← number (i32 (get_or w 4 []))
  z ← number (i32 (get_or w 5 []))
  told (Query.Cell o r (record { x = x; y = y; z = z }))

abbrev pub point_rest : ℕ → ℕ → List (List ℕ) → Told Query
point_rest o r w = do
  i ← number (f64 (get_or w 3 []))
  j ← number (f64 (get_or w 4 []))
  told (Query.Point o r i j)

-- o and r, and then the rest
unfoldable pub headed : (ℕ → ℕ → List (List ℕ) → Told Query) → List (List ℕ) → Told Query
headed rest w = do
  o ← number (u8 (get_or w 1 []))
  r ← number (u8 (get_or w 2 []))
  rest o r w

-- n words, the first of them the letter alone
unfoldable pub starts : ℕ → ℕ → List (List ℕ) → Bool
starts letter n w = eqb (length w) n && eqb (length (get_or w 0 [])) 1 && eqb (get_or (get_or w 0 []) 0 0) letter

-- THE QUERY of a line of at most 64 bytes: P o r s, C o r x y z or R o r i j
unfoldable pub query_of : List ℕ → Told Query
query_of line =
    let w = words_of line in
    refuse (ltb 64 (length line)) Is.Line
    (cond (starts 80 4 w) (headed position_rest w)
    (cond (starts 67 6 w) (headed cell_rest w)
    (cond (starts 82 5 w) (headed point_rest w) (refused (number_of Is.Line)))))

-- ---- the answer's words: triple and flavor; position and flavor; triple, position, flavor and mark; or ! and the number
abbrev pub triple_words : Triple → List (List ℕ) → List (List ℕ)
triple_words t w = integer t.x ∷ integer t.y ∷ integer t.z ∷ w

abbrev pub position_words : Position → List (List ℕ) → List (List ℕ)
position_words p w = natural p.s ∷ natural p.flavor ∷ w

unfoldable pub found_words : Told Found → List (List ℕ)
found_words (told (Found.Cell c)) = triple_words c.triple (natural c.flavor ∷ [])
found_words (told (Found.Position p)) = position_words p []
found_words (told (Found.Point c p)) = triple_words c.triple (position_words p (natural (mark_of c) ∷ []))
found_words (refused n) = (33 ∷ []) ∷ natural n ∷ []

-- THE LINE that a line prints
unfoldable pub answer_line : List ℕ → List ℕ
answer_line line = spaced (found_words (query_of line >>= answer_of))
