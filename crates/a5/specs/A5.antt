-- A5's grammar, as a text.
use Rattle.std.specs.Prelude.{List, [], ◌∷◌, ◌++◌, ℕ}
use Rattle.grammar.specs.Texts.{Line, lines_of}

-- A PQAB E
abbrev pub line_a : List ℕ
line_a = 65 ∷ 32 ∷ 80 ∷ 81 ∷ 65 ∷ 66 ∷ 32 ∷ 69 ∷ 10 ∷ []

-- B B+++PQ---A +e-
abbrev pub line_b : List ℕ
line_b = 66 ∷ 32 ∷ 66 ∷ 43 ∷ 43 ∷ 43 ∷ 80 ∷ 81 ∷ 45 ∷ 45 ∷ 45 ∷ 65 ∷ 32 ∷ 43 ∷ 101 ∷ 45 ∷ 10 ∷ []

-- C P---RMb+++ -e+
abbrev pub line_c : List ℕ
line_c = 67 ∷ 32 ∷ 80 ∷ 45 ∷ 45 ∷ 45 ∷ 82 ∷ 77 ∷ 98 ∷ 43 ∷ 43 ∷ 43 ∷ 32 ∷ 45 ∷ 101 ∷ 43 ∷ 10 ∷ []

-- M qQ+++C---b T
abbrev pub line_m : List ℕ
line_m = 77 ∷ 32 ∷ 113 ∷ 81 ∷ 43 ∷ 43 ∷ 43 ∷ 67 ∷ 45 ∷ 45 ∷ 45 ∷ 98 ∷ 32 ∷ 84 ∷ 10 ∷ []

-- P PpB---B+++ S
abbrev pub line_p : List ℕ
line_p = 80 ∷ 32 ∷ 80 ∷ 112 ∷ 66 ∷ 45 ∷ 45 ∷ 45 ∷ 66 ∷ 43 ∷ 43 ∷ 43 ∷ 32 ∷ 83 ∷ 10 ∷ []

-- Q PQ---Cb+++ D
abbrev pub line_q : List ℕ
line_q = 81 ∷ 32 ∷ 80 ∷ 81 ∷ 45 ∷ 45 ∷ 45 ∷ 67 ∷ 98 ∷ 43 ∷ 43 ∷ 43 ∷ 32 ∷ 68 ∷ 10 ∷ []

-- R b+++a---qQ +++D---
abbrev pub line_r : List ℕ
line_r = 82 ∷ 32 ∷ 98 ∷ 43 ∷ 43 ∷ 43 ∷ 97 ∷ 45 ∷ 45 ∷ 45 ∷ 113 ∷ 81 ∷ 32 ∷ 43 ∷ 43 ∷ 43 ∷ 68 ∷ 45 ∷ 45 ∷ 45 ∷ 10 ∷ []

unfoldable pub a5_text : List ℕ
a5_text = line_a ++ (line_b ++ (line_c ++ (line_m ++ (line_p ++ (line_q ++ line_r)))))

unfoldable pub a5 : List Line
a5 = lines_of a5_text
