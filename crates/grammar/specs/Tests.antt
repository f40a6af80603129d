-- The tests of a grammar text by number, 12 to 19, each over all lines before the next. (20 is the tables'.)
use Rattle.std.specs.Prelude.{Bool, true, not, ◌&&◌, ◌||◌, cond, List, [], ◌∷◌, ◌++◌, ℕ, zero, suc, leb, eqb, length}
use Rattle.turtle.specs.Plane.{◌⊕◌, equal_ab}
use Rattle.turtle.specs.Walk.{symbols_of}
use Rattle.grammar.specs.Words.{is_upper, upper, reversed}
use Rattle.grammar.specs.Texts.{Row, shaped, Line, rows_of, lines_of}
use Rattle.grammar.specs.Curves.{is_named, rule_symbols, turned, letter_count, upright, net}

-- what the tests say: nothing against the text, or a number and the line at fault
pub data Verdict : Type 0 where
  fine : Verdict
  fault : ℕ → ℕ → Verdict

-- the number from 1 of the first line that a test finds at fault, which sees the lines before it too; 0 where there is none
abbrev pub first_from : {A : Type 0} → (List A → A → Bool) → List A → List A → ℕ
first_from bad before [] = 0
first_from bad before (l ∷ ls) = let rest = first_from bad (before ++ (l ∷ [])) ls in cond (bad before l) (suc (length before)) rest

abbrev pub first : {A : Type 0} → (List A → A → Bool) → List A → ℕ
first bad ls = first_from bad [] ls

-- the fault of a number at the line that its test found; else what the next tests say
abbrev pub fault_at : ℕ → ℕ → Verdict → Verdict
fault_at n zero next = next
fault_at n (suc line) next = fault n (suc line)

-- 12: more than eight lines, or one of another shape
unfoldable pub bad_shape : List Row → Row → Bool
bad_shape before r = leb 8 (length before) || not (shaped r)

-- 13: the motif letter is not uppercase, is one of E S U D T, or stands in a line before
unfoldable pub bad_motif : List Line → Line → Bool
bad_motif before l =
    let b = l.name in
    not (is_upper b) || eqb b 69 || eqb b 83 || eqb b 85 || eqb b 68 || eqb b 84 || is_named before b

-- 14: a rule byte that is neither turn nor letter, in either case, of a listed motif
abbrev pub lawful_rule : List Line → List ℕ → Bool
lawful_rule ls [] = true
lawful_rule ls (b ∷ w) = (eqb b 43 || eqb b 45 || is_named ls (upper b)) && lawful_rule ls w

unfoldable pub bad_rule : List Line → Line → Bool
bad_rule ls l = not (lawful_rule ls l.rule)

-- 15: not four children
unfoldable pub bad_count : List Line → Line → Bool
bad_count ls l = not (eqb (letter_count (rule_symbols ls l.rule)) 4)

-- 16: a child at a heading other than 0 or 3, in the rule or its reverse
unfoldable pub bad_heading : List Line → Line → Bool
bad_heading ls l = not (upright 0 (rule_symbols ls l.rule) && upright 0 (rule_symbols ls (reversed l.rule)))

-- 17: not turns and exactly one of E e S s D d T t
abbrev pub is_turn : ℕ → Bool
is_turn b = eqb b 43 || eqb b 45

abbrev pub is_stroke : ℕ → Bool
is_stroke b = let u = upper b in eqb u 69 || eqb u 83 || eqb u 68 || eqb u 84

abbrev pub lawful_draw : List ℕ → Bool
lawful_draw [] = true
lawful_draw (b ∷ w) = (is_turn b || is_stroke b) && lawful_draw w

unfoldable pub bad_draw : Line → Bool
bad_draw l = not (lawful_draw l.draw && eqb (letter_count (symbols_of l.draw)) 1)

-- 18: the rule or the draw does not end at heading 0
unfoldable pub bad_turns : List Line → Line → Bool
bad_turns ls l = not (eqb (turned 0 (rule_symbols ls l.rule)) 0 && eqb (turned 0 (symbols_of l.draw)) 0)

-- 19: the net after two passes is not twice the net after one
unfoldable pub bad_net : List Line → Line → Bool
bad_net ls l = let once = net ls 1 l.name in not (equal_ab (net ls 2 l.name) (once ⊕ once))

unfoldable pub line_tests : List Line → Verdict → Verdict
line_tests ls next =
    fault_at 13 (first bad_motif ls)
    (fault_at 14 (first (λ _. bad_rule ls) ls)
    (fault_at 15 (first (λ _. bad_count ls) ls)
    (fault_at 16 (first (λ _. bad_heading ls) ls)
    (fault_at 17 (first (λ _. bad_draw) ls)
    (fault_at 18 (first (λ _. bad_turns ls) ls)
    (fault_at 19 (first (λ _. bad_net ls) ls) next))))))

-- the tests 12 to 19, and what is asked after them; the empty text is at fault by 12 at line 0
abbrev pub some_rows : List Row → Verdict → Verdict
some_rows [] next = fault 12 0
some_rows (r ∷ rs) next = fault_at 12 (first bad_shape (r ∷ rs)) next

unfoldable pub text_tests : List ℕ → Verdict → Verdict
text_tests text next = some_rows (rows_of text) (line_tests (lines_of text) next)
