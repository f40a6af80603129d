-- What a text has that the tests find fine: each of its lines has what each test asks, and so has what is asked after them.
use mathlib.Core.Path.{◌≡◌, refl}
use mathlib.Core.Bool
use mathlib.Core.Bool.{Bool, true, false, not, ◌&&◌, ◌||◌, cond}
use mathlib.Core.List.{List, [], ◌∷◌, ◌++◌, Memᴰ}
use Prim.Native.Nat.{ℕ, zero, suc}
use native.Mathlib.Omega.{arith}
use lib.Dec.{T, eqb, eqb→eq}
use lib.ListN.{length}
use Rattle.whole.proofs.Bools.{both_left, both_right}
use Rattle.turtle.specs.Plane.{◌⊕◌, equal_ab}
use Rattle.turtle.specs.Walk.{symbols_of}
use Rattle.turtle.proofs.EqualLaws.{equal_pairs}
use Rattle.grammar.specs.Words.{is_upper, reversed}
use Rattle.grammar.specs.Texts.{Row, Line, rows_of, lines_of}
use Rattle.grammar.specs.Curves.{is_named, rule_symbols, turned, letter_count, upright, net}
use Rattle.grammar.specs.Tests.{Verdict, fine, first_from, first, fault_at, bad_shape, bad_motif, lawful_rule, bad_rule, bad_count, bad_heading, lawful_draw, bad_draw, bad_turns, bad_net, line_tests, some_rows, text_tests}

-- what the tests 15 to 18 ask of a rule and a draw
pub record Fair (ls : List Line) (rule draw : List ℕ) : Type 0 where
  pub four : letter_count (rule_symbols ls rule) ≡ 4
  pub along : T (upright 0 (rule_symbols ls rule))
  pub back : T (upright 0 (rule_symbols ls (reversed rule)))
  pub single : letter_count (symbols_of draw) ≡ 1
  pub rule_turns : turned 0 (rule_symbols ls rule) ≡ 0
  pub draw_turns : turned 0 (symbols_of draw) ≡ 0

-- and with 13, 14, 17 and 19 of a line, as far as the drawing and its flavors rest on it
pub record Good (ls : List Line) (l : Line) : Type 0 where
  pub uppercase : T (is_upper l.name)
  pub lawful : T (lawful_rule ls l.rule)
  pub fair : Fair ls l.rule l.draw
  pub plain : T (lawful_draw l.draw)
  pub twice : net ls 2 l.name ≡ net ls 1 l.name ⊕ net ls 1 l.name

-- ---- no test found a line at fault
abbrev chain : List (List Line → Line → Bool) → ℕ → List Line → Verdict → Verdict
chain [] n ls next = next
chain (bad ∷ bads) n ls next = fault_at n (first bad ls) (chain bads (suc n) ls next)

abbrev Asked : List (List Line → Line → Bool) → Line → Type 0
Asked [] l = Unit {0}
Asked (bad ∷ bads) l = ((before : List Line) × T (not (bad before l))) × Asked bads l

pub no_fault : (n k : ℕ) (next : Verdict) → fault_at n k next ≡ fine → (k ≡ 0) × (next ≡ fine)
no_fault n zero next e = (refl, e)
no_fault n (suc k) next e = (cc, cc)

pub not_here : (t : Bool) (k rest : ℕ) → cond t (suc k) rest ≡ 0 → T (not t) × (rest ≡ 0)
not_here true k rest e = absurd (omega arith)
not_here false k rest e = (tt, e)

nowhere : (bad : List Line → Line → Bool) (before ls : List Line) → first_from bad before ls ≡ 0 → (l : Line) → Memᴰ l ls → (seen : List Line) × T (not (bad seen l))
nowhere bad before [] e l x = elim x [ ]
nowhere bad before (a ∷ ls) e l (Memᴰ.head p) = (before, rw p (not_here (bad before a) (length before) _ e).0)
nowhere bad before (a ∷ ls) e l (Memᴰ.tail m) = nowhere bad (before ++ (a ∷ [])) ls (not_here (bad before a) (length before) _ e).1 l m

chained : (bads : List (List Line → Line → Bool)) (n : ℕ) (ls : List Line) (next : Verdict) → chain bads n ls next ≡ fine → ((l : Line) → Memᴰ l ls → Asked bads l) × (next ≡ fine)
chained [] n ls next e = (λ l m. tt, e)
chained (bad ∷ bads) n ls next e =
    let here = no_fault n (first bad ls) (chain bads (suc n) ls next) e in
    let rest = chained bads (suc n) ls next here.1 in
    (λ l m. (nowhere bad [] ls here.0 l m, rest.0 l m), rest.1)

-- ---- what the tests ask, as facts
not_not : (t : Bool) → T (not (not t)) → T t
not_not t h = rw (Bool.not-not t) at h

uppercase_name : (before : List Line) (l : Line) → T (not (bad_motif before l)) → T (is_upper l.name)
unfolding bad_motif
uppercase_name before l t = go (is_upper l.name) t
  where
    go : (u : Bool) → T (not (not u || eqb l.name 69 || eqb l.name 83 || eqb l.name 85 || eqb l.name 68 || eqb l.name 84 || is_named before l.name)) → T u
    go true t = tt
    go false t = t

abbrev tests : List Line → List (List Line → Line → Bool)
tests ls = bad_motif ∷ (λ _. bad_rule ls) ∷ (λ _. bad_count ls) ∷ (λ _. bad_heading ls) ∷ (λ _. bad_draw) ∷ (λ _. bad_turns ls) ∷ (λ _. bad_net ls) ∷ []

module _ (ls : List Line) (next : Verdict) (p : line_tests ls next ≡ fine) where
  asked : ((l : Line) → Memᴰ l ls → Asked (tests ls) l) × (next ≡ fine)
  unfolding line_tests
  asked = chained (tests ls) 13 ls next p

  good : (l : Line) → Memᴰ l ls → Good ls l
  unfolding bad_rule bad_count bad_heading bad_draw bad_turns bad_net
  good l m =
      let a = asked.0 l m in
      let rule = rule_symbols ls l.rule in
      let draw = symbols_of l.draw in
      let along = upright 0 rule in
      let back = upright 0 (rule_symbols ls (reversed l.rule)) in
      let single = eqb (letter_count draw) 1 in
      let rule_turns = eqb (turned 0 rule) 0 in
      let draw_turns = eqb (turned 0 draw) 0 in
      let once = net ls 1 l.name in
      let headings = not_not (along && back) a.1.1.1.0.1 in
      let strokes = not_not (lawful_draw l.draw && single) a.1.1.1.1.0.1 in
      let turns = not_not (rule_turns && draw_turns) a.1.1.1.1.1.0.1 in
      let nets = not_not (equal_ab (net ls 2 l.name) (once ⊕ once)) a.1.1.1.1.1.1.0.1 in
      record {
        uppercase = uppercase_name a.0.0 l a.0.1;
        lawful = not_not (lawful_rule ls l.rule) a.1.0.1;
        fair =
            record {
              four = eqb→eq (letter_count rule) 4 (not_not (eqb (letter_count rule) 4) a.1.1.0.1);
              along = both_left along back headings;
              back = both_right along back headings;
              single = eqb→eq (letter_count draw) 1 (both_right (lawful_draw l.draw) single strokes);
              rule_turns = eqb→eq (turned 0 rule) 0 (both_left rule_turns draw_turns turns);
              draw_turns = eqb→eq (turned 0 draw) 0 (both_right rule_turns draw_turns turns);
            };
        plain = both_left (lawful_draw l.draw) single strokes;
        twice = equal_pairs (net ls 2 l.name) (once ⊕ once) nets;
      }

-- ---- the text
some_rows_lem : (rs : List Row) (next : Verdict) → some_rows rs next ≡ fine → (first bad_shape rs ≡ 0) × (next ≡ fine)
some_rows_lem [] next e = (cc, cc)
some_rows_lem (r ∷ rs) next e = no_fault 12 (first bad_shape (r ∷ rs)) next e

module _ (text : List ℕ) (next : Verdict) (p : text_tests text next ≡ fine) where
  lines_fine : line_tests (lines_of text) next ≡ fine
  unfolding text_tests
  lines_fine = (some_rows_lem (rows_of text) _ p).1

  pub rows_fine : first bad_shape (rows_of text) ≡ 0
  unfolding text_tests
  rows_fine = (some_rows_lem (rows_of text) _ p).0

  pub good_lines : (l : Line) → Memᴰ l (lines_of text) → Good (lines_of text) l
  good_lines = good (lines_of text) next lines_fine

  pub rest_fine : next ≡ fine
  rest_fine = (asked (lines_of text) next lines_fine).1
