-- The lines of a text by where their parts stand: read there again, they are the lines, where none is at fault by 12.
use mathlib.Core.Path.{◌≡◌, refl, sym, ap, ◌∙◌}
use mathlib.Core.Bool.{Bool, true, false, not, ◌||◌}
use mathlib.Core.List.{List, [], ◌∷◌, ◌++◌, map, append_assoc, append-nil}
use Prim.Native.Nat.{ℕ, zero, suc, ◌+◌, ◌-◌, ◌≤◌, ◌<◌, min}
use native.Mathlib.Numerals.{add-one}
use native.Mathlib.Nat.{zero-add, add-zero}
use native.Mathlib.Omega.{arith}
use lib.Dec.{T, leb}
use lib.ListN.{length, get_or, take, drop, set, replicate, length-set, length-drop, length-append}
use lib.Seq.{drop-drop, get_or-drop, get_or-set_same, get_or-set_other, length-take-le}
use borrow.Author.Tests.{leb-false}
use Rattle.grammar.specs.declared.lines.Lines.{Lines}
use Rattle.grammar.specs.Texts.{Row, rows_of, shaped, Line, line_of, lines_of}
use Rattle.grammar.specs.Tests.{first_from, first, bad_shape}
use Rattle.grammar.specs.Scans.{no_lines, with_line, lines_placed, scan_of}
use Rattle.grammar.specs.Inside.Places.{line_at, lines_from, lines_by, Sized, LineRoom}
use Rattle.grammar.specs.Inside.RowCuts.{ended, Cut}
use Rattle.grammar.proofs.GoodLineLaws.{not_here}
use Rattle.grammar.proofs.CutLaws.{shaped_first}

-- ---- lines by their parts
pub length_lines : (text : List ℕ) (ls : Lines) (k i : ℕ) → length (lines_from text ls k i) ≡ k
unfolding lines_from
length_lines text ls zero i = refl
length_lines text ls (suc k) i = ap suc (length_lines text ls k (suc i))

lines_last : (text : List ℕ) (ls : Lines) (k i : ℕ) → lines_from text ls (suc k) i ≡ lines_from text ls k i ++ (line_at text ls (i + k) ∷ [])
unfolding lines_from
lines_last text ls zero i = let e : i + 0 ≡ i = omega arith in rw e refl
lines_last text ls (suc k) i = let e : i + suc k ≡ suc i + k = omega arith in rw e (ap (λ l. line_at text ls i ∷ l) (lines_last text ls k (suc i)))

lines_same : (text : List ℕ) (ls ms : Lines) (k i : ℕ) → ((j : ℕ) → j < i + k → line_at text ls j ≡ line_at text ms j) → lines_from text ls k i ≡ lines_from text ms k i
unfolding lines_from
lines_same text ls ms zero i f = refl
lines_same text ls ms (suc k) i f =
    let here = f i (omega arith) in
    let rest = lines_same text ls ms k (suc i) (λ j h. f j (omega arith)) in
    λ t. here t ∷ rest t

-- ---- arrays of eight
pub record Eight (ls : Lines) : Type 0 where
  pub names : length ls.name ≡ 8
  pub rules : length ls.rule ≡ 8
  pub rule_lens : length ls.rule_len ≡ 8
  pub draws : length ls.draw ≡ 8
  pub draw_lens : length ls.draw_len ≡ 8

at_most : (l : List ℕ) (i v n j : ℕ) → ((j : ℕ) → get_or l j 0 ≤ n) → v ≤ n → get_or (set l i v) j 0 ≤ n
at_most [] i v n j f h = f j
at_most (a ∷ l) zero v n zero f h = h
at_most (a ∷ l) zero v n (suc j) f h = f (suc j)
at_most (a ∷ l) (suc i) v n zero f h = f 0
at_most (a ∷ l) (suc i) v n (suc j) f h = at_most l i v n j (λ k. f (suc k)) h

module _ (text : List ℕ) (ls : Lines) (eight : Eight ls) (few : ls.count < 8) (name rule long draw wide : ℕ) where
  abbrev more : Lines
  more = with_line ls name rule long draw wide

  more_eight : Eight more
  more_eight = record {
    names = length-set ls.name ls.count name ∙ eight.names;
    rules = length-set ls.rule ls.count rule ∙ eight.rules;
    rule_lens = length-set ls.rule_len ls.count long ∙ eight.rule_lens;
    draws = length-set ls.draw ls.count draw ∙ eight.draws;
    draw_lens = length-set ls.draw_len ls.count wide ∙ eight.draw_lens;
  }

  stored : (l : List ℕ) (v : ℕ) → length l ≡ 8 → get_or (set l ls.count v) ls.count 0 ≡ v
  stored l v e = get_or-set_same l ls.count v 0 (omega arith)

  kept : (l : List ℕ) (v j : ℕ) → j < ls.count → get_or (set l ls.count v) j 0 ≡ get_or l j 0
  kept l v j h = get_or-set_other l ls.count j v 0 (λ e. omega arith)

  more_here : line_at text more ls.count ≡ record { name = name; rule = take long (drop rule text); draw = take wide (drop draw text) }
  more_here =
      let a = stored ls.name name eight.names in
      let b = stored ls.rule rule eight.rules in
      let c = stored ls.rule_len long eight.rule_lens in
      let d = stored ls.draw draw eight.draws in
      let e = stored ls.draw_len wide eight.draw_lens in
      λ i. record { name = a i; rule = take (c i) (drop (b i) text); draw = take (e i) (drop (d i) text) }

  more_before : (j : ℕ) → j < ls.count → line_at text more j ≡ line_at text ls j
  more_before j h =
      let a = kept ls.name name j h in
      let b = kept ls.rule rule j h in
      let c = kept ls.rule_len long j h in
      let d = kept ls.draw draw j h in
      let e = kept ls.draw_len wide j h in
      λ i. record { name = a i; rule = take (c i) (drop (b i) text); draw = take (e i) (drop (d i) text) }

  more_lines : lines_from text more (suc ls.count) 0 ≡ lines_from text ls ls.count 0 ++ (record { name = name; rule = take long (drop rule text); draw = take wide (drop draw text) } ∷ [])
  more_lines =
      lines_last text more ls.count 0
      ∙ ap (λ j. lines_from text more ls.count 0 ++ (line_at text more j ∷ [])) (zero-add ls.count)
      ∙ λ i. lines_same text more ls ls.count 0 (λ j h. more_before j (omega arith)) i ++ (more_here i ∷ [])

  more_sized : long ≤ 24 → wide ≤ 12 → Sized ls → Sized more
  more_sized h k s = record { rules = λ j. at_most ls.rule_len ls.count long 24 j s.rules h; draws = λ j. at_most ls.draw_len ls.count wide 12 j s.draws k }

zero_entries : (k n i : ℕ) → get_or (replicate k 0) i 0 ≤ n
zero_entries zero n i = omega arith
zero_entries (suc k) n zero = omega arith
zero_entries (suc k) n (suc i) = zero_entries k n i

-- ---- the places of these lines' parts are kept
pub record Places (text : List ℕ) (ls : Lines) (lines : List Line) : Type 0 where
  pub few : ls.count ≤ 8
  pub are : lines_from text ls ls.count 0 ≡ lines
  pub eight : Eight ls
  pub sized : Sized ls

places_none : (text : List ℕ) → Places text no_lines []
unfolding lines_from
places_none text = record {
  few = omega arith;
  are = refl;
  eight = record { names = refl; rules = refl; rule_lens = refl; draws = refl; draw_lens = refl };
  sized = record { rules = zero_entries 8 24; draws = zero_entries 8 12 };
}

-- ---- a row of the text from `at` on that is a line: n bytes before its LF, k of them its rule's
module _ (text : List ℕ) (at : ℕ) {k n : ℕ} (cut : Cut (drop at text) k n) where
  abbrev row : Row
  row = ended (take n (drop at text))

  pub line_room : LineRoom text at k n
  line_room = record { inside = omega (arith, cut.inside, length-drop at text); long = cut.long; rule_fits = cut.rule_fits; draw_fits = cut.draw_fits }

  line_is : record { name = get_or text at 0; rule = take k (drop (at + 2) text); draw = take (n - (k + 3)) (drop (at + (k + 3)) text) } ≡ line_of row
  line_is =
      let named : get_or (drop at text) 0 0 ≡ get_or text at 0 = get_or-drop at text 0 0 ∙ ap (λ j. get_or text j 0) (add-zero at) in
      let rule_from = drop-drop 2 at text in
      let draw_from = drop-drop (k + 3) at text in
      sym (cut.line ∙ λ i. record { name = named i; rule = take k (rule_from i); draw = take (n - (k + 3)) (draw_from i) })

  pub rows_behind : rows_of (drop (suc n) (drop at text)) ≡ rows_of (drop (at + (n + 1)) text)
  rows_behind = ap rows_of (drop-drop (suc n) at text ∙ ap (λ j. drop (at + j) text) (sym (add-one n)))

  -- it is placed by these numbers, and what is behind it from its LF on
  pub placed_line : (ls : Lines) (rest : List Line) → lines_placed ls at (line_of row ∷ rest) ≡ lines_placed (with_line ls (get_or text at 0) (at + 2) k (at + (k + 3)) (n - (k + 3))) (at + (n + 1)) rest
  unfolding lines_placed
  placed_line ls rest =
      let room = line_room in
      let rule_long : length (take k (drop (at + 2) text)) ≡ k = length-take-le k (drop (at + 2) text) (rw length-drop (omega arith)) in
      let draw_long : length (take (n - (k + 3)) (drop (at + (k + 3)) text)) ≡ n - (k + 3) = length-take-le (n - (k + 3)) (drop (at + (k + 3)) text) (rw length-drop (omega arith)) in
      let next : at + (k + (n - (k + 3) + 4)) ≡ at + (n + 1) = omega arith in
      rw (← line_is, rule_long, draw_long, next) refl

  placed_next : {ls : Lines} {lines : List Line} → ls.count < 8 → Places text ls lines → Places text (with_line ls (get_or text at 0) (at + 2) k (at + (k + 3)) (n - (k + 3))) (lines ++ (line_of row ∷ []))
  placed_next {ls} {lines} few so_far =
      let room = line_room in
      record {
        few = omega arith;
        are =
            ap (λ j. lines_from text (with_line ls (get_or text at 0) (at + 2) k (at + (k + 3)) (n - (k + 3))) j 0) (add-one ls.count)
            ∙ more_lines text ls so_far.eight few (get_or text at 0) (at + 2) k (at + (k + 3)) (n - (k + 3))
            ∙ (λ i. so_far.are i ++ (line_is i ∷ []));
        eight = more_eight text ls so_far.eight few (get_or text at 0) (at + 2) k (at + (k + 3)) (n - (k + 3));
        sized = more_sized text ls so_far.eight few (get_or text at 0) (at + 2) k (at + (k + 3)) (n - (k + 3)) (omega arith) (omega arith) so_far.sized;
      }

-- ---- rows none of which is at fault by 12
shape_passed : (before : List Row) (r : Row) → T (not (bad_shape before r)) → (length before < 8) × (shaped r ≡ true)
unfolding bad_shape
shape_passed before r t = go (leb 8 (length before)) (shaped r) refl refl t
  where
    go : (a b : Bool) → leb 8 (length before) ≡ a → shaped r ≡ b → T (not (a || not b)) → (length before < 8) × (shaped r ≡ true)
    go true b p q t = absurd t
    go false true p q t = (leb-false 8 (length before) p, q)
    go false false p q t = absurd t

pub placed_none : (ls : Lines) (at : ℕ) → lines_placed ls at [] ≡ ls
unfolding lines_placed
placed_none ls at = refl

places_rows : (text : List ℕ) (rs before : List Row) {ls : Lines} {lines : List Line} (at : ℕ) → rows_of (drop at text) ≡ rs → first_from bad_shape before rs ≡ 0 → length before ≡ ls.count
    → Places text ls lines → Places text (lines_placed ls at (map line_of rs)) (lines ++ map line_of rs)
places_rows text [] before {ls} at e none long so_far = rw (placed_none ls at, append-nil) so_far
places_rows text (r ∷ rs) before {ls} {lines} at e none long so_far =
    let passed = not_here (bad_shape before r) (length before) _ none in
    let here = shape_passed before r passed.0 in
    let first = shaped_first (drop at text) e here.1 in
    let cut = first.cut in
    let more : length (before ++ (r ∷ [])) ≡ ls.count + 1 = length-append before (r ∷ []) ∙ omega arith in
    let next = placed_next text at cut (omega (arith, here.0)) so_far in
    let rest = places_rows text rs (before ++ (r ∷ [])) (at + (first.wide + 1)) (sym (rows_behind text at cut) ∙ sym first.behind) passed.1 more next in
    rw (first.here, placed_line text at cut ls (map line_of rs)) (rw append_assoc at rest)

pub scan_places : (text : List ℕ) → first bad_shape (rows_of text) ≡ 0 → Places text (scan_of text).lines (lines_of text)
unfolding scan_of lines_of
scan_places text none = rw none (places_rows text (rows_of text) [] 0 refl none refl (places_none text))

pub places_lines : {text : List ℕ} {ls : Lines} {lines : List Line} → Places text ls lines → lines_by text ls ≡ lines
unfolding lines_by
places_lines {ls = ls} p = let count_is : min ls.count 8 ≡ ls.count = omega (arith, p.few) in rw count_is p.are
