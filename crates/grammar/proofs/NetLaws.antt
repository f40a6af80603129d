-- Test 19 in the form of what the code has in hand: a walk byte by byte that never gets far, and two nets compared.
use mathlib.Core.Path.{◌≡◌, refl, sym, ap, ◌∙◌, subst}
use mathlib.Core.Bool.{Bool, true, false, not, cond}
use mathlib.Core.List.{List, [], ◌∷◌, append-nil}
use Prim.Native.Nat.{ℕ, ◌+◌, ◌*◌, ◌≤◌, ◌<◌}
use native.Mathlib.Nat.{mod-eq_of_lt}
use native.Mathlib.Numerals.{add-one}
use native.Mathlib.Omega.{arith}
use lib.Dec.{eqb}
use lib.IntN.{pos}
use lib.ListN.{length, get_or, take, drop, length-take}
use lib.Seq.{take-suc, take_all}
use Rattle.std.specs.Prelude.{Result, Option, Some, None}
use Rattle.triple.specs.Refusals.{told, said}
use Rattle.triple.specs.Lent.{count_of, after_call}
use Rattle.whole.proofs.Bools.{is_true, is_false}
use Rattle.whole.proofs.View.{view, v_var, le_by, le_of}
use Rattle.turtle.specs.declared.AB.{AB}
use Rattle.turtle.specs.declared.letter.Stroke.{Stroke}
use Rattle.turtle.specs.declared.walk.DrawnCell.{DrawnCell}
use Rattle.turtle.specs.declared.walk.Turtle.{Turtle}
use Rattle.turtle.specs.declared.walk.Stepped.{Stepped}
use Rattle.turtle.specs.Letters.{stroke_of}
use Rattle.turtle.specs.Plane.{origin, ◌⊕◌, far, equal_ab}
use Rattle.turtle.specs.Inside.Sizes.{Within, Small}
use Rattle.turtle.specs.Walk.{Sym, left, right, letter, drawn, symbol_of, symbols_of, start, move, final, step_by, step_of, corners_by, corners_of}
use Rattle.turtle.proofs.EqualLaws.{equal_pairs, pairs_equal}
use Rattle.turtle.proofs.LetterLaws.{stroke_small}
use Rattle.turtle.proofs.SymbolLaws.{symbols_append}
use Rattle.turtle.proofs.WalkLaws.{small_more, rots_small, add_small}
use Rattle.turtle.proofs.LimitLaws.{far_false}
use Rattle.turtle.proofs.WordLaws.{final_append}
use Rattle.grammar.specs.declared.lines.Lines.{Lines}
use Rattle.grammar.specs.declared.word.Book.{Book}
use Rattle.grammar.specs.Words.{expand_once}
use Rattle.grammar.specs.WordAnswers.{written}
use Rattle.grammar.specs.Books.{book_of}
use Rattle.grammar.specs.Texts.{Line}
use Rattle.grammar.specs.Curves.{rules, draws, passes, strokes, net}
use Rattle.grammar.specs.Tests.{bad_net}
use Rattle.grammar.specs.Inside.Places.{lines_by, Sized}
use Rattle.grammar.specs.Scans.{draw_book}
use Rattle.grammar.proofs.BookPassLaws.{rules_written, rules_count, draws_cut, draws_most}
use Rattle.grammar.proofs.TurnLaws.{turned_small}
use Rattle.grammar.proofs.GrammarLaws.{final_heading}
use Rattle.triple.specs.declared.refusal.Refusal.{Refusal}

-- ---- a walk's step
after : Stepped → Turtle → Turtle
after (Stepped.Drew c t) s = t
after (Stepped.Turned t) s = t
after Stepped.NoDraw s = s
after Stepped.Lost s = s

pub one_symbol : (b : ℕ) → length (symbol_of b) ≤ 1
unfolding symbol_of
one_symbol b = go (eqb b 43) (eqb b 45) (stroke_of b)
  where
    go : (p m : Bool) (l : Option Stroke) → length (cond p (left ∷ []) (cond m (right ∷ []) (drawn l))) ≤ 1
    go true m l = omega arith
    go false true l = omega arith
    go false false (Some s) = omega arith
    go false false None = omega arith

after_symbols : (w : List (Sym Stroke)) → length w ≤ 1 → (t : Turtle) → after (step_by w t) t ≡ final w t
unfolding after final
after_symbols [] h t = refl
after_symbols (left ∷ []) h t = refl
after_symbols (right ∷ []) h t = refl
after_symbols (letter s ∷ []) h t = refl
after_symbols (left ∷ a ∷ w) h t = absurd (omega arith)
after_symbols (right ∷ a ∷ w) h t = absurd (omega arith)
after_symbols (letter s ∷ a ∷ w) h t = absurd (omega arith)

near : {p : AB} → Small 65536 p → false ≡ far p
near {p} s =
    let va = v_var p.a in
    let vb = v_var p.b in
    let al = le_of (search view) va tt s.a.low in
    let ah = le_of va (search view) tt s.a.high in
    let bl = le_of (search view) vb tt s.b.low in
    let bh = le_of vb (search view) tt s.b.high in
    far_false p (record {
      a = record { low = le_by (search view) va tt (omega arith); high = le_by va (search view) tt (omega arith) };
      b = record { low = le_by (search view) vb tt (omega arith); high = le_by vb (search view) tt (omega arith) };
    })

module _ (b : ℕ) (t : Turtle) (small : Small 65536 t.at × (t.heading < 6)) where
  pub step_near : step_of b t ≡ step_by (symbol_of b) t
  unfolding step_of
  step_near = rw (sym (near small.0), mod-eq_of_lt small.1) refl

  pub corners_near : corners_of b t ≡ corners_by (stroke_of b) t
  unfolding corners_of
  corners_near = rw (sym (near small.0), mod-eq_of_lt small.1) refl

  step_after : {s : Stepped} → s ≡ step_of b t → after s t ≡ final (symbol_of b) t
  step_after e = ap (λ s. after s t) (e ∙ step_near) ∙ after_symbols (symbol_of b) (one_symbol b) t

  module _ {s : Stepped} (e : s ≡ step_of b t) where
    pub step_drew : {c : DrawnCell} {n : Turtle} → s ≡ Stepped.Drew c n → n ≡ final (symbol_of b) t
    unfolding after
    step_drew f = sym (ap (λ s. after s t) f) ∙ step_after e

    pub step_turned : {n : Turtle} → s ≡ Stepped.Turned n → n ≡ final (symbol_of b) t
    unfolding after
    step_turned f = sym (ap (λ s. after s t) f) ∙ step_after e

    pub step_nothing : s ≡ Stepped.NoDraw → t ≡ final (symbol_of b) t
    unfolding after
    step_nothing f = sym (ap (λ s. after s t) f) ∙ step_after e

    pub step_lost : s ≡ Stepped.Lost → t ≡ final (symbol_of b) t
    unfolding after
    step_lost f = sym (ap (λ s. after s t) f) ∙ step_after e

-- ---- a walk's sizes
drawn_small : (b m : ℕ) (t : Turtle) → Small m t.at → (l : Option Stroke) → l ≡ stroke_of b → Small (m + 8) (final (drawn l) t).at
unfolding final move
drawn_small b m t h (Some s) e = add_small h (rots_small t.heading (stroke_small b e).step)
drawn_small b m t h None e = small_more (omega arith) h

symbol_small : (b m : ℕ) (t : Turtle) → Small m t.at → Small (m + 8) (final (symbol_of b) t).at
unfolding symbol_of
symbol_small b m t h = go (eqb b 43) (eqb b 45) (small_more (omega arith) h) (drawn_small b m t h (stroke_of b) refl)
  where
    go : (p q : Bool) → Small (m + 8) t.at → Small (m + 8) (final (drawn (stroke_of b)) t).at → Small (m + 8) (final (cond p (left ∷ []) (cond q (right ∷ []) (drawn (stroke_of b)))) t).at
    go true q k l = unfold final in unfold move in k
    go false true k l = unfold final in unfold move in k
    go false false k l = l

-- the walk along the first i bytes of w
pub record Walking (w : List ℕ) (t : Turtle) (i : ℕ) : Type 0 where
  pub ends : t ≡ final (symbols_of (take i w)) start
  pub small : Small (8 * i) t.at
  pub faces : t.heading < 6

pub walk_start : (w : List ℕ) {t : Turtle} → t ≡ start → Walking w t 0
unfolding symbols_of final origin
walk_start w e = rw e record { ends = refl; small = zero_small; faces = omega arith }
  where
    none : Within 0 (pos 0)
    none = record { low = record { le = tt }; high = record { le = tt } }

    zero_small : Small 0 origin
    zero_small = record { a = none; b = none; sum = none }

module _ {w : List ℕ} {t : Turtle} {i : ℕ} (so_far : Walking w t i) where
  pub walk_near : i ≤ 8192 → Small 65536 t.at × (t.heading < 6)
  walk_near h = (small_more (omega arith) so_far.small, so_far.faces)

  pub walk_next : i < length w → {s : Turtle} → s ≡ final (symbol_of (get_or w i 0)) t → Walking w s (i + 1)
  unfolding symbols_of
  walk_next h e =
      let more : 8 * i + 8 ≡ 8 * (i + 1) = omega arith in
      rw e record {
        ends = rw (add-one, take-suc w i 0, symbols_append, append-nil, final_append, so_far.ends) refl;
        small = subst (λ n. Small n (final (symbol_of (get_or w i 0)) t).at) more (symbol_small (get_or w i 0) (8 * i) t so_far.small);
        faces = rw (final_heading (symbol_of (get_or w i 0)) t) (turned_small t.heading (symbol_of (get_or w i 0)) so_far.faces);
      }

  pub walk_end : length w ≤ 8192 → i ≤ length w → length w ≤ i → (t.at ≡ (final (symbols_of w) start).at) × Small 65536 t.at
  walk_end h k l = (ap (λ t. t.at) so_far.ends ∙ (rw (take_all i w l) refl), small_more (omega arith) so_far.small)

-- ---- two nets compared
pub twice_is : (p q : AB) (t : Bool) → (t ≡ true → p ≡ q) → (t ≡ false → p ≡ q → ⊥) → t ≡ equal_ab p q
twice_is p q true h k = is_true (equal_ab p q) (pairs_equal p q (h refl))
twice_is p q false h k = is_false (equal_ab p q) (λ t. k refl (equal_pairs p q t))

pub twice_not : (p q : AB) → (p ≡ q → ⊥) → false ≡ equal_ab p q
twice_not p q h = is_false (equal_ab p q) (λ t. h (equal_pairs p q t))

-- ---- the nets
-- the draws of a word, into a buffer with room for twelve bytes each
module _ (text : List ℕ) {ls : Lines} (sized : Sized ls) (w : List ℕ) (few : length w ≤ 576) {book : Book} (book_is : book ≡ draw_book ls) (buffer : List ℕ) (a : Result ℕ Refusal) {last : List ℕ}
    (says : said a ≡ count_of (told (expand_once (book_of text book) w)) buffer) (left : last ≡ after_call (told (expand_once (book_of text book) w)) buffer) {n : ℕ} (count : n ≡ written (said a)) (room : 6912 ≤ length buffer)
    {v : List ℕ} (cut : v ≡ take n (drop 0 last)) where
  pub drawn_long : length v ≤ 8192
  drawn_long = draws_most text sized w buffer a says left count book_is (omega arith) cut (omega arith)

  pub drawn_ends : {p : AB} → p ≡ (final (symbols_of v) start).at → p ≡ (final (symbols_of (expand_once (draws (lines_by text ls)) w)) start).at
  drawn_ends e = e ∙ ap (λ v. (final (symbols_of v) start).at) (draws_cut text sized w buffer a says left count book_is (omega arith) cut)

-- a word that is cut off behind its last byte
module _ (last : List ℕ) (n : ℕ) {v : List ℕ} (cut : v ≡ take n (drop 0 last)) where
  pub cut_is : {w : List ℕ} → take n last ≡ w → v ≡ w
  cut_is written = cut ∙ written

  pub cut_most : {k : ℕ} → n ≤ k → length v ≤ k
  cut_most h = rw (cut, length-take) (omega arith)

-- test 19
module _ (ls : List Line) (l : Line) {v : List ℕ} (word_is : v ≡ expand_once (rules ls) (l.name ∷ []))
    {p q : AB} (p_is : p ≡ (final (symbols_of (expand_once (draws ls) v)) start).at) (q_is : q ≡ (final (symbols_of (expand_once (draws ls) (expand_once (rules ls) v))) start).at) where
  net_one : p ≡ net ls 1 l.name
  unfolding net strokes passes
  net_one = p_is ∙ (rw word_is refl)

  net_two : q ≡ net ls 2 l.name
  unfolding net strokes passes
  net_two = q_is ∙ (rw word_is refl)

  pub net_verdict : {r : Bool} → r ≡ equal_ab q (p ⊕ p) → not r ≡ bad_net ls l
  unfolding bad_net
  net_verdict e = ap not e ∙ (rw (net_one, net_two) refl)

pub ruleset netting = (drawn_long, drawn_ends, rules_written, rules_count, cut_is, cut_most, net_verdict)
