-- What a text means that the tests 12 to 19 find fine: its lines are an accepted grammar, what they draw is what that grammar draws, and what is asked after the tests is fine.
-- The idea: a lowercase letter has its uppercase letter's words reversed, and a reverse has as many letters, turns back, and steps as far.
use mathlib.Core.Path.{◌≡◌, refl, sym, ap, ◌∙◌}
use mathlib.Core.Bool.{Bool, true, false, ◌||◌}
use mathlib.Core.List.{List, [], ◌∷◌, ◌++◌, Memᴰ}
use Prim.Native.Nat.{ℕ, zero, suc, ◌+◌, ◌%◌, ◌<◌}
use native.Mathlib.Omega.{arith}
use borrow.Author.Tests.{eqb-true}
use lib.Dec.{T, eqb}
use lib.ListN.{length}
use Rattle.whole.proofs.Bools.{both_left, both_right}
use Rattle.turtle.specs.Plane.{◌⊕◌, facing}
use Rattle.turtle.specs.Walk.{letter, symbols_of, start, final}
use Rattle.grammar.specs.Words.{is_upper, mirrored, reversed, word_of, expand_once}
use Rattle.grammar.specs.Texts.{Line, lines_of}
use Rattle.grammar.specs.Curves.{book_by, is_named, rules, draws, passes, strokes, net, token_bytes, letter_of, token_of, rule_symbol, rule_symbols, turned, upright}
use Rattle.grammar.specs.Tests.{Verdict, fine, text_tests}
use Rattle.grammar.proofs.Grammars.{grammar_of, graft, expand, drawn, net_of, Upright, Accepted}
use Rattle.grammar.proofs.ReversalLaws.{reversed_reversed, word_mirrored, pass_reversed}
use Rattle.grammar.proofs.MirrorLaws.{mirror_letters, mirror_turned, reversed_letters, reversed_turned, reversed_final}
use Rattle.grammar.proofs.GoodLineLaws.{Fair, Good, good_lines}
pub use Rattle.grammar.proofs.GoodLineLaws.{rest_fine}
use Rattle.grammar.proofs.TokenLaws.{named, Motif, forward, backward, motif_child, token_below, token_letter, no_word, token_motif}
use Rattle.grammar.proofs.PassLaws.{Lawful, done, plus, minus, child, lawful, lawful_reversed, children_mirror, children_reading, symbols_reading, pass_lawful, pass_graft, pass_turned}

-- ---- a lawful word's children are tokens
faced_at : (h : ℕ) → T (eqb h 0 || eqb h 3) → h ≡ facing (eqb h 3)
unfolding facing
faced_at h t = go (eqb h 0) refl (eqb h 3) refl t
  where
    go : (s : Bool) → eqb h 0 ≡ s → (u : Bool) → eqb h 3 ≡ u → T (s || u) → h ≡ facing u
    go s e true f t = eqb-true h 3 f
    go true e false f t = eqb-true h 0 e
    go false e false f t = absurd t

lawful_upright : {ls : List Line} {w : List ℕ} → Lawful ls w → (h : ℕ) → T (upright h (rule_symbols ls w)) → Upright (grammar_of ls) h (rule_symbols ls w)
unfolding rule_symbols rule_symbol upright Upright grammar_of
lawful_upright done h t = tt
lawful_upright (plus l) h t = lawful_upright l ((h + 1) % 6) t
lawful_upright (minus l) h t = lawful_upright l ((h + 5) % 6) t
lawful_upright {ls} (child {w = w} m l) h t =
    let u = rw (motif_child m) at t in
    rw (motif_child m) (faced_at h (both_left (eqb h 0 || eqb h 3) (upright h (rule_symbols ls w)) u), token_below m, lawful_upright l h (both_right (eqb h 0 || eqb h 3) (upright h (rule_symbols ls w)) u))

-- ---- what a lawful rule and a draw have, their reverses have
fair_reversed : {ls : List Line} {rule draw : List ℕ} → Lawful ls rule → Fair ls rule draw → Fair ls (reversed rule) (reversed draw)
fair_reversed {ls} {rule} {draw} l f =
    record {
      four = mirror_letters (children_mirror l) ∙ f.four;
      along = f.back;
      back = rw (reversed_reversed rule) f.along;
      single = reversed_letters draw ∙ f.single;
      rule_turns = rw f.rule_turns at (mirror_turned (children_mirror l) 0 (omega arith));
      draw_turns = reversed_turned draw f.draw_turns;
    }

module _ (ls : List Line) (ok : (l : Line) → Memᴰ l ls → Good ls l) where
  uppercase : (l : Line) → Memᴰ l ls → T (is_upper l.name)
  uppercase l m = (ok l m).uppercase

  -- ---- the words of a motif
  record Words (rule draw : List ℕ) : Type 0 where
    lawful : Lawful ls rule
    fair : Fair ls rule draw

  words_named : (u : ℕ) → T (is_named ls u) → Words (word_of (rules ls) u) (word_of (draws ls) u)
  unfolding word_of
  words_named u t =
      let n = named ls u t in
      let g = ok n.line n.listed in
      rw (n.book (λ l. l.rule), n.book (λ l. l.draw)) (record { lawful = lawful ls uppercase n.line.rule g.lawful; fair = g.fair })

  mirrored_word : (word : Line → List ℕ) (b : ℕ) → word_of (book_by word ls) (mirrored b) ≡ reversed (word_of (book_by word ls) b)
  mirrored_word word = word_mirrored (book_by word ls) (no_word ls uppercase word)

  words : (b : ℕ) → Motif ls b → Words (word_of (rules ls) b) (word_of (draws ls) b)
  words b (forward u t low high) = words_named u t
  words b (backward u t low high) =
      let w = words_named u t in
      rw (mirrored_word (λ l. l.rule) u, mirrored_word (λ l. l.draw) u) (record { lawful = lawful_reversed w.lawful; fair = fair_reversed w.lawful w.fair })

  -- ---- a pass
  lawful_pass : {w : List ℕ} → Lawful ls w → Lawful ls (expand_once (rules ls) w)
  lawful_pass = pass_lawful ls uppercase (λ l. l.rule) (λ b m. (words b m).lawful)

  rule_pass : {w : List ℕ} → Lawful ls w → rule_symbols ls (expand_once (rules ls) w) ≡ graft (grammar_of ls).rule (rule_symbols ls w)
  unfolding grammar_of
  rule_pass = pass_graft ls uppercase (λ l. l.rule) (children_reading ls)

  draw_pass : {w : List ℕ} → Lawful ls w → symbols_of (expand_once (draws ls) w) ≡ graft (grammar_of ls).draw (rule_symbols ls w)
  unfolding grammar_of
  draw_pass = pass_graft ls uppercase (λ l. l.draw) symbols_reading

  word_linked : (r : ℕ) {w : List ℕ} → Lawful ls w → symbols_of (expand_once (draws ls) (passes ls r w)) ≡ drawn (grammar_of ls) r (rule_symbols ls w)
  unfolding passes drawn expand
  word_linked zero l = draw_pass l
  word_linked (suc r) l = rw (← (rule_pass l)) (word_linked r (lawful_pass l))

  -- ---- what a token draws
  lone : {b : ℕ} → Motif ls b → rule_symbols ls (b ∷ []) ≡ letter (token_of ls b) ∷ []
  unfolding rule_symbols
  lone m = rw (motif_child m)

  same_letter : (r m n : ℕ) → letter_of ls m ≡ letter_of ls n → drawn (grammar_of ls) r (letter m ∷ []) ≡ drawn (grammar_of ls) r (letter n ∷ [])
  unfolding drawn expand graft grammar_of
  same_letter zero m n e = ap (λ b. symbols_of (word_of (draws ls) b) ++ []) e
  same_letter (suc r) m n e = ap (λ b. drawn (grammar_of ls) r (rule_symbols ls (word_of (rules ls) b) ++ [])) e

  linked_lines : (r m : ℕ) → m < length (token_bytes ls) → strokes ls r (letter_of ls m) ≡ drawn (grammar_of ls) r (letter m ∷ [])
  unfolding strokes
  linked_lines r m k =
      let t = token_motif ls uppercase m k in
      word_linked r (child t done) ∙ rw (lone t) (same_letter r _ m (token_letter t))

  -- ---- its walk ends at heading 0
  word_turned : (r : ℕ) {w : List ℕ} → Lawful ls w → turned 0 (symbols_of (expand_once (draws ls) (passes ls r w))) ≡ turned 0 (rule_symbols ls w)
  unfolding passes
  word_turned zero l = pass_turned ls uppercase (λ l. l.draw) symbols_reading (λ b m. (words b m).fair.draw_turns) l 0 (omega arith)
  word_turned (suc r) l =
      word_turned r (lawful_pass l) ∙ pass_turned ls uppercase (λ l. l.rule) (children_reading ls) (λ b m. (words b m).fair.rule_turns) l 0 (omega arith)

  -- ---- a lowercase letter's walk ends where its uppercase letter's does
  passes_reversed : (r : ℕ) (w : List ℕ) → passes ls r (reversed w) ≡ reversed (passes ls r w)
  unfolding passes
  passes_reversed zero w = refl
  passes_reversed (suc r) w = rw (pass_reversed (rules ls) (no_word ls uppercase (λ l. l.rule)) w) (passes_reversed r _)

  drawn_mirrored : (r b : ℕ) → expand_once (draws ls) (passes ls r (mirrored b ∷ [])) ≡ reversed (expand_once (draws ls) (passes ls r (b ∷ [])))
  unfolding reversed
  drawn_mirrored r b = ap (expand_once (draws ls)) (passes_reversed r (b ∷ [])) ∙ pass_reversed (draws ls) (no_word ls uppercase (λ l. l.draw)) (passes ls r (b ∷ []))

  net_mirrored : (r b : ℕ) → Motif ls b → net ls r (mirrored b) ≡ net ls r b
  unfolding net strokes turned
  net_mirrored r b m =
      ap (λ w. (final (symbols_of w) start).at) (drawn_mirrored r b) ∙ reversed_final (expand_once (draws ls) (passes ls r (b ∷ []))) (word_turned r (child m done) ∙ ap (turned 0) (lone m))

  named_twice : (u : ℕ) → T (is_named ls u) → net ls 2 u ≡ net ls 1 u ⊕ net ls 1 u
  named_twice u t = let n = named ls u t in rw n.name at (ok n.line n.listed).twice

  net_twice : (b : ℕ) → Motif ls b → net ls 2 b ≡ net ls 1 b ⊕ net ls 1 b
  net_twice b (forward u t low high) = named_twice u t
  net_twice b (backward u t low high) = let m = forward u t low high in rw (net_mirrored 2 u m, net_mirrored 1 u m) (named_twice u t)

  net_linked : (r m : ℕ) → m < length (token_bytes ls) → net_of (grammar_of ls) r m ≡ net ls r (letter_of ls m)
  unfolding net_of net
  net_linked r m k = ap (λ w. (final w start).at) (sym (linked_lines r m k))

  -- ---- so the lines are an accepted grammar
  accepted_lines : Accepted (grammar_of ls)
  unfolding grammar_of
  accepted_lines =
      let word : (m : ℕ) → m < length (token_bytes ls) → Words (word_of (rules ls) (letter_of ls m)) (word_of (draws ls) (letter_of ls m)) = λ m k. words (letter_of ls m) (token_motif ls uppercase m k) in
      record {
        four = λ m k. (word m k).fair.four;
        faced = λ m k. lawful_upright (word m k).lawful 0 (word m k).fair.along;
        rule_turns = λ m k. (word m k).fair.rule_turns;
        single = λ m k. (word m k).fair.single;
        draw_turns = λ m k. (word m k).fair.draw_turns;
        twice = λ m k. rw (net_linked 2 m k, net_linked 1 m k) (net_twice (letter_of ls m) (token_motif ls uppercase m k));
      }

-- ---- THE MEANING, with `rest_fine`
module _ (text : List ℕ) (next : Verdict) (p : text_tests text next ≡ fine) where
  pub accepted : Accepted (grammar_of (lines_of text))
  accepted = accepted_lines (lines_of text) (good_lines text next p)

  pub linked : (r m : ℕ) → m < length (token_bytes (lines_of text)) → strokes (lines_of text) r (letter_of (lines_of text) m) ≡ drawn (grammar_of (lines_of text)) r (letter m ∷ [])
  linked = linked_lines (lines_of text) (good_lines text next p)
