-- What holds of every stroke that is drawn: each is short, of whatever text; and each of an accepted text has a flavor, as test 17 lets no other letter into a draw.
use mathlib.Core.Path.{◌≡◌, refl, sym, subst}
use mathlib.Core.Bool.{Bool, true, false, ◌&&◌, ◌||◌, cond}
use mathlib.Core.List.{List, [], ◌∷◌, ◌++◌, Memᴰ}
use Prim.Native.Nat.{ℕ, zero, suc, ◌+◌, ◌%◌, ◌<◌}
use native.Mathlib.Omega.{arith}
use borrow.Author.Tests.{ne_eqb, eqb-true}
use lib.Dec.{T, eqb, ltb}
use lib.ListN.{length}
use Rattle.std.specs.Prelude.{Option, Some, None}
use Rattle.whole.proofs.Bools.{both_left, both_right, both}
use Rattle.whole.proofs.Claims.{implies, apply}
use Rattle.turtle.specs.declared.letter.Stroke.{Stroke}
use Rattle.turtle.specs.Letters.{toggled, Row, letters, lookup, stroke_of}
use Rattle.turtle.specs.Walk.{Sym, left, right, letter, drawn, symbol_of, symbols_of}
use Rattle.turtle.specs.Inside.Sizes.{SmallStroke}
use Rattle.turtle.proofs.LetterLaws.{stroke_small}
use Rattle.grammar.specs.Words.{is_upper, upper, mirrored, reversed, word_of}
use Rattle.grammar.specs.Texts.{Line, lines_of}
use Rattle.grammar.specs.Curves.{is_named, draws, token_bytes, letter_of}
use Rattle.grammar.specs.Tests.{Verdict, fine, is_turn, is_stroke, lawful_draw, text_tests}
use Rattle.grammar.proofs.Grammars as Grammars
use Rattle.grammar.proofs.Grammars.{Grammar, grammar_of, Upright}
use Rattle.grammar.proofs.GrammarLaws.{drawn_nil, drawn_left, drawn_right, drawn_letter, drawn_zero, drawn_suc}
use Rattle.grammar.proofs.ReversalLaws.{Byte, plus, minus, big, small, other, byte, upper_big, upper_small, mirrored_big, mirrored_small, mirrored_other, reversed_cons, word_mirrored}
use Rattle.grammar.proofs.GoodLineLaws.{Good, good_lines}
use Rattle.grammar.proofs.TokenLaws.{named, Motif, forward, backward, no_word, token_motif}

-- ---- P holds of every letter of a word
abbrev pub Every : {A : Type 0} → (A → Type 0) → List (Sym A) → Type 0
Every P [] = Unit {0}
Every P (left ∷ w) = Every P w
Every P (right ∷ w) = Every P w
Every P (letter a ∷ w) = P a × Every P w

pub every_append : {A : Type 0} (P : A → Type 0) (w u : List (Sym A)) → Every P w → Every P u → Every P (w ++ u)
every_append P [] u h k = k
every_append P (left ∷ w) u h k = every_append P w u h k
every_append P (right ∷ w) u h k = every_append P w u h k
every_append P (letter a ∷ w) u h k = (h.0, every_append P w u h.1 k)

-- what holds of every stroke that a token is drawn by holds of those after any number of passes
module _ (g : Grammar) (P : Stroke → Type 0) where
  every_word : (r h : ℕ) (w : List (Sym ℕ)) → ((m : ℕ) → m < g.tokens → Every P (Grammars.drawn g r (letter m ∷ []))) → Upright g h w → Every P (Grammars.drawn g r w)
  unfolding Upright
  every_word r h [] tokens u = rw (drawn_nil g r) tt
  every_word r h (left ∷ w) tokens u = rw (drawn_left g r w) (every_word r ((h + 1) % 6) w tokens u)
  every_word r h (right ∷ w) tokens u = rw (drawn_right g r w) (every_word r ((h + 5) % 6) w tokens u)
  every_word r h (letter m ∷ w) tokens u =
      rw (drawn_letter g r m w) (every_append P (Grammars.drawn g r (letter m ∷ [])) (Grammars.drawn g r w) (tokens m u.1) (every_word r h w tokens u.2))

  pub every_stroke : ((m : ℕ) → m < g.tokens → Upright g 0 (g.rule m)) → ((m : ℕ) → m < g.tokens → Every P (g.draw m))
      → (r m : ℕ) → m < g.tokens → Every P (Grammars.drawn g r (letter m ∷ []))
  every_stroke faced own zero m b = rw (drawn_zero g m) (own m b)
  every_stroke faced own (suc r) m b = rw (drawn_suc g r m) (every_word r 0 (g.rule m) (every_stroke faced own r) (faced m b))

-- ---- a text of bytes: what holds of what each of its bytes draws
module _ (P : Stroke → Type 0) (b : ℕ) (drawn_by : (s : Stroke) → Some s ≡ stroke_of b → P s) where
  every_drawn : (l : Option Stroke) → l ≡ stroke_of b → Every P (drawn l)
  every_drawn (Some s) e = (drawn_by s e, tt)
  every_drawn None e = tt

  every_symbol : Every P (symbol_of b)
  unfolding symbol_of
  every_symbol = go (eqb b 43) (eqb b 45) (every_drawn (stroke_of b) refl)
    where
      go : (p m : Bool) → Every P (drawn (stroke_of b)) → Every P (cond p (left ∷ []) (cond m (right ∷ []) (drawn (stroke_of b))))
      go true m h = tt
      go false true h = tt
      go false false h = h

pub strokes_small : (w : List ℕ) → Every SmallStroke (symbols_of w)
unfolding symbols_of
strokes_small [] = tt
strokes_small (b ∷ w) = every_append SmallStroke (symbol_of b) (symbols_of w) (every_symbol SmallStroke b (λ s. stroke_small b)) (strokes_small w)

-- ---- a stroke that has a flavor: E e S s D d T t
abbrev pub is_flavor : Option ℕ → Bool
is_flavor (Some f) = ltb f 4
is_flavor None = false

abbrev pub Flavored : Stroke → Type 0
Flavored s = T (is_flavor s.flavor)

abbrev plain_byte : ℕ → Bool
plain_byte b = is_turn b || is_stroke b

abbrev plain_rows : List Row → Bool
plain_rows [] = true
plain_rows (l ∷ ls) = implies (plain_byte l.byte) (is_flavor l.stroke.flavor) && plain_rows ls

plain_found : (ls : List Row) (b : ℕ) {s : Stroke} → T (plain_rows ls) → T (plain_byte b) → Some s ≡ lookup ls b → Flavored s
plain_found [] b t k e = let z : ◌≡◌ {A = ℕ} 0 1 = cc in absurd (omega arith)
plain_found (l ∷ ls) b {s} t k e = go (eqb l.byte b) refl e (plain_found ls b (both_right (implies (plain_byte l.byte) (is_flavor l.stroke.flavor)) (plain_rows ls) t) k)
  where
    go : (u : Bool) → eqb l.byte b ≡ u → Some s ≡ cond u (Some l.stroke) (lookup ls b) → (Some s ≡ lookup ls b → Flavored s) → Flavored s
    go true q e rest =
        let same : l.stroke ≡ s = cc in
        let here : T (plain_byte l.byte) = subst (λ c. T (plain_byte c)) (sym (eqb-true l.byte b q)) k in
        subst Flavored same (apply (plain_byte l.byte) (is_flavor l.stroke.flavor) (both_left (implies (plain_byte l.byte) (is_flavor l.stroke.flavor)) (plain_rows ls) t) here)
    go false q e rest = rest e

plain_stroke : (b : ℕ) {s : Stroke} → T (plain_byte b) → Some s ≡ stroke_of b → Flavored s
unfolding toggled letters stroke_of upper implies
plain_stroke b k e = plain_found letters b tt k e

strokes_flavored : (w : List ℕ) → T (lawful_draw w) → Every Flavored (symbols_of w)
unfolding symbols_of
strokes_flavored [] t = tt
strokes_flavored (b ∷ w) t =
    every_append Flavored (symbol_of b) (symbols_of w) (every_symbol Flavored b (λ s. plain_stroke b (both_left (plain_byte b) (lawful_draw w) t))) (strokes_flavored w (both_right (plain_byte b) (lawful_draw w) t))

-- ---- the reverse of a lawful draw is lawful
plain_mirrored : (b : ℕ) → T (plain_byte b) → T (plain_byte (mirrored b))
unfolding mirrored
plain_mirrored b t = go (byte b) t
  where
    go : {b : ℕ} → Byte b → T (plain_byte b) → T (plain_byte (mirrored b))
    go plus t = tt
    go minus t = tt
    go (big u l h) t =
        let k = rw (ne_eqb u 43 (omega arith), ne_eqb u 45 (omega arith), upper_big u l h) at t in
        rw (mirrored_big u l h, ne_eqb (u + 32) 43 (omega arith), ne_eqb (u + 32) 45 (omega arith), upper_small u l h) k
    go (small u l h) t =
        let k = rw (ne_eqb (u + 32) 43 (omega arith), ne_eqb (u + 32) 45 (omega arith), upper_small u l h) at t in
        rw (mirrored_small u l h, ne_eqb u 43 (omega arith), ne_eqb u 45 (omega arith), upper_big u l h) k
    go (other b p m l e) t = rw (mirrored_other b p m l e) t

lawful_draws : (v w : List ℕ) → T (lawful_draw v) → T (lawful_draw w) → T (lawful_draw (v ++ w))
lawful_draws [] w h k = k
lawful_draws (b ∷ v) w h k =
    both (plain_byte b) (lawful_draw (v ++ w)) (both_left (plain_byte b) (lawful_draw v) h) (lawful_draws v w (both_right (plain_byte b) (lawful_draw v) h) k)

draw_reversed : (w : List ℕ) → T (lawful_draw w) → T (lawful_draw (reversed w))
draw_reversed [] t = unfold reversed in tt
draw_reversed (b ∷ w) t =
    rw (reversed_cons b w)
    (lawful_draws (reversed w) (mirrored b ∷ []) (draw_reversed w (both_right (plain_byte b) (lawful_draw w) t)) (both (plain_byte (mirrored b)) true (plain_mirrored b (both_left (plain_byte b) (lawful_draw w) t)) tt))

-- ---- so each token of an accepted text is drawn by strokes that have a flavor
module _ (ls : List Line) (ok : (l : Line) → Memᴰ l ls → Good ls l) where
  uppercase : (l : Line) → Memᴰ l ls → T (is_upper l.name)
  uppercase l m = (ok l m).uppercase

  named_plain : (u : ℕ) → T (is_named ls u) → T (lawful_draw (word_of (draws ls) u))
  unfolding word_of
  named_plain u t = let n = named ls u t in rw (n.book (λ l. l.draw)) (ok n.line n.listed).plain

  motif_plain : {b : ℕ} → Motif ls b → T (lawful_draw (word_of (draws ls) b))
  motif_plain (forward u t low high) = named_plain u t
  motif_plain (backward u t low high) =
      rw (word_mirrored (draws ls) (no_word ls uppercase (λ l. l.draw)) u) (draw_reversed (word_of (draws ls) u) (named_plain u t))

  draw_flavored : (m : ℕ) → m < length (token_bytes ls) → Every Flavored ((grammar_of ls).draw m)
  unfolding grammar_of
  draw_flavored m k = strokes_flavored (word_of (draws ls) (letter_of ls m)) (motif_plain (token_motif ls uppercase m k))

pub flavored : (text : List ℕ) (next : Verdict) → text_tests text next ≡ fine → (m : ℕ) → m < length (token_bytes (lines_of text)) → Every Flavored ((grammar_of (lines_of text)).draw m)
flavored text next p = draw_flavored (lines_of text) (good_lines text next p)
