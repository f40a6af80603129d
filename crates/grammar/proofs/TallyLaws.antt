-- What the bytes of a word come to, one byte after the other, in the form of what the code has in hand.
use mathlib.Core.Path.{◌≡◌, refl, sym, ap, ◌∙◌, subst}
use mathlib.Core.Logic.{◌⊎◌, ⊎_elim}
use mathlib.Core.Bool.{Bool, true, false, ◌&&◌, ◌||◌, cond, and_assoc, and-true, and-false}
use mathlib.Core.List.{List, [], ◌∷◌, ◌++◌, append-nil, append_assoc}
use Prim.Native.Nat.{ℕ, zero, suc, ◌+◌, ◌-◌, ◌%◌, ◌≤◌, ◌<◌, min}
use native.Mathlib.Nat.{eq-or-lt_of_le}
use native.Mathlib.Numerals.{add-one}
use native.Mathlib.Omega.{arith}
use lib.Dec.{leb, eqb, leb→le}
use lib.ListN.{length, get_or, take, drop}
use lib.Seq.{take-suc, take_all, drop-cons}
use borrow.Author.Tests.{ne_eqb}
use Rattle.std.specs.Prelude.{None}
use Rattle.std.specs.List.{list_any}
use Rattle.whole.proofs.Bools.{both_left, from_true}
use Rattle.turtle.specs.Letters.{toggled, letters as rows, stroke_of}
use Rattle.std.proofs.lemmas.Fn.{FoldsTo-push}
use Rattle.turtle.specs.Walk.{Sym, left, right, letter, symbol_of, symbols_of}
use Rattle.turtle.proofs.LetterLaws.{no_letter}
use Rattle.grammar.specs.declared.tally.Kind.{Kind}
use Rattle.grammar.specs.declared.lines.Lines.{Lines}
use Rattle.grammar.specs.declared.tally.Tally.{Tally}
use Rattle.grammar.specs.Words.{is_lower, upper}
use Rattle.grammar.specs.Texts.{Line}
use Rattle.grammar.specs.Curves.{is_named, rule_symbol, rule_symbols, turned, letter_count, upright}
use Rattle.grammar.specs.Tests.{lawful_rule, is_turn, is_stroke, lawful_draw}
use Rattle.grammar.specs.Inside.Places.{lines_from, lines_by}
use Rattle.grammar.specs.Scans.{has_name}
use Rattle.grammar.specs.Inside.Tallies.{Tallied, Means, leftward, rightward, lettered, strayed, nothing, no_tally, tally_with, RuleByte, DrawByte, RuleWord, DrawWord, Counts}
use Rattle.grammar.proofs.TurnLaws.{turned_append}
use Rattle.grammar.proofs.GrammarLaws.{letters_append}

-- ---- the lines' letters, one by one
pub named_by : (text : List ℕ) (ls : Lines) (b k i : ℕ) → is_named (lines_from text ls k i) b ≡ has_name ls.name b k i
unfolding lines_from has_name
named_by text ls b zero i = refl
named_by text ls b (suc k) i = ap (λ r. eqb (get_or ls.name i 0) b || r) (named_by text ls b k (suc i))

pub listed_by : (text : List ℕ) (ls : Lines) (b : ℕ) {r : Bool} → r ≡ has_name ls.name b (min ls.count 8) 0 → r ≡ is_named (lines_by text ls) b
unfolding lines_by
listed_by text ls b e = e ∙ sym (named_by text ls b (min ls.count 8) 0)

-- k letters from the i-th on, as one list
names_any : (names : List ℕ) (b k i : ℕ) → i + k ≤ length names → has_name names b k i ≡ list_any (λ y. eqb y b) (take k (drop i names))
unfolding has_name
names_any names b zero i h = refl
names_any names b (suc k) i h = rw (drop-cons names i 0 (omega arith)) (ap (λ r. eqb (get_or names i 0) b || r) (names_any names b k (suc i) (omega arith)))

pub named_any : (names : List ℕ) (b n : ℕ) → n ≤ length names → {r : Bool} → r ≡ list_any (λ y. eqb y b) (take n names) → r ≡ has_name names b n 0
named_any names b n h e = e ∙ sym (names_any names b n 0 (omega arith))

-- ---- a byte of a rule
module _ (ls : List Line) (b : ℕ) where
  pub rule_left : b ≡ 43 → RuleByte ls b Kind.Left
  unfolding rule_symbol
  rule_left e = rw e leftward

  module _ (p : b ≡ 43 → ⊥) where
    pub rule_right : b ≡ 45 → RuleByte ls b Kind.Right
    unfolding rule_symbol
    rule_right e = rw e rightward

    module _ (m : b ≡ 45 → ⊥) {r : Bool} (r_is : r ≡ is_named ls (upper b)) where
      pub rule_letter : r ≡ true → RuleByte ls b Kind.Letter
      unfolding rule_symbol
      rule_letter e = rw (ne_eqb b 43 p, ne_eqb b 45 m, sym r_is ∙ e) lettered

      pub rule_nothing : r ≡ false → RuleByte ls b Kind.Nothing
      unfolding rule_symbol
      rule_nothing e = rw (ne_eqb b 43 p, ne_eqb b 45 m, sym r_is ∙ e) nothing

-- ---- a byte of a draw
pub draw_at : {b k : ℕ} {kind : Kind} → b ≡ k → DrawByte k kind → DrawByte b kind
draw_at {kind = kind} e h = subst (λ b. DrawByte b kind) (sym e) h

no_upper : (b u : ℕ) → (b ≡ u → ⊥) → (b ≡ u + 32 → ⊥) → eqb (upper b) u ≡ false
unfolding upper
no_upper b u e f = ne_eqb (cond (is_lower b) (b - 32) b) u (go (is_lower b) refl)
  where
    go : (t : Bool) → is_lower b ≡ t → cond t (b - 32) b ≡ u → ⊥
    go true l g = let h : 97 ≤ b = leb→le 97 b (both_left (leb 97 b) (leb b 122) (from_true l)) in f (omega arith)
    go false l g = e g

pair : {kind : Kind} (k : ℕ) {b : ℕ} → k ≤ b → b < k + 2 → DrawByte k kind → DrawByte (suc k) kind → DrawByte b kind
pair k l h p q = ⊎_elim (λ e. draw_at (sym e) p) (λ m. let e : suc k ≡ _ = omega arith in draw_at (sym e) q) (eq-or-lt_of_le l)

module _ {b : ℕ} where
  pub draw_left : b ≡ 43 → DrawByte b Kind.Left
  unfolding symbol_of
  draw_left e = draw_at e leftward

  pub draw_right : b ≡ 45 → DrawByte b Kind.Right
  unfolding symbol_of
  draw_right e = draw_at e rightward

  pub draw_stray : (b ≡ 85) ⊎ (b ≡ 117) → DrawByte b Kind.Stray
  unfolding upper toggled rows stroke_of symbol_of
  draw_stray e = ⊎_elim (λ e. draw_at e strayed) (λ e. draw_at e strayed) e

  -- D and E, S and T, each pair in either case
  pub draw_de : 68 ≤ b → b < 70 → DrawByte b Kind.Letter
  unfolding upper toggled rows stroke_of symbol_of
  draw_de l h = pair 68 l h lettered lettered

  pub draw_st : 83 ≤ b → b < 85 → DrawByte b Kind.Letter
  unfolding upper toggled rows stroke_of symbol_of
  draw_st l h = pair 83 l h lettered lettered

  pub draw_lower_de : 100 ≤ b → b < 102 → DrawByte b Kind.Letter
  unfolding upper toggled rows stroke_of symbol_of
  draw_lower_de l h = pair 100 l h lettered lettered

  pub draw_lower_st : 115 ≤ b → b < 117 → DrawByte b Kind.Letter
  unfolding upper toggled rows stroke_of symbol_of
  draw_lower_st l h = pair 115 l h lettered lettered

  pub draw_nothing : (b ≡ 43 → ⊥) → (b ≡ 45 → ⊥) → (b ≡ 69 → ⊥) → (b ≡ 101 → ⊥) → (b ≡ 83 → ⊥) → (b ≡ 115 → ⊥) → (b ≡ 85 → ⊥) → (b ≡ 117 → ⊥) → (b ≡ 68 → ⊥) → (b ≡ 100 → ⊥) → (b ≡ 84 → ⊥) → (b ≡ 116 → ⊥) → DrawByte b Kind.Nothing
  unfolding symbol_of rows
  draw_nothing p m big_e e big_s s big_u u big_d d big_t t =
      let none : stroke_of b ≡ None = sym (no_letter b ((((((((((tt, big_e), e), big_s), s), big_u), u), big_d), d), big_t), t)) in
      rw (ne_eqb b 43 p, ne_eqb b 45 m, none, no_upper b 69 big_e e, no_upper b 83 big_s s, no_upper b 68 big_d d, no_upper b 84 big_t t) nothing

pub ruleset drawing = (draw_left, draw_right, draw_stray, draw_de, draw_st, draw_lower_de, draw_lower_st, draw_nothing)

-- ---- one byte more
upright_append : {A : Type 0} (h : ℕ) (v w : List (Sym A)) → upright h (v ++ w) ≡ (upright h v && upright (turned h v) w)
unfolding upright turned
upright_append h [] w = refl
upright_append h (left ∷ v) w = upright_append ((h + 1) % 6) v w
upright_append h (right ∷ v) w = upright_append ((h + 5) % 6) v w
upright_append h (letter a ∷ v) w = rw (upright_append h v w) (sym (and_assoc (eqb h 0 || eqb h 3) (upright h v) (upright (turned h v) w)))

pub tallied_none : {A : Type 0} → Tallied {A = A} [] true no_tally
unfolding letter_count turned upright
tallied_none = record { count = refl; end = refl; straight = refl; sound = refl }

module _ {A : Type 0} {w : List (Sym A)} {ok : Bool} {t : Tally} (h : Tallied w ok t) where
  abbrev straight_more : (v : List (Sym A)) → Type 0
  straight_more v = upright 0 (w ++ v) ≡ (t.upright && upright t.heading v)

  straight_by : (v : List (Sym A)) → straight_more v
  straight_by v = rw (h.straight, h.end) (upright_append 0 w v)

  turned_by : (v : List (Sym A)) → turned t.heading v ≡ turned 0 (w ++ v)
  turned_by v = rw h.end (sym (turned_append 0 w v))

  letters_by : (v : List (Sym A)) → t.letters + letter_count v ≡ letter_count (w ++ v)
  letters_by v = rw h.count (sym (letters_append w v))

  pub tallied_more : {kind : Kind} {v : List (Sym A)} {may : Bool} → Means kind v may → Tallied (w ++ v) (ok && may) (tally_with kind t)
  unfolding letter_count turned upright
  tallied_more leftward = record {
    count = omega (arith, letters_by (left ∷ []));
    end = turned_by (left ∷ []);
    straight = sym (straight_by (left ∷ []) ∙ and-true t.upright);
    sound = h.sound ∙ sym (and-true ok);
  }
  tallied_more rightward = record {
    count = omega (arith, letters_by (right ∷ []));
    end = turned_by (right ∷ []);
    straight = sym (straight_by (right ∷ []) ∙ and-true t.upright);
    sound = h.sound ∙ sym (and-true ok);
  }
  tallied_more (lettered {a = a}) = record {
    count = omega (arith, letters_by (letter a ∷ []));
    end = turned_by (letter a ∷ []);
    straight = sym (straight_by (letter a ∷ []) ∙ ap (λ b. t.upright && b) (and-true (eqb t.heading 0 || eqb t.heading 3)));
    sound = h.sound ∙ sym (and-true ok);
  }
  tallied_more (strayed {a = a}) = record {
    count = omega (arith, letters_by (letter a ∷ []));
    end = turned_by (letter a ∷ []);
    straight = sym (straight_by (letter a ∷ []) ∙ ap (λ b. t.upright && b) (and-true (eqb t.heading 0 || eqb t.heading 3)));
    sound = sym (and-false ok);
  }
  tallied_more nothing = record {
    count = omega (arith, letters_by []);
    end = turned_by [];
    straight = sym (straight_by [] ∙ and-true t.upright);
    sound = sym (and-false ok);
  }

-- ---- the sum of a tally, so that its numbers fit
pub record Modest (t : Tally) (i : ℕ) : Type 0 where
  pub few : t.letters ≤ i
  pub small : t.heading < 6

pub modest_none : {t : Tally} → t ≡ no_tally → Modest t 0
modest_none e = rw e record { few = omega arith; small = omega arith }

pub modest_more : {t s : Tally} {i : ℕ} (k : Kind) → Modest t i → s ≡ tally_with k t → Modest s (i + 1)
modest_more Kind.Left m e = rw e record { few = omega (arith, m.few); small = omega arith }
modest_more Kind.Right m e = rw e record { few = omega (arith, m.few); small = omega arith }
modest_more Kind.Letter m e = rw e record { few = omega (arith, m.few); small = m.small }
modest_more Kind.Stray m e = rw e record { few = omega (arith, m.few); small = m.small }
modest_more Kind.Nothing m e = rw e record { few = omega (arith, m.few); small = m.small }

-- ---- whole words
-- one byte more, and all of them
module _ (is : ℕ → Kind → Type 0) (w : List ℕ) (t s : Tally) (i : ℕ) (so_far : Counts is t (take i w) s) where
  pub counts_more : i < length w → {k : Kind} {u : Tally} → is (get_or w i 0) k → u ≡ tally_with k s → Counts is t (take (i + 1) w) u
  counts_more h {k} {u} m e = rw (add-one, take-suc w i 0) (FoldsTo-push _ t (take i w) s (get_or w i 0) u so_far (k, m, e))

  pub counts_all : length w ≤ i → Counts is t w s
  counts_all h = subst (λ v. Counts is t v s) (take_all i w h) so_far

-- the tally of a word of a kind, from what its bytes mean
module _ {A : Type 0} (sym_of : ℕ → List (Sym A)) (may : ℕ → Bool) (syms : List ℕ → List (Sym A)) (lawful : List ℕ → Bool) (no_syms : syms [] ≡ []) (more_syms : (b : ℕ) (w : List ℕ) → syms (b ∷ w) ≡ sym_of b ++ syms w)
    (no_bytes : lawful [] ≡ true) (more_bytes : (b : ℕ) (w : List ℕ) → lawful (b ∷ w) ≡ (may b && lawful w)) (is : ℕ → Kind → Type 0) (means : (b : ℕ) (k : Kind) → is b k → Means k (sym_of b) (may b)) where
  counted : (w : List ℕ) (v : List (Sym A)) (ok : Bool) (t s : Tally) → Tallied v ok t → Counts is t w s → Tallied (v ++ syms w) (ok && lawful w) s
  counted [] v ok t s h c = rw (no_syms, no_bytes, append-nil, and-true, ← c) h
  counted (b ∷ w) v ok t s h (u, (k, m, e), c) =
      rw (more_syms b w, more_bytes b w, ← append_assoc, ← and_assoc ok (may b) (lawful w)) (counted w (v ++ sym_of b) (ok && may b) u s (rw e (tallied_more h (means b k m))) c)

  word_tallied : (w : List ℕ) (s : Tally) → Counts is no_tally w s → Tallied (syms w) (lawful w) s
  word_tallied w s c = counted w [] true no_tally s tallied_none c

pub rule_tallied : (ls : List Line) (is : ℕ → Kind → Type 0) → ((b : ℕ) (k : Kind) → is b k → RuleByte ls b k) → (w : List ℕ) (s : Tally) → Counts is no_tally w s → RuleWord ls w s
unfolding rule_symbols
rule_tallied ls = word_tallied (rule_symbol ls) (λ b. eqb b 43 || eqb b 45 || is_named ls (upper b)) (rule_symbols ls) (lawful_rule ls) refl (λ b w. refl) refl (λ b w. refl)

pub draw_tallied : (is : ℕ → Kind → Type 0) → ((b : ℕ) (k : Kind) → is b k → DrawByte b k) → (w : List ℕ) (s : Tally) → Counts is no_tally w s → DrawWord w s
unfolding symbols_of
draw_tallied = word_tallied symbol_of (λ b. is_turn b || is_stroke b) symbols_of lawful_draw refl (λ b w. refl) refl (λ b w. refl)

pub listed : (names : List ℕ) (b : ℕ) {u n m : ℕ} {r : Bool} → r ≡ has_name names u n 0 → u ≡ upper b → n ≡ m → r ≡ has_name names (upper b) m 0
listed names b e f g = e ∙ (rw (f, g) refl)
