-- A5's words as the code has them; and what a word comes to with some passes left: its bytes' strokes one after the other, of a letter those of its own
-- word with one pass less, met from the end where the letter is lowercase.
use mathlib.Core.Path.{◌≡◌, refl, sym, ap, ◌∙◌}
use mathlib.Core.Bool.{Bool, true, false, ◌&&◌, cond}
use mathlib.Core.List.{List, [], ◌∷◌, ◌++◌, append-nil}
use Prim.Native.Nat.{ℕ, zero, suc, ◌-◌, ◌≤◌}
use native.Mathlib.Omega.{arith}
use borrow.Author.Tests.{ne_eqb}
use lib.Dec.{T, eqb, eqb→eq, ltb, ltb→lt, leb, leb→le}
use lib.ListN.{length}
use Rattle.std.specs.Prelude.{Option, Some, None}
use Rattle.std.proofs.lemmas.Bool.Decides.{nat_tests}
use Rattle.std.specs.Char.{to_ascii_uppercase, is_ascii_lowercase}
use Rattle.whole.proofs.Bools.{both_left, both_right, from_true}
use Rattle.turtle.specs.Inside.Sizes.{SmallStroke}
use Rattle.turtle.specs.Walk.{symbol_of, symbols_of}
use Rattle.turtle.proofs.SymbolLaws.{symbols_append}
use Rattle.text.specs.Words.{words_of as fields_of}
use Rattle.grammar.specs.Words.{is_lower, upper, reversed, reversed_or_self, by_book, word_of, expand_once}
use Rattle.grammar.specs.Texts.{Line, rows_of, line_of, lines_of}
use Rattle.grammar.specs.Curves.{book_by, rules, draws, passes, strokes}
use Rattle.grammar.proofs.ReversalLaws.{pass_append, upper_other}
use Rattle.grammar.proofs.StrokeLaws.{Every, strokes_small}
use Rattle.a5.specs.A5.{a5_text, a5}
use Rattle.sketch.specs.Inside.Marks.{or_empty, rule_word, draw_word, book_at, word_at, marks}

-- ---- a byte that no line has, in the form of a match's rest
abbrev Others : Type 0 → List Line → ℕ → Type 0
Others A [] b = A
Others A (l ∷ ls) b = Others (A × (b ≡ l.name → ⊥)) ls b

others : (A : Type 0) (ls : List Line) (b : ℕ) → Others A ls b → A
others A [] b h = h
others A (l ∷ ls) b h = (others (A × (b ≡ l.name → ⊥)) ls b h).0

absent : (word : Line → List ℕ) (A : Type 0) (ls : List Line) (b : ℕ) → Others A ls b → book_by word ls b ≡ None
absent word A [] b h = refl
absent word A (l ∷ ls) b h =
    let B = A × (b ≡ l.name → ⊥) in
    rw (ne_eqb l.name b (λ e. (others B ls b h).1 (sym e))) (absent word B ls b h)

-- A5's seven letters
pub record Other (b : ℕ) : Type 0 where
  pub is : (((((((Unit {0} × (b ≡ 65 → ⊥)) × (b ≡ 66 → ⊥)) × (b ≡ 67 → ⊥)) × (b ≡ 77 → ⊥)) × (b ≡ 80 → ⊥)) × (b ≡ 81 → ⊥)) × (b ≡ 82 → ⊥))

no_book : (word : Line → List ℕ) (b : ℕ) → Other b → book_by word a5 b ≡ None
unfolding a5 a5_text lines_of rows_of fields_of line_of
no_book word b h = absent word (Unit {0}) a5 b h.is

none_at : (k b : ℕ) → Other b → book_at k b ≡ None
none_at zero b h = no_book (λ l. l.draw) b h
none_at (suc k) b h = no_book (λ l. l.rule) b h

-- ---- the words in code
module _ {m : ℕ} {v w : List ℕ} where
  pub words_arm : {k : ℕ} → m ≡ k → v ≡ rule_word k → w ≡ draw_word k → (v ≡ rule_word m) × (w ≡ draw_word m)
  words_arm e f g = (f ∙ ap rule_word (sym e), g ∙ ap draw_word (sym e))

pub words_rest : {m : ℕ} → Other m → ([] ≡ rule_word m) × ([] ≡ draw_word m)
unfolding rule_word draw_word
words_rest {m} o = (ap or_empty (sym (none_at 1 m o)), ap or_empty (sym (none_at 0 m o)))

-- ---- the library's words for a letter's case
lower_is : (b : ℕ) → is_ascii_lowercase b ≡ is_lower b
lower_is b = refl

upper_is : (b : ℕ) → to_ascii_uppercase b ≡ upper b
unfolding upper
upper_is b = grind (arith, nat_tests)

-- with so many passes left
pub word_none : (left n : ℕ) → left ≡ 0 → [] ≡ word_at left n
unfolding word_at
word_none left n e = ap (λ k. word_at k n) (sym e)

module _ (left b : ℕ) {m : ℕ} (same : m ≡ to_ascii_uppercase b) {v : List ℕ} where
  pub word_draw : left ≡ 1 → v ≡ draw_word m → v ≡ word_at left (upper b)
  unfolding word_at draw_word
  word_draw e h = h ∙ ap (λ m. draw_word m) (same ∙ upper_is b) ∙ ap (λ k. word_at k (upper b)) (sym e)

  pub word_rule : (left ≡ 0 → ⊥) → (left ≡ 1 → ⊥) → v ≡ rule_word m → v ≡ word_at left (upper b)
  unfolding word_at rule_word
  word_rule e f h = go left e f
    where
      go : (k : ℕ) → (k ≡ 0 → ⊥) → (k ≡ 1 → ⊥) → v ≡ word_at k (upper b)
      go zero e f = absurd (e refl)
      go (suc zero) e f = absurd (f refl)
      go (suc (suc k)) e f = h ∙ ap (λ m. rule_word m) (same ∙ upper_is b)

-- ---- no word of A5 is empty, so that a letter with an empty one has none in either book
abbrev full : (Line → List ℕ) → List Line → Bool
full word [] = true
full word (l ∷ ls) = ltb 0 (length (word l)) && full word ls

empty_none : (f g : Line → List ℕ) (ls : List Line) → T (full f ls) → (m : ℕ) → or_empty (book_by f ls m) ≡ [] → book_by g ls m ≡ None
empty_none f g [] t m e = refl
empty_none f g (l ∷ ls) t m e = go (eqb l.name m) e (empty_none f g ls (both_right (ltb 0 (length (f l))) (full f ls) t) m)
  where
    go : (b : Bool) → or_empty (cond b (Some (f l)) (book_by f ls m)) ≡ [] → (or_empty (book_by f ls m) ≡ [] → book_by g ls m ≡ None) → cond b (Some (g l)) (book_by g ls m) ≡ None
    go true e rest =
        let h = ltb→lt 0 (length (f l)) (both_left (ltb 0 (length (f l))) (full f ls) t) in
        let z : length (f l) ≡ 0 = ap length e in
        let no : ⊥ = omega arith in absurd no
    go false e rest = rest e

wordless : (k m : ℕ) → or_empty (book_at k m) ≡ [] → (j : ℕ) → book_at j m ≡ None
unfolding a5 a5_text lines_of rows_of fields_of line_of
wordless zero m e zero = empty_none (λ l. l.draw) (λ l. l.draw) a5 tt m e
wordless zero m e (suc j) = empty_none (λ l. l.draw) (λ l. l.rule) a5 tt m e
wordless (suc k) m e zero = empty_none (λ l. l.rule) (λ l. l.draw) a5 tt m e
wordless (suc k) m e (suc j) = empty_none (λ l. l.rule) (λ l. l.rule) a5 tt m e

-- ---- a lowercase letter is in no book
lower_other : (b : ℕ) → is_lower b ≡ true → Other b
lower_other b e =
    let h : 97 ≤ b = leb→le 97 b (both_left (leb 97 b) (leb b 122) (from_true e)) in
    record { is = (((((((tt, λ e. omega arith), λ e. omega arith), λ e. omega arith), λ e. omega arith), λ e. omega arith), λ e. omega arith), λ e. omega arith) }

lower_none : (k b : ℕ) → is_lower b ≡ true → book_at k b ≡ None
lower_none k b e = none_at k b (lower_other b e)

-- ---- marks
pub marks_nil : (k : ℕ) → marks k [] ≡ []
unfolding marks symbols_of expand_once
marks_nil zero = refl
marks_nil (suc k) = marks_nil k

pub marks_append : (k : ℕ) (v w : List ℕ) → marks k (v ++ w) ≡ marks k v ++ marks k w
unfolding marks
marks_append zero v w = symbols_append v w
marks_append (suc k) v w = ap (marks k) (pass_append (book_at k) v w) ∙ marks_append k _ _

pub marks_short : (k : ℕ) (w : List ℕ) → Every SmallStroke (marks k w)
unfolding marks
marks_short zero w = strokes_small w
marks_short (suc k) w = marks_short k (expand_once (book_at k) w)

pub marks_strokes : (r b : ℕ) → marks (suc r) (b ∷ []) ≡ strokes a5 r b
unfolding strokes marks passes
marks_strokes r b = go r (b ∷ [])
  where
    go : (r : ℕ) (w : List ℕ) → marks (suc r) w ≡ symbols_of (expand_once (draws a5) (passes a5 r w))
    go zero w = refl
    go (suc r) w = go r (expand_once (rules a5) w)

pub marks_letter : (k b : ℕ) → marks (suc k) (b ∷ []) ≡ marks k (word_of (book_at k) b)
unfolding marks expand_once
marks_letter k b = ap (marks k) (append-nil (word_of (book_at k) b))

module _ (b : ℕ) where
  alone : (book : ℕ → Option (List ℕ)) → book b ≡ None → book (upper b) ≡ None → word_of book b ≡ b ∷ []
  unfolding word_of
  alone book e f = rw (e, f)

  book_self : (k : ℕ) (t : Bool) → is_lower b ≡ t → book_at k (upper b) ≡ None → book_at k b ≡ None
  book_self k true e f = lower_none k b e
  book_self k false e f = ap (book_at k) (sym (upper_other b e)) ∙ f

  marks_self : (k : ℕ) → ((j : ℕ) → book_at j (upper b) ≡ None) → marks k (b ∷ []) ≡ symbol_of b
  marks_self zero h = unfold marks symbols_of in append-nil (symbol_of b)
  marks_self (suc k) h = marks_letter k b ∙ ap (marks k) (alone (book_at k) (book_self k (is_lower b) refl (h k)) (h k)) ∙ marks_self k h

  -- the word found for it
  module _ (k : ℕ) {w : List ℕ} (found : w ≡ word_at k (upper b)) where
    pub way_bare : eqb (length w) 0 ≡ true → marks k (b ∷ []) ≡ symbol_of b
    unfolding word_at
    way_bare e = go k (sym found ∙ no_bytes w e)
      where
        no_bytes : (w : List ℕ) → eqb (length w) 0 ≡ true → w ≡ []
        no_bytes [] e = refl
        no_bytes (c ∷ w) e = let z : suc (length w) ≡ 0 = eqb→eq _ _ (from_true e) in let no : ⊥ = omega arith in absurd no

        go : (k : ℕ) → word_at k (upper b) ≡ [] → marks k (b ∷ []) ≡ symbol_of b
        go zero e = unfold marks symbols_of in append-nil (symbol_of b)
        go (suc k) e = marks_self (suc k) (wordless k (upper b) e)

    module _ (some_bytes : eqb (length w) 0 ≡ false) where
      long : w ≡ [] → ⊥
      long e = let z : true ≡ false = sym (ap (λ (w : List ℕ). eqb (length w) 0) e) ∙ some_bytes in cc

      -- its book's word
      word_in_lem : (k : ℕ) → w ≡ word_at (suc k) (upper b) → book_at k (upper b) ≡ Some w
      unfolding word_at
      word_in_lem k e = go (book_at k (upper b)) e
        where
          go : (o : Option (List ℕ)) → w ≡ or_empty o → o ≡ Some w
          go (Some v) e = ap Some (sym e)
          go None e = absurd (long e)

      pub way_some : 1 ≤ k
      unfolding word_at
      way_some = go k found
        where
          go : (k : ℕ) → w ≡ word_at k (upper b) → 1 ≤ k
          go zero e = absurd (long e)
          go (suc k) e = omega arith

      pub way_back : is_lower b ≡ true → marks k (b ∷ []) ≡ marks (k - 1) (reversed w)
      unfolding word_at word_of
      way_back low = go k found
        where
          go : (k : ℕ) → w ≡ word_at k (upper b) → marks k (b ∷ []) ≡ marks (k - 1) (reversed w)
          go zero e = absurd (long e)
          go (suc k) e =
              let down : suc k - 1 ≡ k = omega arith in
              let is : word_of (book_at k) b ≡ reversed w = ap (by_book (book_at k) b) (lower_none k b low) ∙ ap (reversed_or_self b) (word_in_lem k e) in
              marks_letter k b ∙ ap (marks k) is ∙ ap (λ k. marks k (reversed w)) (sym down)

      pub way_along : is_lower b ≡ false → marks k (b ∷ []) ≡ marks (k - 1) w
      unfolding word_at word_of
      way_along high = go k found
        where
          go : (k : ℕ) → w ≡ word_at k (upper b) → marks k (b ∷ []) ≡ marks (k - 1) w
          go zero e = absurd (long e)
          go (suc k) e =
              let down : suc k - 1 ≡ k = omega arith in
              let own : book_at k b ≡ Some w = ap (book_at k) (sym (upper_other b high)) ∙ word_in_lem k e in
              marks_letter k b ∙ ap (marks k) (ap (by_book (book_at k) b) own) ∙ ap (λ k. marks k w) (sym down)
