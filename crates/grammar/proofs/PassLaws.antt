-- A lawful word is of turns and motif letters. A pass over it is a graft of the words that it has for the motifs, keeps it lawful, and keeps its turns if those words have none.
use Rattle.std.specs.Prelude.{Option}
use mathlib.Core.Path.{◌≡◌, refl, sym, ap, subst}
use mathlib.Core.Bool.{Bool, true, false, ◌&&◌, ◌||◌}
use mathlib.Core.List.{List, [], ◌∷◌, ◌++◌, append_assoc, Memᴰ}
use Prim.Native.Nat.{ℕ, ◌+◌, ◌%◌, ◌<◌}
use native.Mathlib.Omega.{arith}
use borrow.Author.Tests.{eqb-true}
use lib.Dec.{T, eqb}
use Rattle.whole.proofs.Bools.{both_left, both_right}
use Rattle.turtle.specs.Walk.{Sym, left, right, symbol_of, symbols_of}
use Rattle.turtle.proofs.SymbolLaws.{symbols_append}
use Rattle.grammar.specs.Words.{is_upper, upper, mirrored, reversed, word_of, expand_once}
use Rattle.grammar.specs.Texts.{Line}
use Rattle.grammar.specs.Curves.{book_by, is_named, letter_of, rule_symbol, rule_symbols, turned}
use Rattle.grammar.specs.Tests.{lawful_rule}
use Rattle.grammar.proofs.Grammars.{graft}
use Rattle.grammar.proofs.TurnLaws.{turned_append, turned_home}
use Rattle.grammar.proofs.ReversalLaws.{reversed_cons, word_self}
use Rattle.grammar.proofs.MirrorLaws.{Mirror, blank, leftward, rightward, met, joined}
use Rattle.grammar.proofs.TokenLaws.{Motif, motif, motif_mirrored, motif_child, token_letter, no_word}

pub data Lawful (ls : List Line) : List ℕ → Type 0 where
  done : Lawful ls []
  plus : {w : List ℕ} → Lawful ls w → Lawful ls (43 ∷ w)
  minus : {w : List ℕ} → Lawful ls w → Lawful ls (45 ∷ w)
  child : {b : ℕ} {w : List ℕ} → Motif ls b → Lawful ls w → Lawful ls (b ∷ w)

pub lawful_append : {ls : List Line} {v w : List ℕ} → Lawful ls v → Lawful ls w → Lawful ls (v ++ w)
lawful_append done k = k
lawful_append (plus l) k = plus (lawful_append l k)
lawful_append (minus l) k = minus (lawful_append l k)
lawful_append (child m l) k = child m (lawful_append l k)

pub lawful_reversed : {ls : List Line} {w : List ℕ} → Lawful ls w → Lawful ls (reversed w)
unfolding mirrored
lawful_reversed done = unfold reversed in done
lawful_reversed (plus {w = w} l) = rw (reversed_cons 43 w) (lawful_append (lawful_reversed l) (minus done))
lawful_reversed (minus {w = w} l) = rw (reversed_cons 45 w) (lawful_append (lawful_reversed l) (plus done))
lawful_reversed (child {b = b} {w = w} m l) = rw (reversed_cons b w) (lawful_append (lawful_reversed l) (child (motif_mirrored m) done))

-- ---- children
pub children_append : (ls : List Line) (v w : List ℕ) → rule_symbols ls (v ++ w) ≡ rule_symbols ls v ++ rule_symbols ls w
unfolding rule_symbols
children_append ls [] w = refl
children_append ls (b ∷ v) w = rw (children_append ls v w) (sym (append_assoc (rule_symbol ls b) _ _))

child_mirror : {ls : List Line} {b : ℕ} → Motif ls b → Mirror (λ m n. Unit {0}) (rule_symbol ls b) (rule_symbols ls (mirrored b ∷ []))
unfolding rule_symbols
child_mirror m = rw (motif_child m, motif_child (motif_mirrored m)) (met tt)

pub children_mirror : {ls : List Line} {w : List ℕ} → Lawful ls w → Mirror (λ m n. Unit {0}) (rule_symbols ls w) (rule_symbols ls (reversed w))
unfolding rule_symbols rule_symbol mirrored
children_mirror done = unfold reversed in blank
children_mirror (plus {w = w} l) = rw (reversed_cons 43 w, children_append) (joined leftward (children_mirror l))
children_mirror (minus {w = w} l) = rw (reversed_cons 45 w, children_append) (joined rightward (children_mirror l))
children_mirror (child {b = b} {w = w} m l) = rw (reversed_cons b w, children_append) (joined (child_mirror m) (children_mirror l))

-- ---- a reading of bytes: turns stand for themselves, and a word's parts are read one after the other
pub record Reading {B : Type 0} (read : List ℕ → List (Sym B)) : Type 0 where
  pub nil : read [] ≡ []
  pub plus : (w : List ℕ) → read (43 ∷ w) ≡ left ∷ read w
  pub minus : (w : List ℕ) → read (45 ∷ w) ≡ right ∷ read w
  pub append : (v w : List ℕ) → read (v ++ w) ≡ read v ++ read w

pub children_reading : (ls : List Line) → Reading (rule_symbols ls)
unfolding rule_symbols rule_symbol
children_reading ls = record { nil = refl; plus = λ w. refl; minus = λ w. refl; append = children_append ls }

pub symbols_reading : Reading symbols_of
unfolding symbols_of symbol_of
symbols_reading = record { nil = refl; plus = λ w. refl; minus = λ w. refl; append = symbols_append }

module _ (ls : List Line) (uppercase : (l : Line) → Memᴰ l ls → T (is_upper l.name)) where
  -- ---- test 14's words are lawful
  pub lawful : (w : List ℕ) → T (lawful_rule ls w) → Lawful ls w
  lawful [] t = done
  lawful (b ∷ w) t = go (eqb b 43) refl (eqb b 45) refl t (lawful w)
    where
      go : (p : Bool) → eqb b 43 ≡ p → (m : Bool) → eqb b 45 ≡ m → T ((p || m || is_named ls (upper b)) && lawful_rule ls w) → (T (lawful_rule ls w) → Lawful ls w) → Lawful ls (b ∷ w)
      go true e m f t rest = subst (λ c. Lawful ls (c ∷ w)) (sym (eqb-true b 43 e)) (plus (rest t))
      go false e true f t rest = subst (λ c. Lawful ls (c ∷ w)) (sym (eqb-true b 45 f)) (minus (rest t))
      go false e false f t rest =
          child (motif ls uppercase b (both_left (is_named ls (upper b)) (lawful_rule ls w) t)) (rest (both_right (is_named ls (upper b)) (lawful_rule ls w) t))

  -- ---- a pass with the words of one kind
  module _ (word : Line → List ℕ) where
    abbrev book : ℕ → Option (List ℕ)
    book = book_by word ls

    -- a turn has no word but itself
    self : (b : ℕ) → upper b ≡ b → is_upper b ≡ false → word_of book b ≡ b ∷ []
    self = word_self book (no_word ls uppercase word)

    pub pass_lawful : ((b : ℕ) → Motif ls b → Lawful ls (word_of book b)) → {w : List ℕ} → Lawful ls w → Lawful ls (expand_once book w)
    unfolding expand_once upper
    pass_lawful words done = done
    pass_lawful words (plus l) = rw (self 43 refl refl) (plus (pass_lawful words l))
    pass_lawful words (minus l) = rw (self 45 refl refl) (minus (pass_lawful words l))
    pass_lawful words (child {b = b} m l) = lawful_append (words b m) (pass_lawful words l)

    module _ {B : Type 0} {read : List ℕ → List (Sym B)} (reading : Reading read) where
      pub pass_graft : {w : List ℕ} → Lawful ls w → read (expand_once book w) ≡ graft (λ m. read (word_of book (letter_of ls m))) (rule_symbols ls w)
      unfolding expand_once upper rule_symbols rule_symbol graft
      pass_graft done = reading.nil
      pass_graft (plus l) = rw (self 43 refl refl, reading.plus, pass_graft l)
      pass_graft (minus l) = rw (self 45 refl refl, reading.minus, pass_graft l)
      pass_graft (child m l) = rw (motif_child m, reading.append, pass_graft l, token_letter m)

      pub pass_turned : ((b : ℕ) → Motif ls b → turned 0 (read (word_of book b)) ≡ 0) → {w : List ℕ} → Lawful ls w → (h : ℕ) → h < 6 → turned h (read (expand_once book w)) ≡ turned h (rule_symbols ls w)
      unfolding expand_once upper rule_symbols rule_symbol turned
      pass_turned words done h k = ap (turned h) reading.nil
      pass_turned words (plus l) h k = rw (self 43 refl refl, reading.plus) (pass_turned words l ((h + 1) % 6) (omega arith))
      pass_turned words (minus l) h k = rw (self 45 refl refl, reading.minus) (pass_turned words l ((h + 5) % 6) (omega arith))
      pass_turned words (child {b = b} {w = w} m l) h k =
          rw (motif_child m, reading.append, turned_append h (read (word_of book b)) (read (expand_once book w)), turned_home h (read (word_of book b)) k (words b m)) (pass_turned words l h k)
