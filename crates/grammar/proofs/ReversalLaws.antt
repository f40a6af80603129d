-- Words met from the other end. To reverse twice is to do nothing; and a pass over the reverse is the reverse of the pass, as long as the book has words for uppercase letters alone.
use Rattle.std.specs.Prelude.{Option, None, Some}
use mathlib.Core.Path.{◌≡◌, refl, sym, ap, ◌∙◌, subst}
use mathlib.Core.Bool.{Bool, true, false}
use mathlib.Core.List.{List, [], ◌∷◌, ◌++◌, map, reverse-cons, reverse-append, map-append, append_assoc, append-nil}
use Prim.Native.Nat.{ℕ, ◌+◌, ◌-◌, ◌≤◌}
use native.Mathlib.Omega.{arith}
use borrow.Author.Tests.{ne_eqb, eqb-true, le-leb, lt-leb}
use lib.Dec.{T, leb, eqb, leb→le}
use Rattle.whole.proofs.Bools.{both_left, both_right, from_true}
use Rattle.grammar.specs.Words.{is_lower, is_upper, upper, mirrored, reversed, reversed_or_self, by_book, word_of, expand_once}

-- ---- a byte is a turn, a letter, or neither
pub data Byte : ℕ → Type 0 where
  plus : Byte 43
  minus : Byte 45
  big : (u : ℕ) → 65 ≤ u → u ≤ 90 → Byte u
  small : (u : ℕ) → 65 ≤ u → u ≤ 90 → Byte (u + 32)
  other : (b : ℕ) → eqb b 43 ≡ false → eqb b 45 ≡ false → is_lower b ≡ false → is_upper b ≡ false → Byte b

pub is_big : (b : ℕ) → T (is_upper b) → (65 ≤ b) × (b ≤ 90)
is_big b t = (leb→le 65 b (both_left (leb 65 b) (leb b 90) t), leb→le b 90 (both_right (leb 65 b) (leb b 90) t))

pub byte : (b : ℕ) → Byte b
byte b = turn (eqb b 43) refl (eqb b 45) refl
  where
    last : eqb b 43 ≡ false → eqb b 45 ≡ false → is_lower b ≡ false → (t : Bool) → is_upper b ≡ t → Byte b
    last p m l true e = let h = is_big b (from_true e) in big b h.0 h.1
    last p m l false e = other b p m l e

    case : eqb b 43 ≡ false → eqb b 45 ≡ false → (t : Bool) → is_lower b ≡ t → Byte b
    case p m true e =
        let low = leb→le 97 b (both_left (leb 97 b) (leb b 122) (from_true e)) in
        let high = leb→le b 122 (both_right (leb 97 b) (leb b 122) (from_true e)) in
        let k : b - 32 + 32 ≡ b = omega arith in
        subst Byte k (small (b - 32) (omega arith) (omega arith))
    case p m false e = last p m e (is_upper b) refl

    turn : (s : Bool) → eqb b 43 ≡ s → (t : Bool) → eqb b 45 ≡ t → Byte b
    turn true p t m = subst Byte (sym (eqb-true b 43 p)) plus
    turn false p true m = subst Byte (sym (eqb-true b 45 m)) minus
    turn false p false m = case p m (is_lower b) refl

module _ (u : ℕ) (low : 65 ≤ u) (high : u ≤ 90) where
  pub upper_big : upper u ≡ u
  unfolding upper
  upper_big = rw (lt-leb 97 u (omega arith))

  pub upper_small : upper (u + 32) ≡ u
  unfolding upper
  upper_small = rw (le-leb 97 (u + 32) (omega arith), le-leb (u + 32) 122 (omega arith)) (omega arith)

  pub mirrored_big : mirrored u ≡ u + 32
  unfolding mirrored
  mirrored_big = rw (ne_eqb u 43 (omega arith), ne_eqb u 45 (omega arith), lt-leb 97 u (omega arith), le-leb 65 u low, le-leb u 90 high)

  pub mirrored_small : mirrored (u + 32) ≡ u
  unfolding mirrored
  mirrored_small =
      rw (ne_eqb (u + 32) 43 (omega arith), ne_eqb (u + 32) 45 (omega arith), le-leb 97 (u + 32) (omega arith), le-leb (u + 32) 122 (omega arith)) (omega arith)

pub upper_other : (b : ℕ) → is_lower b ≡ false → upper b ≡ b
unfolding upper
upper_other b e = rw e

pub mirrored_other : (b : ℕ) → eqb b 43 ≡ false → eqb b 45 ≡ false → is_lower b ≡ false → is_upper b ≡ false → mirrored b ≡ b
unfolding mirrored
mirrored_other b p m l e = rw (p, m, l, e)

pub mirrored_mirrored : (b : ℕ) → mirrored (mirrored b) ≡ b
unfolding mirrored
mirrored_mirrored b = go (byte b)
  where
    go : {b : ℕ} → Byte b → mirrored (mirrored b) ≡ b
    go plus = refl
    go minus = refl
    go (big u l h) = ap mirrored (mirrored_big u l h) ∙ mirrored_small u l h
    go (small u l h) = ap mirrored (mirrored_small u l h) ∙ mirrored_big u l h
    go (other b p m l e) = let k = mirrored_other b p m l e in ap mirrored k ∙ k

-- ---- reversal
pub reversed_cons : (b : ℕ) (w : List ℕ) → reversed (b ∷ w) ≡ reversed w ++ (mirrored b ∷ [])
unfolding reversed
reversed_cons b w = reverse-cons (mirrored b) (map mirrored w)

pub reversed_append : (v w : List ℕ) → reversed (v ++ w) ≡ reversed w ++ reversed v
unfolding reversed
reversed_append v w = rw (map-append mirrored v w) (reverse-append (map mirrored v) (map mirrored w))

pub reversed_reversed : (w : List ℕ) → reversed (reversed w) ≡ w
reversed_reversed [] = unfold reversed in refl
reversed_reversed (b ∷ w) = rw (reversed_cons, reversed_append, reversed_reversed w) (unfold reversed in ap (λ c. c ∷ w) (mirrored_mirrored b))

-- ---- a pass over the reverse
pub pass_append : (book : ℕ → Option (List ℕ)) (v w : List ℕ) → expand_once book (v ++ w) ≡ expand_once book v ++ expand_once book w
unfolding expand_once
pass_append book [] w = refl
pass_append book (b ∷ v) w = rw (pass_append book v w) (sym (append_assoc (word_of book b) _ _))

-- the word of an uppercase letter, as the book has it
abbrev own : ℕ → Option (List ℕ) → List ℕ
own u (Some w) = w
own u None = u ∷ []

module _ (book : ℕ → Option (List ℕ)) (uppercase : (b : ℕ) → is_upper b ≡ false → book b ≡ None) where
  pub word_self : (b : ℕ) → upper b ≡ b → is_upper b ≡ false → word_of book b ≡ b ∷ []
  unfolding word_of
  word_self b k e = rw (uppercase b e, k, uppercase b e)

  word_big : (u : ℕ) → 65 ≤ u → u ≤ 90 → word_of book u ≡ own u (book u)
  unfolding word_of
  word_big u low high = go (book u) refl
    where
      go : (o : Option (List ℕ)) → book u ≡ o → by_book book u o ≡ own u o
      go (Some w) e = refl
      go None e = rw (upper_big u low high, e)

  word_small : (u : ℕ) → 65 ≤ u → u ≤ 90 → word_of book (u + 32) ≡ reversed_or_self (u + 32) (book u)
  unfolding word_of
  word_small u low high =
      let e : is_upper (u + 32) ≡ false = rw (le-leb 65 (u + 32) (omega arith), lt-leb (u + 32) 90 (omega arith)) in
      rw (uppercase (u + 32) e, upper_small u low high)

  pub word_mirrored : (b : ℕ) → word_of book (mirrored b) ≡ reversed (word_of book b)
  unfolding mirrored upper reversed
  word_mirrored b = go (byte b)
    where
      along : (u : ℕ) → 65 ≤ u → u ≤ 90 → (o : Option (List ℕ)) → reversed_or_self (u + 32) o ≡ reversed (own u o)
      along u l h (Some w) = refl
      along u l h None = ap (λ c. c ∷ []) (sym (mirrored_big u l h))

      back : (u : ℕ) → 65 ≤ u → u ≤ 90 → (o : Option (List ℕ)) → own u o ≡ reversed (reversed_or_self (u + 32) o)
      back u l h (Some w) = sym (reversed_reversed w)
      back u l h None = ap (λ c. c ∷ []) (sym (mirrored_small u l h))

      go : {b : ℕ} → Byte b → word_of book (mirrored b) ≡ reversed (word_of book b)
      go plus = rw (word_self 43 refl refl, word_self 45 refl refl)
      go minus = rw (word_self 43 refl refl, word_self 45 refl refl)
      go (big u l h) = ap (word_of book) (mirrored_big u l h) ∙ word_small u l h ∙ along u l h (book u) ∙ ap reversed (sym (word_big u l h))
      go (small u l h) = ap (word_of book) (mirrored_small u l h) ∙ word_big u l h ∙ back u l h (book u) ∙ ap reversed (sym (word_small u l h))
      go (other b p m l e) =
          let k = mirrored_other b p m l e in
          let s = word_self b (upper_other b l) e in
          ap (word_of book) k ∙ s ∙ ap (λ c. c ∷ []) (sym k) ∙ ap reversed (sym s)

  pub pass_reversed : (w : List ℕ) → expand_once book (reversed w) ≡ reversed (expand_once book w)
  pass_reversed [] = unfold reversed expand_once in refl
  pass_reversed (b ∷ w) = rw (reversed_cons, pass_append, pass_reversed w) (unfold expand_once in rw (append-nil, reversed_append, word_mirrored b))
