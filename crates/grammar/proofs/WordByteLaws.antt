-- Words of bytes in the form of what the code has in hand: a byte by the range that it is in, and a word's reversal
-- place by place.
use mathlib.Core.Path.{◌≡◌, refl, sym, ap, ◌∙◌}
use mathlib.Core.Bool.{Bool, true, false, ◌&&◌, cond}
use mathlib.Core.List.{List, ◌++◌, map, reverse}
use Prim.Native.Nat.{ℕ, ◌+◌, ◌-◌, ◌≤◌, ◌<◌}
use native.Mathlib.Omega.{arith}
use lib.Dec.{leb, ltb, eqb}
use lib.Seq.{take_at}
use lib.ListN.{length, get_or, take, length-reverse, length-map, get_or-map}
use borrow.Author.Tests.{le-leb, lt-leb, ltb-true, ltb-false, ne_eqb}
use Rattle.std.specs.Char.{to_ascii_uppercase}
use Rattle.std.specs.List.{enumerate_from}
use Rattle.std.proofs.lemmas.Grind.{get_or_default_zero}
use Rattle.std.proofs.lemmas.List.FromFn.{length-enumerate_from, get_or-enumerate_from}
use Rattle.whole.proofs.Fill.{get_d_reverse}
use Rattle.grammar.specs.Words.{upper, mirrored, reversed}
use Rattle.grammar.proofs.ReversalLaws.{upper_other, mirrored_big, mirrored_other}

-- ---- bytes

module _ (lo hi b : ℕ) where
  inside : lo ≤ b → b ≤ hi → (leb lo b && leb b hi) ≡ true
  inside l h = simp (le-leb lo b l, le-leb b hi h)

  below : b < lo → (leb lo b && leb b hi) ≡ false
  below l = simp (lt-leb lo b l)

  above : lo ≤ b → hi < b → (leb lo b && leb b hi) ≡ false
  above l h = simp (le-leb lo b l, lt-leb b hi h)

module _ {b : ℕ} where
  no_turn : (n : ℕ) → n < b → eqb b n ≡ false
  no_turn n h = ne_eqb b n (λ e. omega arith)

  pub upper_before : b < 97 → b ≡ upper b
  upper_before h = sym (upper_other b (below 97 122 b h))

  pub upper_lower : 97 ≤ b → b < 123 → b - 32 ≡ upper b
  unfolding upper
  upper_lower l h = simp (inside 97 122 b l (omega arith))

  pub upper_after : 123 ≤ b → b ≡ upper b
  upper_after l = sym (upper_other b (above 97 122 b (omega arith) (omega arith)))

  pub mirrored_plus : b ≡ 43 → 45 ≡ mirrored b
  unfolding mirrored
  mirrored_plus e = ap mirrored (sym e)

  pub mirrored_minus : b ≡ 45 → 43 ≡ mirrored b
  unfolding mirrored
  mirrored_minus e = ap mirrored (sym e)

  pub mirrored_before : (b ≡ 43 → ⊥) → (b ≡ 45 → ⊥) → b < 65 → b ≡ mirrored b
  mirrored_before p m h = sym (mirrored_other b (ne_eqb b 43 p) (ne_eqb b 45 m) (below 97 122 b (omega arith)) (below 65 90 b h))

  pub mirrored_upper : 65 ≤ b → b < 91 → b + 32 ≡ mirrored b
  mirrored_upper l h = sym (mirrored_big b l (omega arith))

  pub mirrored_between : 91 ≤ b → b < 97 → b ≡ mirrored b
  mirrored_between l h =
      sym (mirrored_other b (no_turn 43 (omega arith)) (no_turn 45 (omega arith)) (below 97 122 b h) (above 65 90 b (omega arith) (omega arith)))

  pub mirrored_lower : 97 ≤ b → b < 123 → b - 32 ≡ mirrored b
  unfolding mirrored
  mirrored_lower l h = simp (no_turn 43 (omega arith), no_turn 45 (omega arith), inside 97 122 b l (omega arith))

  pub mirrored_after : 123 ≤ b → b ≡ mirrored b
  mirrored_after l =
      sym (mirrored_other b (no_turn 43 (omega arith)) (no_turn 45 (omega arith)) (above 97 122 b (omega arith) (omega arith)) (above 65 90 b (omega arith) (omega arith)))

pub upper_ascii : (b : ℕ) → to_ascii_uppercase b ≡ upper b
upper_ascii b = go (ltb b 97) (ltb b 123) refl refl
  where
    go : (p q : Bool) → ltb b 97 ≡ p → ltb b 123 ≡ q → cond p b (cond q (b - 32) b) ≡ upper b
    go true q e f = upper_before (ltb-true b 97 e)
    go false true e f = upper_lower (ltb-false b 97 e) (ltb-true b 123 f)
    go false false e f = upper_after (ltb-false b 123 f)

pub ruleset bytes = (upper_before, upper_lower, upper_after, mirrored_plus, mirrored_minus, mirrored_before, mirrored_upper, mirrored_between, mirrored_lower, mirrored_after)

-- ---- reversal

pub length_reversed : (w : List ℕ) → length (reversed w) ≡ length w
unfolding reversed
length_reversed w = length-reverse (map mirrored w) ∙ length-map w mirrored

pub reversed_at : (w : List ℕ) (i : ℕ) → i < length w → get_or (reversed w) i 0 ≡ mirrored (get_or w (length w - 1 - i) 0)
unfolding reversed mirrored
reversed_at w i h =
    get_d_reverse (map mirrored w) i 0 (rw length-map h)
    ∙ (rw length-map (get_or-map mirrored w (length w - 1 - i) 0))

-- a turn of a loop over a word from its end, with its number, after k turns
pub reversed_turn : (w : List ℕ) {k i b : ℕ} → (k < length (enumerate_from 0 (reverse w))) × ((i, b) ≡ get_or (enumerate_from 0 (reverse w)) k (i, b))
    → (k < length w) × ((i ≡ k) × (mirrored b ≡ get_or (reversed w) k 0))
reversed_turn w {k} {i} {b} t =
    let inside : k < length (reverse w) = rw length-enumerate_from at t.0 in
    let here : k < length w = rw length-reverse at inside in
    let item = t.1 ∙ get_or-enumerate_from 0 (reverse w) k (i, b) inside in
    let byte : b ≡ get_or w (length w - 1 - k) 0 = ap (λ p. p.1) item ∙ get_or_default_zero (reverse w) k b inside ∙ get_d_reverse w k 0 here in
    (here, (omega (arith, ap (λ p. p.0) item), ap mirrored byte ∙ sym (reversed_at w k here)))

-- a word's reverse, cut from the buffer that it was written to
pub reversed_cut : (w d : List ℕ) {out v : List ℕ} → out ≡ reversed w ++ d → v ≡ take (length w) out → v ≡ reversed w
reversed_cut w d e f = f ∙ (rw e (take_at (reversed w) d (length w) (length_reversed w)))
