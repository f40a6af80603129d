-- What a byte draws: the stroke of its row, or nothing; how short every stroke is, by one test over the ten rows; and a flavor's low bit.
use mathlib.Core.Path.{◌≡◌, refl, sym, ap, ◌∙◌, subst}
use mathlib.Core.Bool.{Bool, true, false, cond, ◌&&◌}
use mathlib.Core.List.{List, [], ◌∷◌}
use Prim.Native.Nat.{ℕ, zero, suc, ◌+◌, ◌/◌, ◌%◌, ◌<◌}
use native.Mathlib.Omega.{arith}
use borrow.Author.Tests.{ne_eqb}
use lib.Bits.{bit_xor, differ, xor_step, xor_zero_r}
use lib.Dec.{T, eqb}
use lib.IntN.{pos, negsuc, ◌+ℤ◌}
use Rattle.std.specs.Prelude.{Option, Some, None}
use Rattle.whole.specs.Tests.{Test, ◌≤?◌, pass}
use Rattle.whole.proofs.Bools.{both_left, both_right}
use Rattle.whole.proofs.TestLaws.{hold}
use Rattle.turtle.specs.declared.AB.{AB}
use Rattle.turtle.specs.declared.letter.Stroke.{Stroke}
use Rattle.turtle.specs.Letters.{toggled, Row, letters, lookup, stroke_of}
use Rattle.turtle.specs.Walk.{turned_flavor}
use Rattle.turtle.specs.Inside.Sizes.{Short, SmallStroke}

-- ---- a byte of a row, with the pairs that the code made
abbrev pub stroke : AB → AB → AB → AB → Option ℕ → Stroke
stroke s p q r f = record { step = s; p = p; q = q; r = r; flavor = f }

pub letter_at : {b k : ℕ} {s s' p p' q q' r r' : AB} {f : Option ℕ} → b ≡ k → s ≡ s' → p ≡ p' → q ≡ q' → r ≡ r' → Some (stroke s' p' q' r' f) ≡ stroke_of k → Some (stroke s p q r f) ≡ stroke_of b
letter_at eb es ep eq er e = rw (eb, es, ep, eq, er) e

-- ---- a byte of no row, in the form of a match's rest
abbrev Others : Type 0 → List Row → ℕ → Type 0
Others A [] b = A
Others A (l ∷ ls) b = Others (A × (b ≡ l.byte → ⊥)) ls b

others : (A : Type 0) (ls : List Row) (b : ℕ) → Others A ls b → A
others A [] b h = h
others A (l ∷ ls) b h = (others (A × (b ≡ l.byte → ⊥)) ls b h).0

absent : (A : Type 0) (ls : List Row) (b : ℕ) → Others A ls b → None ≡ lookup ls b
absent A [] b h = refl
absent A (l ∷ ls) b h =
    let B = A × (b ≡ l.byte → ⊥) in
    rw (ne_eqb l.byte b (λ e. (others B ls b h).1 (sym e))) (absent B ls b h)

pub no_letter : (b : ℕ) → Others (Unit {0}) letters b → None ≡ stroke_of b
unfolding stroke_of
no_letter b h = absent (Unit {0}) letters b h

-- ---- every stroke is short
abbrev sizes : AB → List Test
sizes p =
    (negsuc 7 ≤? p.a) ∷ (p.a ≤? pos 8) ∷ (negsuc 7 ≤? p.b) ∷ (p.b ≤? pos 8) ∷ (negsuc 7 ≤? p.a +ℤ p.b) ∷ (p.a +ℤ p.b ≤? pos 8) ∷ []

abbrev pairs : Stroke → List AB
pairs s = s.step ∷ s.p ∷ s.q ∷ s.r ∷ []

abbrev all_short : List AB → Bool
all_short [] = true
all_short (p ∷ ps) = pass (sizes p) && all_short ps

abbrev all_drawn : List Row → Bool
all_drawn [] = true
all_drawn (l ∷ ls) = all_short (pairs l.stroke) && all_drawn ls

short : (p : AB) → T (pass (sizes p)) → Short p
short p t =
    let h = hold (sizes p) t in
    record { a = record { low = h.0; high = h.1.0 }; b = record { low = h.1.1.0; high = h.1.1.1.0 }; sum = record { low = h.1.1.1.1.0; high = h.1.1.1.1.1.0 } }

abbrev Shorts : List AB → Type 0
Shorts [] = Unit {0}
Shorts (p ∷ ps) = Short p × Shorts ps

shorts : (ps : List AB) → T (all_short ps) → Shorts ps
shorts [] t = tt
shorts (p ∷ ps) t = (short p (both_left (pass (sizes p)) (all_short ps) t), shorts ps (both_right (pass (sizes p)) (all_short ps) t))

small_stroke : (s : Stroke) → T (all_short (pairs s)) → SmallStroke s
small_stroke s t =
    let h = shorts (pairs s) t in
    record { step = h.0; p = h.1.0; q = h.1.1.0; r = h.1.1.1.0 }

found : (ls : List Row) (b : ℕ) (s : Stroke) → T (all_drawn ls) → Some s ≡ lookup ls b → SmallStroke s
found [] b s t e = let z : ◌≡◌ {A = ℕ} 0 1 = cc in absurd (omega arith)
found (l ∷ ls) b s t e = go (eqb l.byte b) e (found ls b s (both_right (all_short (pairs l.stroke)) (all_drawn ls) t))
  where
    go : (u : Bool) → Some s ≡ cond u (Some l.stroke) (lookup ls b) → (Some s ≡ lookup ls b → SmallStroke s) → SmallStroke s
    go true e f =
        let same : l.stroke ≡ s = cc in
        subst SmallStroke same (small_stroke l.stroke (both_left (all_short (pairs l.stroke)) (all_drawn ls) t))
    go false e f = f e

pub stroke_small : (b : ℕ) {s : Stroke} → Some s ≡ stroke_of b → SmallStroke s
unfolding toggled letters stroke_of
stroke_small b {s} e = found letters b s tt e

-- ---- a flavor's low bit: to xor with one bit is to add it without a carry
carry : (x y : ℕ) → x < 2 → y < 2 → differ x y ≡ (x + y) % 2
carry zero y h k = omega arith
carry (suc zero) zero h k = refl
carry (suc zero) (suc zero) h k = refl
carry (suc zero) (suc (suc y)) h k = absurd (omega arith)
carry (suc (suc x)) y h k = absurd (omega arith)

xor_toggled : (h b : ℕ) → bit_xor b (h % 2) ≡ toggled h b
unfolding toggled
xor_toggled h b =
    let z : h % 2 / 2 ≡ 0 = omega arith in
    let bit : (b % 2 + h % 2 % 2) % 2 ≡ (b + h) % 2 = omega arith in
    xor_step b (h % 2) ∙ rw (z, xor_zero_r (b / 2), carry (b % 2) (h % 2 % 2) (omega arith) (omega arith), bit)

module _ (h : ℕ) (f : Option ℕ) where
  pub flavor_turned : (b : ℕ) → f ≡ Some b → Some (bit_xor b (h % 2)) ≡ turned_flavor h f
  unfolding turned_flavor
  flavor_turned b e = rw e (ap Some (xor_toggled h b))

  pub flavor_none : f ≡ None → None ≡ turned_flavor h f
  unfolding turned_flavor
  flavor_none e = rw e
