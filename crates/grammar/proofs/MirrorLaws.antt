-- A word of symbols and its mirror, which undoes its turns and meets its letters from the last on. The mirror has as many letters, turns back, and steps as far.
use mathlib.Core.Path.{◌≡◌, refl, sym, ap, ◌∙◌}
use mathlib.Core.Bool.{false}
use mathlib.Core.List.{List, [], ◌∷◌, ◌++◌, append-nil}
use Prim.Native.Nat.{ℕ, ◌+◌, ◌%◌, ◌<◌}
use native.Mathlib.Omega.{arith}
use borrow.Author.Tests.{ne_eqb}
use lib.Dec.{eqb}
use Rattle.std.proofs.lemmas.Option.{none-some, same_Some}
use Rattle.std.specs.Prelude.{Option, Some, None}
use Rattle.turtle.specs.declared.AB.{AB}
use Rattle.turtle.specs.declared.letter.Stroke.{Stroke}
use Rattle.turtle.specs.Plane.{origin, ◌⊕◌, rots}
use Rattle.turtle.specs.Letters.{stroke_of}
use Rattle.turtle.specs.Walk.{Sym, left, right, letter, drawn, symbol_of, symbols_of, turtle, start, move, final}
use Rattle.turtle.proofs.PlaneLaws.{⊕_assoc, ⊕_comm, ⊕_idl, ⊕_idr}
use Rattle.turtle.proofs.SymbolLaws.{symbols_append, stepped, case_step}
use Rattle.grammar.specs.Words.{mirrored, reversed}
use Rattle.grammar.specs.Curves.{turned, letter_count}
use Rattle.grammar.proofs.GrammarLaws.{letters_append}
use Rattle.grammar.proofs.TurnLaws.{turned_append, turned_small}
use Rattle.grammar.proofs.ReversalLaws.{Byte, plus, minus, big, small, other, byte, mirrored_big, mirrored_small, mirrored_other, reversed_cons}

-- R says which letters are met for which
pub data Mirror {A : Type 0} (R : A → A → Type 0) : List (Sym A) → List (Sym A) → Type 0 where
  blank : Mirror R [] []
  leftward : Mirror R (left ∷ []) (right ∷ [])
  rightward : Mirror R (right ∷ []) (left ∷ [])
  met : {a b : A} → R a b → Mirror R (letter a ∷ []) (letter b ∷ [])
  joined : {w v x y : List (Sym A)} → Mirror R w v → Mirror R x y → Mirror R (w ++ x) (y ++ v)

-- ---- letters
pub mirror_letters : {A : Type 0} {R : A → A → Type 0} {w v : List (Sym A)} → Mirror R w v → letter_count v ≡ letter_count w
unfolding letter_count
mirror_letters blank = refl
mirror_letters leftward = refl
mirror_letters rightward = refl
mirror_letters (met r) = refl
mirror_letters (joined {w = w} {v = v} {x = x} {y = y} m n) = omega (arith, letters_append w x, letters_append y v, mirror_letters m, mirror_letters n)

-- ---- turns
pub mirror_turned : {A : Type 0} {R : A → A → Type 0} {w v : List (Sym A)} → Mirror R w v → (h : ℕ) → h < 6 → turned (turned h w) v ≡ h
unfolding turned
mirror_turned blank h k = refl
mirror_turned leftward h k = omega arith
mirror_turned rightward h k = omega arith
mirror_turned (met r) h k = refl
mirror_turned (joined {w = w} {v = v} {x = x} {y = y} m n) h k =
    rw (turned_append h w x, turned_append _ y v, mirror_turned n (turned h w) (turned_small h w k)) (mirror_turned m h k)

-- ---- steps: how far a walk goes that begins at heading h
unfoldable shift : ℕ → List (Sym Stroke) → AB
shift h [] = origin
shift h (left ∷ w) = shift ((h + 1) % 6) w
shift h (right ∷ w) = shift ((h + 5) % 6) w
shift h (letter s ∷ w) = rots h s.step ⊕ shift h w

final_shift : (w : List (Sym Stroke)) (p : AB) (h : ℕ) → (final w (turtle p h)).at ≡ p ⊕ shift h w
unfolding final move shift
final_shift [] p h = sym (⊕_idr p)
final_shift (left ∷ w) p h = final_shift w p ((h + 1) % 6)
final_shift (right ∷ w) p h = final_shift w p ((h + 5) % 6)
final_shift (letter s ∷ w) p h = final_shift w (p ⊕ rots h s.step) h ∙ ⊕_assoc p _ _

shift_append : (h : ℕ) (v w : List (Sym Stroke)) → shift h (v ++ w) ≡ shift h v ⊕ shift (turned h v) w
unfolding shift turned
shift_append h [] w = sym (⊕_idl _)
shift_append h (left ∷ v) w = shift_append ((h + 1) % 6) v w
shift_append h (right ∷ v) w = shift_append ((h + 5) % 6) v w
shift_append h (letter s ∷ v) w = rw (shift_append h v w) (sym (⊕_assoc (rots h s.step) _ _))

abbrev Alike : Stroke → Stroke → Type 0
Alike s t = s.step ≡ t.step

mirror_shift : {w v : List (Sym Stroke)} → Mirror Alike w v → (h : ℕ) → h < 6 → shift (turned h w) v ≡ shift h w
unfolding shift turned
mirror_shift blank h k = refl
mirror_shift leftward h k = refl
mirror_shift rightward h k = refl
mirror_shift (met r) h k = ap (λ s. rots h s ⊕ origin) (sym r)
mirror_shift (joined {w = w} {v = v} {x = x} {y = y} m n) h k =
    let j = turned_small h w k in
    rw (turned_append h w x, shift_append _ y v, shift_append h w x, mirror_turned n (turned h w) j, mirror_shift n (turned h w) j, mirror_shift m h k)
    (⊕_comm _ _)

-- ---- a text of bytes and its reverse
symbol_drawn : (b : ℕ) → eqb b 43 ≡ false → eqb b 45 ≡ false → symbol_of b ≡ drawn (stroke_of b)
unfolding symbol_of
symbol_drawn b p m = rw (p, m)

drawn_letter : (b : ℕ) → 45 < b → symbol_of b ≡ drawn (stroke_of b)
drawn_letter b k = symbol_drawn b (ne_eqb b 43 (omega arith)) (ne_eqb b 45 (omega arith))

drawn_mirror : (k l : Option Stroke) → stepped k ≡ stepped l → Mirror Alike (drawn k) (drawn l)
drawn_mirror (Some s) (Some t) e = met (same_Some _ _ e)
drawn_mirror (Some s) None e = absurd (none-some _ (sym e))
drawn_mirror None (Some t) e = absurd (none-some _ e)
drawn_mirror None None e = blank

symbol_mirror : (b : ℕ) → Mirror Alike (symbol_of b) (symbol_of (mirrored b))
unfolding symbol_of mirrored
symbol_mirror b = go (byte b)
  where
    go : {b : ℕ} → Byte b → Mirror Alike (symbol_of b) (symbol_of (mirrored b))
    go plus = leftward
    go minus = rightward
    go (big u l h) = rw (mirrored_big u l h, drawn_letter u (omega arith), drawn_letter (u + 32) (omega arith)) (drawn_mirror (stroke_of u) (stroke_of (u + 32)) (case_step u l h))
    go (small u l h) = rw (mirrored_small u l h, drawn_letter u (omega arith), drawn_letter (u + 32) (omega arith)) (drawn_mirror (stroke_of (u + 32)) (stroke_of u) (sym (case_step u l h)))
    go (other b p m l e) = rw (mirrored_other b p m l e, symbol_drawn b p m) (drawn_mirror (stroke_of b) (stroke_of b) refl)

symbols_mirror : (w : List ℕ) → Mirror Alike (symbols_of w) (symbols_of (reversed w))
unfolding symbols_of
symbols_mirror [] = unfold reversed in blank
symbols_mirror (b ∷ w) = rw (reversed_cons, symbols_append, append-nil) (joined (symbol_mirror b) (symbols_mirror w))

pub reversed_letters : (w : List ℕ) → letter_count (symbols_of (reversed w)) ≡ letter_count (symbols_of w)
reversed_letters w = mirror_letters (symbols_mirror w)

pub reversed_turned : (w : List ℕ) → turned 0 (symbols_of w) ≡ 0 → turned 0 (symbols_of (reversed w)) ≡ 0
reversed_turned w e = rw e at (mirror_turned (symbols_mirror w) 0 (omega arith))

pub reversed_final : (w : List ℕ) → turned 0 (symbols_of w) ≡ 0 → (final (symbols_of (reversed w)) start).at ≡ (final (symbols_of w) start).at
reversed_final w e =
    final_shift (symbols_of (reversed w)) origin 0 ∙ ap (λ p. origin ⊕ p) (rw e at (mirror_shift (symbols_mirror w) 0 (omega arith))) ∙ sym (final_shift (symbols_of w) origin 0)
