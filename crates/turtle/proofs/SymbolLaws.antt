-- What a text of bytes draws: what its parts draw, one after the other. And a lowercase letter steps as its uppercase one does, by one computation over the alphabet.
use mathlib.Core.Path.{◌≡◌, refl, sym, subst}
use mathlib.Core.List.{List, [], ◌∷◌, ◌++◌, append_assoc}
use Prim.Native.Nat.{ℕ, ◌+◌, ◌-◌, ◌≤◌}
use native.Mathlib.Omega.{arith}
use Rattle.std.specs.Prelude.{Some, None, Option}
use Rattle.whole.proofs.Lists.{firsts_agree}
use Rattle.turtle.specs.declared.AB.{AB}
use Rattle.turtle.specs.Letters.{letters, stroke_of}
use Rattle.turtle.specs.Walk.{symbol_of, symbols_of}
use Rattle.turtle.specs.declared.letter.Stroke.{Stroke}

pub symbols_append : (v w : List ℕ) → symbols_of (v ++ w) ≡ symbols_of v ++ symbols_of w
unfolding symbols_of
symbols_append [] w = refl
symbols_append (b ∷ v) w = rw (symbols_append v w) (sym (append_assoc (symbol_of b) _ _))

-- a letter's step, if it draws
abbrev pub stepped : Option Stroke → Option AB
stepped (Some s) = Some s.step
stepped None = None

pub case_step : (u : ℕ) → 65 ≤ u → u ≤ 90 → stepped (stroke_of u) ≡ stepped (stroke_of (u + 32))
unfolding letters stroke_of
case_step u low high =
    let e : 65 + (u - 65) ≡ u = omega arith in
    subst (λ b. stepped (stroke_of b) ≡ stepped (stroke_of (b + 32))) e
    (firsts_agree (λ i. stepped (stroke_of (65 + i))) (λ i. stepped (stroke_of (65 + i + 32))) 26 refl (u - 65) (omega arith))
