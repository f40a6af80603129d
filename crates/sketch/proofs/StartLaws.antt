-- Where the walk starts, as the code works it out.
use mathlib.Core.Path.{◌≡◌, sym, ap, ◌∙◌}
use mathlib.Core.Bool.{Bool, true, false, not}
use Prim.Native.Nat.{ℕ, ◌*◌, ◌^◌, ◌≤◌}
use native.Mathlib.Omega.{arith}
use native.Mathlib.Nat as N
use borrow.Author.Tests.{not-true, not-false}
use lib.IntN.{pos, neg_ℤ, ◌+ℤ◌}
use Rattle.whole.proofs.View.{view, v_upto, le_by}
use Rattle.turtle.specs.declared.AB.{AB}
use Rattle.turtle.specs.Plane.{ab, origin}
use Rattle.turtle.specs.Inside.Sizes.{Within, Small}
use Rattle.sketch.specs.Inside.Pens.{start_of}

pub start_home : (r : ℕ) (shifted : Bool) {p : AB} → not shifted ≡ true → p ≡ ab (pos 0) (pos 0) → p ≡ start_of shifted r
unfolding start_of origin
start_home r shifted e f = f ∙ ap (λ b. start_of b r) (sym (not-true shifted e))

pub start_away : (r : ℕ) (shifted : Bool) {p : AB} → not shifted ≡ false → p ≡ ab (pos (4 * 2 ^ r)) (neg_ℤ (pos (4 * 2 ^ r))) → p ≡ start_of shifted r
unfolding start_of
start_away r shifted e f = f ∙ ap (λ b. start_of b r) (sym (not-false shifted e))

-- it is not far
pub start_small : (r : ℕ) → r ≤ 6 → (shifted : Bool) → Small 256 (start_of shifted r)
unfolding start_of origin
start_small r h false = let none : Within 256 (pos 0) = record { low = record { le = tt }; high = record { le = tt } } in record { a = none; b = none; sum = none }
start_small r h true =
    let side = 4 * 2 ^ r in
    let most : side ≤ 256 = omega (arith, N.pow-le-pow_right {n = 2} (omega arith) {i = r} {j = 6} h) in
    let v = v_upto side 256 most in
    let up : Within 256 (pos side) = record { low = le_by (search view) v tt (omega (arith, most)); high = le_by v (search view) tt (omega (arith, most)) } in
    let down : Within 256 (neg_ℤ (pos side)) = record { low = le_by (search view) (search view) tt (omega (arith, most)); high = le_by (search view) (search view) tt (omega (arith, most)) } in
    let sum : Within 256 (pos side +ℤ neg_ℤ (pos side)) = record { low = le_by (search view) (search view) tt (omega (arith, most)); high = le_by (search view) (search view) tt (omega (arith, most)) } in
    record { a = up; b = down; sum = sum }
