-- A pair that is far, or not, by the sizes of its coordinates.
use mathlib.Core.Path.{◌≡◌, sym, ap, ◌∙◌}
use mathlib.Core.Bool.{Bool, true, false, not}
use mathlib.Core.List.{List, [], ◌∷◌}
use borrow.Author.Tests.{not-false}
use native.Mathlib.Decide.{dec_lt}
use native.Mathlib.Omega.{arith}
use native.Mathlib.Nat.{le-max_left, le-max_right, max-le}
use Prim.Native.Nat.{ℕ, ◌≤◌, ◌<◌, ◌^◌, max}
use borrow.Author.Tests.{lt-ltb, le-ltb}
use lib.Dec.{ltb}
use lib.IntN.{ℤ, pos, negsuc, nat_abs}
use lib.Signed.{mag}
use mir.Syntax.{w64}
use mir.Val.{to_z, of_z}
use mir.ValLaws.{to_z-of_z}
use Rattle.whole.proofs.View.{view, v_pos, v_negsuc, v_upto, le_of, le_by}
use Rattle.turtle.specs.Inside.Sizes.{Within}
use Rattle.whole.specs.Tests.{Test, ◌≤?◌, pass}
use Rattle.whole.proofs.TestLaws.{Hold, true_pass, false_pass, pass_true}
use Rattle.turtle.specs.declared.AB.{AB}
use Rattle.turtle.specs.Plane.{far}
use Rattle.turtle.specs.Inside.Sizes.{Near}

abbrev limits : AB → List Test
limits p = (negsuc 17179869183 ≤? p.a) ∷ (p.a ≤? pos 17179869184) ∷ (negsuc 17179869183 ≤? p.b) ∷ (p.b ≤? pos 17179869184) ∷ []

near_hold : (p : AB) → Hold (limits p) → Near p
near_hold p h = record { a = record { low = h.0; high = h.1.0 }; b = record { low = h.1.1.0; high = h.1.1.1.0 } }

-- by the flag of a test
pub near_of : (p : AB) {f : Bool} → f ≡ far p → f ≡ false → Near p
unfolding far
near_of p e f = near_hold p (pass_true (limits p) (not-false (pass (limits p)) (sym e ∙ f)))

pub far_true : (p : AB) → (Near p → ⊥) → true ≡ far p
unfolding far
far_true p f = ap not (false_pass (limits p) (λ h. f (near_hold p h)))

pub far_false : (p : AB) → Near p → false ≡ far p
unfolding far
far_false p n = ap not (true_pass (limits p) (n.a.low, (n.a.high, (n.b.low, (n.b.high, tt)))))

-- by the larger of the two sizes
within : (z : ℤ) → nat_abs z ≤ 17179869184 → Within 17179869184 z
within (pos n) l =
    let v = v_upto n 17179869184 l in
    record { low = le_by (search view) v tt (omega arith); high = le_by v (search view) tt (omega arith) }
within (negsuc n) l = record { low = le_by (search view) (v_negsuc n) tt (omega arith); high = le_by (v_negsuc n) (search view) tt (omega arith) }

size_most : (z : ℤ) → Within 17179869184 z → nat_abs z ≤ 17179869184
size_most (pos n) w = omega (arith, le_of (v_pos n) (search view) tt w.high)
size_most (negsuc n) w = omega (arith, le_of (search view) (v_negsuc n) tt w.low)

module _ (p : AB) (ma : mag p.a < 2 ^ 63) (mb : mag p.b < 2 ^ 63) (a b : ℕ) (ea : a ≡ nat_abs (to_z w64 (of_z w64 p.a))) (eb : b ≡ nat_abs (to_z w64 (of_z w64 p.b))) where
  a_is : a ≡ nat_abs p.a
  a_is = ea ∙ ap nat_abs (to_z-of_z w64 p.a (record { sfits = ma }))

  b_is : b ≡ nat_abs p.b
  b_is = eb ∙ ap nat_abs (to_z-of_z w64 p.b (record { sfits = mb }))

  pub far_by : (m n : ℕ) → m ≡ max a b → n ≡ 17179869184 → ltb n m ≡ far p
  far_by m n e f = elim (dec_lt n m) [
    | yes l ↦ lt-ltb n m l ∙ far_true p (λ w. let h : max a b ≤ 17179869184 = max-le (omega (arith, a_is, size_most p.a w.a)) (omega (arith, b_is, size_most p.b w.b)) in omega arith)
    | no l ↦ le-ltb n m (omega arith) ∙ far_false p (record { a = within p.a (omega (arith, a_is, le-max_left a b)); b = within p.b (omega (arith, b_is, le-max_right a b)) })
  ]
