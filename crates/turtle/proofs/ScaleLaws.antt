-- 2 ^ r times a corner pair is the product of its coordinates, and passes through sums and through three times: by the product's law for a sum.
use mathlib.Core.Path.{◌≡◌, refl, sym, ◌∙◌, ap}
use Prim.Native.Nat.{ℕ, zero, suc, ◌+◌, ◌^◌}
use native.Mathlib.Omega.{arith}
use lib.IntN.{ℤ, pos, ◌+ℤ◌, ◌*ℤ◌}
use Rattle.whole.proofs.View.{view, v_var, eq_by}
use Rattle.whole.proofs.Ring.{*ℤ_distrib_r}
use Rattle.turtle.specs.declared.AB.{AB}
use Rattle.turtle.specs.Plane.{◌⊕◌, thrice, doubled}
use Rattle.turtle.proofs.PlaneLaws.{sums}

once : (x : ℤ) → x ≡ pos (2 ^ 0) *ℤ x
once x = let vx = v_var x in eq_by vx (search view) tt (omega arith)

twice : (r : ℕ) (x : ℤ) → pos (2 ^ r) *ℤ x +ℤ pos (2 ^ r) *ℤ x ≡ pos (2 ^ suc r) *ℤ x
twice r x = let e : 2 ^ r + 2 ^ r ≡ 2 ^ suc r = omega arith in sym (*ℤ_distrib_r (pos (2 ^ r)) (pos (2 ^ r)) x) ∙ ap (λ m. pos m *ℤ x) e

pub doubled_a : (r : ℕ) (p : AB) → (doubled r p).a ≡ pos (2 ^ r) *ℤ p.a
unfolding doubled ◌⊕◌
doubled_a zero p = once p.a
doubled_a (suc r) p = rw (doubled_a r p) (twice r p.a)

pub doubled_b : (r : ℕ) (p : AB) → (doubled r p).b ≡ pos (2 ^ r) *ℤ p.b
unfolding doubled ◌⊕◌
doubled_b zero p = once p.b
doubled_b (suc r) p = rw (doubled_b r p) (twice r p.b)

pub doubled_⊕ : (r : ℕ) (p q : AB) → doubled r (p ⊕ q) ≡ doubled r p ⊕ doubled r q
unfolding doubled
doubled_⊕ zero p q = refl
doubled_⊕ (suc r) p q = rw (doubled_⊕ r p q) (simp sums)

pub doubled_thrice : (r : ℕ) (p : AB) → doubled r (thrice p) ≡ thrice (doubled r p)
unfolding thrice
doubled_thrice r p = rw (doubled_⊕, doubled_⊕)
