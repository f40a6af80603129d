-- The laws of the product that `lib.IntN` lacks, by the parts of a product, and a set for `simp` that brings two expressions with products of variables to one form.
-- What is linear is proved by `View`, with no law named.
use mathlib.Core.Path.{◌≡◌, sym, ap, ◌∙◌}
use Prim.Native.Nat.{ℕ, suc, ◌+◌, ◌*◌}
use native.Mathlib.Omega.{arith}
use lib.IntN.{ℤ, pos, negsuc, neg_ℤ, ◌+ℤ◌, ◌*ℤ◌, +ℤ_assoc, +ℤ_comm, +ℤ_idl, +ℤ_idr, *ℤ_comm, neg_ℤ-neg_ℤ, neg_ℤ-+ℤ, zero-*ℤ, *ℤ-zero}
use Rattle.whole.proofs.Parts.{up, dn, neg_up, neg_dn, eq_parts}
use Rattle.whole.proofs.View.{v_var, v_add, v_mul, v_mul_neg, eq_by}

-- the parts of a product
pub prod_parts : (x y : ℤ) → up (x *ℤ y) + up x * dn y + dn x * up y ≡ up x * up y + dn x * dn y + dn (x *ℤ y)
unfolding up dn
prod_parts (pos a) (pos b) = omega arith
prod_parts (pos a) (negsuc b) = omega (arith, neg_up (pos (a * suc b)), neg_dn (pos (a * suc b)))
prod_parts (negsuc a) (pos b) = omega (arith, neg_up (pos (suc a * b)), neg_dn (pos (suc a * b)))
prod_parts (negsuc a) (negsuc b) = omega arith

pub neg_mul : (x y : ℤ) → neg_ℤ x *ℤ y ≡ neg_ℤ (x *ℤ y)
neg_mul x y = eq_parts (neg_ℤ x *ℤ y) (neg_ℤ (x *ℤ y)) (omega (arith, neg_up (x *ℤ y), neg_dn (x *ℤ y), prod_parts x y, simp (neg_up, neg_dn) at (prod_parts (neg_ℤ x) y)))

pub mul_neg : (x y : ℤ) → x *ℤ neg_ℤ y ≡ neg_ℤ (x *ℤ y)
mul_neg x y = *ℤ_comm x (neg_ℤ y) ∙ neg_mul y x ∙ ap neg_ℤ (*ℤ_comm y x)

pub *ℤ_distrib_l : (x y z : ℤ) → x *ℤ (y +ℤ z) ≡ x *ℤ y +ℤ x *ℤ z
*ℤ_distrib_l (pos k) y z = eq_by (v_mul k (v_add (v_var y) (v_var z))) (v_add (v_mul k (v_var y)) (v_mul k (v_var z))) tt (omega arith)
*ℤ_distrib_l (negsuc k) y z = eq_by (v_mul_neg k (v_add (v_var y) (v_var z))) (v_add (v_mul_neg k (v_var y)) (v_mul_neg k (v_var z))) tt (omega arith)

pub *ℤ_distrib_r : (x y z : ℤ) → (x +ℤ y) *ℤ z ≡ x *ℤ z +ℤ y *ℤ z
*ℤ_distrib_r x y z = *ℤ_comm (x +ℤ y) z ∙ *ℤ_distrib_l z x y ∙ ap (λ (u : ℤ). u +ℤ z *ℤ y) (*ℤ_comm z x) ∙ ap (λ (u : ℤ). x *ℤ z +ℤ u) (*ℤ_comm z y)

-- where the first factors are not negative; then the first alone; then all
pos_pos_assoc : (a b : ℕ) (z : ℤ) → pos (a * b) *ℤ z ≡ pos a *ℤ (pos b *ℤ z)
pos_pos_assoc a b z = eq_by (v_mul (a * b) (v_var z)) (v_mul a (v_mul b (v_var z))) tt (omega arith)

pos_assoc : (a : ℕ) (y z : ℤ) → (pos a *ℤ y) *ℤ z ≡ pos a *ℤ (y *ℤ z)
pos_assoc a (pos b) z = pos_pos_assoc a b z
pos_assoc a (negsuc b) z =
    neg_mul (pos (a * suc b)) z ∙ ap neg_ℤ (pos_pos_assoc a (suc b) z) ∙ sym (mul_neg (pos a) (pos (suc b) *ℤ z)) ∙ ap (λ (u : ℤ). pos a *ℤ u) (sym (neg_mul (pos (suc b)) z))

pub *ℤ_assoc : (x y z : ℤ) → (x *ℤ y) *ℤ z ≡ x *ℤ (y *ℤ z)
*ℤ_assoc (pos a) y z = pos_assoc a y z
*ℤ_assoc (negsuc a) y z =
    ap (λ (u : ℤ). u *ℤ z) (neg_mul (pos (suc a)) y) ∙ neg_mul (pos (suc a) *ℤ y) z ∙ ap neg_ℤ (pos_assoc (suc a) y z) ∙ sym (neg_mul (pos (suc a)) (y *ℤ z))

pub +ℤ_left_comm : (x y z : ℤ) → x +ℤ (y +ℤ z) ≡ y +ℤ (x +ℤ z)
+ℤ_left_comm x y z = sym (+ℤ_assoc x y z) ∙ ap (λ (u : ℤ). u +ℤ z) (+ℤ_comm x y) ∙ +ℤ_assoc y x z

pub *ℤ_left_comm : (x y z : ℤ) → x *ℤ (y *ℤ z) ≡ y *ℤ (x *ℤ z)
*ℤ_left_comm x y z = sym (*ℤ_assoc x y z) ∙ ap (λ (u : ℤ). u *ℤ z) (*ℤ_comm x y) ∙ *ℤ_assoc y x z

pub ruleset ring = (+ℤ_assoc, +ℤ_comm, +ℤ_left_comm, *ℤ_assoc, *ℤ_comm, *ℤ_left_comm, *ℤ_distrib_l, *ℤ_distrib_r, neg_mul, mul_neg, neg_ℤ-+ℤ, neg_ℤ-neg_ℤ, +ℤ_idl, +ℤ_idr, zero-*ℤ, *ℤ-zero)
