-- Sums and opposites of corner pairs are a commutative group, and three rotations by 60 degrees are the opposite; so a flip passes through every sum.
use mathlib.Core.Path.{◌≡◌, refl, sym, ◌∙◌, ap}
use mathlib.Core.Bool.{Bool, true, false}
use Prim.Native.Nat.{ℕ, zero, suc, ◌+◌, ◌*◌, ◌/◌, ◌%◌}
use native.Mathlib.Omega.{arith}
use lib.IntN.{ℤ, neg_ℤ, ◌+ℤ◌, +ℤ_idr, +ℤ_assoc, +ℤ_comm, neg_ℤ-neg_ℤ, neg_ℤ-+ℤ}
use Rattle.whole.proofs.View.{v_var, eq_by, view}
use Rattle.turtle.specs.declared.AB.{AB}
use Rattle.turtle.specs.Plane.{ab, origin, ◌⊕◌, neg, thrice, rot, rots, signed, flipped, doubled}

-- ---- sums
pub ⊕_assoc : (p q r : AB) → (p ⊕ q) ⊕ r ≡ p ⊕ (q ⊕ r)
unfolding ◌⊕◌
⊕_assoc p q r = λ i. ab (+ℤ_assoc p.a q.a r.a i) (+ℤ_assoc p.b q.b r.b i)

pub ⊕_comm : (p q : AB) → p ⊕ q ≡ q ⊕ p
unfolding ◌⊕◌
⊕_comm p q = λ i. ab (+ℤ_comm p.a q.a i) (+ℤ_comm p.b q.b i)

pub ⊕_idr : (p : AB) → p ⊕ origin ≡ p
unfolding ◌⊕◌ origin
⊕_idr p = λ i. ab (+ℤ_idr p.a i) (+ℤ_idr p.b i)

pub ⊕_idl : (p : AB) → origin ⊕ p ≡ p
⊕_idl p = ⊕_comm origin p ∙ ⊕_idr p

pub ⊕_left : (p q r : AB) → p ⊕ (q ⊕ r) ≡ q ⊕ (p ⊕ r)
⊕_left p q r = sym (⊕_assoc p q r) ∙ ap (λ z. z ⊕ r) (⊕_comm p q) ∙ ⊕_assoc q p r

pub neg_⊕ : (p q : AB) → neg (p ⊕ q) ≡ neg p ⊕ neg q
unfolding ◌⊕◌ neg
neg_⊕ p q = λ i. ab (neg_ℤ-+ℤ p.a q.a i) (neg_ℤ-+ℤ p.b q.b i)

pub neg_neg : (p : AB) → neg (neg p) ≡ p
unfolding neg
neg_neg p = λ i. ab (neg_ℤ-neg_ℤ p.a i) (neg_ℤ-neg_ℤ p.b i)

pub neg_origin : neg origin ≡ origin
unfolding neg origin
neg_origin = refl

-- what brings every sum to one form
pub ruleset sums = (⊕_assoc, ⊕_comm, ⊕_left, ⊕_idl, ⊕_idr, neg_⊕, neg_neg, neg_origin)

pub sum_twice : (p q : AB) → (p ⊕ p) ⊕ (q ⊕ q) ≡ (p ⊕ q) ⊕ (p ⊕ q)
sum_twice p q = simp sums

pub thrice_⊕ : (p q : AB) → thrice (p ⊕ q) ≡ thrice p ⊕ thrice q
unfolding thrice
thrice_⊕ p q = simp sums

pub thrice_origin : thrice origin ≡ origin
unfolding thrice
thrice_origin = simp sums

-- ---- rotations
rot_⊕ : (p q : AB) → rot (p ⊕ q) ≡ rot p ⊕ rot q
unfolding rot ◌⊕◌
rot_⊕ p q = λ i. ab (neg_ℤ-+ℤ p.b q.b i) (exchanged p.a q.a p.b q.b i)
  where
    exchanged : (w x y z : ℤ) → w +ℤ x +ℤ (y +ℤ z) ≡ w +ℤ y +ℤ (x +ℤ z)
    exchanged w x y z = let vw = v_var w in let vx = v_var x in let vy = v_var y in let vz = v_var z in eq_by (search view depth 12) (search view depth 12) tt (omega arith)

pub rots_⊕ : (h : ℕ) (p q : AB) → rots h (p ⊕ q) ≡ rots h p ⊕ rots h q
unfolding rots
rots_⊕ zero p q = refl
rots_⊕ (suc h) p q = rw (rots_⊕ h p q, rot_⊕)

-- three of them are the opposite
rot_a : (x y : ℤ) → neg_ℤ (neg_ℤ y +ℤ (x +ℤ y)) ≡ neg_ℤ x
rot_a x y = let vx = v_var x in let vy = v_var y in eq_by (search view depth 12) (search view depth 12) tt (omega arith)

rot_b : (x y : ℤ) → neg_ℤ (x +ℤ y) +ℤ (neg_ℤ y +ℤ (x +ℤ y)) ≡ neg_ℤ y
rot_b x y = let vx = v_var x in let vy = v_var y in eq_by (search view depth 12) (search view depth 12) tt (omega arith)

rots_three : (h : ℕ) (p : AB) → rots (suc (suc (suc h))) p ≡ neg (rots h p)
unfolding rots rot neg
rots_three h p = let q = rots h p in λ i. ab (rot_a q.a q.b i) (rot_b q.a q.b i)

rots_six : (h : ℕ) (p : AB) → rots (6 + h) p ≡ rots h p
rots_six h p =
    let e : 6 + h ≡ suc (suc (suc (suc (suc (suc h))))) = omega arith in
    rw (e, rots_three, rots_three, neg_neg)

rots_laps : (n h : ℕ) (p : AB) → rots (n * 6 + h) p ≡ rots h p
rots_laps zero h p = let k : zero * 6 + h ≡ h = omega arith in rw k
rots_laps (suc n) h p = let k : suc n * 6 + h ≡ 6 + (n * 6 + h) = omega arith in rw (k, rots_six) (rots_laps n h p)

rots_mod : (h : ℕ) (p : AB) → rots (h % 6) p ≡ rots h p
rots_mod h p = let k : h / 6 * 6 + h % 6 ≡ h = omega arith in sym (rots_laps (h / 6) (h % 6) p) ∙ ap (λ n. rots n p) k

pub rots_flip : (h : ℕ) (p : AB) → rots ((h + 3) % 6) p ≡ neg (rots h p)
rots_flip h p = let k : h + 3 ≡ suc (suc (suc h)) = omega arith in rots_mod (h + 3) p ∙ ap (λ n. rots n p) k ∙ rots_three h p

-- ---- flips
pub signed_⊕ : (f : Bool) (p q : AB) → signed f (p ⊕ q) ≡ signed f p ⊕ signed f q
unfolding signed
signed_⊕ false p q = refl
signed_⊕ true p q = neg_⊕ p q

pub signed_origin : (f : Bool) → signed f origin ≡ origin
unfolding signed
signed_origin false = refl
signed_origin true = neg_origin

pub signed_flipped : (f k : Bool) (p : AB) → signed f (signed k p) ≡ signed (flipped f k) p
unfolding signed flipped
signed_flipped false k p = refl
signed_flipped true false p = refl
signed_flipped true true p = neg_neg p

pub thrice_signed : (f : Bool) (p : AB) → thrice (signed f p) ≡ signed f (thrice p)
unfolding thrice
thrice_signed f p = rw (signed_⊕, signed_⊕)

pub doubled_signed : (r : ℕ) (f : Bool) (p : AB) → doubled r (signed f p) ≡ signed f (doubled r p)
unfolding doubled
doubled_signed zero f p = refl
doubled_signed (suc r) f p = rw (doubled_signed r f p) (sym (signed_⊕ f _ _))
