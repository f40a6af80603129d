-- The lattice of corner pairs, with the rotation by 60 degrees, (a, b) to (-b, a + b).
use Rattle.std.specs.Prelude.{Bool, true, false, not, ◌&&◌, [], ◌∷◌, ℕ, zero, suc, ℤ, pos, negsuc, neg_ℤ, ◌+ℤ◌}
use Rattle.whole.specs.Tests.{◌≤?◌, pass, equal}
use Rattle.turtle.specs.declared.AB.{AB}

abbrev pub ab : ℤ → ℤ → AB
ab a b = record { a = a; b = b }

abbrev pub equal_ab : AB → AB → Bool
equal_ab p q = equal p.a q.a && equal p.b q.b

unfoldable pub origin : AB
origin = ab (pos 0) (pos 0)

infixl 6 ◌⊕◌
unfoldable pub ◌⊕◌ : AB → AB → AB
p ⊕ q = ab (p.a +ℤ q.a) (p.b +ℤ q.b)

unfoldable pub neg : AB → AB
neg p = ab (neg_ℤ p.a) (neg_ℤ p.b)

unfoldable pub thrice : AB → AB
thrice p = p ⊕ p ⊕ p

-- by 60 degrees, and h times so
unfoldable pub rot : AB → AB
rot p = ab (neg_ℤ p.b) (p.a +ℤ p.b)

unfoldable pub rots : ℕ → AB → AB
rots zero p = p
rots (suc h) p = rot (rots h p)

-- ---- a flip is half a turn: the opposite pair, heading 3; two of them are none
-- p, or its opposite
unfoldable pub signed : Bool → AB → AB
signed false p = p
signed true p = neg p

unfoldable pub facing : Bool → ℕ
facing false = 0
facing true = 3

-- the exclusive or of two flips
unfoldable pub flipped : Bool → Bool → Bool
flipped false f = f
flipped true f = not f

-- 2 ^ r times p
unfoldable pub doubled : ℕ → AB → AB
doubled zero p = p
doubled (suc r) p = let q = doubled r p in q ⊕ q

-- beyond 2 ^ 34 in size
unfoldable pub far : AB → Bool
far p = not (pass ((negsuc 17179869183 ≤? p.a) ∷ (p.a ≤? pos 17179869184) ∷ (negsuc 17179869183 ≤? p.b) ∷ (p.b ≤? pos 17179869184) ∷ []))
