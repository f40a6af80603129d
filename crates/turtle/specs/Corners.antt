-- The corner sum of a triple's cell, and the triple that has a corner sum.
use Rattle.std.specs.Prelude.{Option, Some, None, ◌≡◌, Bool, true, false, not, cond, List, [], ◌∷◌, ℕ, ◌*◌, ℤ, pos, negsuc, ◌+ℤ◌, ◌-ℤ◌, ◌*ℤ◌, ◌≤ℤ◌}
use Rattle.std.specs.Int.Signed.{quot_z}
use Rattle.whole.specs.Tests.{Test, ◌≤?◌, pass}
use Rattle.triple.specs.declared.Triple.{Triple}
use Rattle.triple.specs.declared.refusal.Refusal.TheVariants.{Sum, Pair}
use Rattle.triple.specs.Refusals.{Told, told, refused, refuse, number_of}
use Rattle.triple.specs.Triples.{good_sum}
use Rattle.turtle.specs.declared.AB.{AB}
use Rattle.turtle.specs.Plane.{ab, far}

unfoldable pub corner_sum : Triple → AB
corner_sum t =
    ab (pos 8 *ℤ t.y -ℤ pos 4 *ℤ t.x -ℤ pos 4 *ℤ t.z +ℤ pos 8)
    (pos 8 *ℤ t.x -ℤ pos 4 *ℤ t.y -ℤ pos 4 *ℤ t.z -ℤ pos 4)

unfoldable pub corner_sum_of : Triple → Told AB
corner_sum_of t = refuse (not (good_sum t)) Sum (told (corner_sum t))

-- each coordinate is an i32
abbrev pub fits32 : ℤ → List Test → List Test
fits32 v l = (negsuc 2147483647 ≤? v) ∷ (v ≤? pos 2147483647) ∷ l

-- the triple, where each of its coordinates is an i32
unfoldable pub narrowed : Triple → Option Triple
narrowed t = cond (pass (fits32 t.x (fits32 t.y (fits32 t.z [])))) (Some t) None

-- the two pairs are the same
abbrev pub same : AB → AB → List Test → List Test
same p q l = (p.a ≤? q.a) ∷ (q.a ≤? p.a) ∷ (p.b ≤? q.b) ∷ (q.b ≤? p.b) ∷ l

-- the triple of sum s that has the corner sum p, if there is one: then 12 x is b + 4 + 4 s, and 12 y is a - 8 + 4 s
unfoldable pub candidate : ℕ → AB → Triple
candidate s p =
    let x = quot_z (p.b +ℤ pos 4 +ℤ pos (4 * s)) (pos 12) in
    let y = quot_z (p.a -ℤ pos 8 +ℤ pos (4 * s)) (pos 12) in
    record { x = x; y = y; z = pos s -ℤ x -ℤ y }

-- whether there is: the triple has that corner sum, and each coordinate is an i32
unfoldable pub has_corner_sum : AB → Triple → Bool
has_corner_sum p t = pass (same (corner_sum t) p (fits32 t.x (fits32 t.y (fits32 t.z []))))

unfoldable pub triple_of : AB → Told Triple
triple_of p =
    refuse (far p) Pair
    (cond (has_corner_sum p (candidate 0 p)) (told (candidate 0 p))
    (cond (has_corner_sum p (candidate 1 p)) (told (candidate 1 p)) (refused (number_of Pair))))

-- ---- the inverse, exactly
-- a coordinate is an i32
pub record FitsI32 (v : ℤ) : Type 0 where
  pub low : negsuc 2147483647 ≤ℤ v
  pub high : v ≤ℤ pos 2147483647

pub record ThreeI32 (t : Triple) : Type 0 where
  pub x : FitsI32 t.x
  pub y : FitsI32 t.y
  pub z : FitsI32 t.z

-- the pair p has the triple t: of sum 0 or 1, with that corner sum, three i32; and the pair is not beyond 2 ^ 34
pub record HasTriple (p : AB) (t : Triple) : Type 0 where
  pub good : good_sum t ≡ true
  pub sum : corner_sum t ≡ p
  pub narrow : ThreeI32 t
  pub near : far p ≡ false
