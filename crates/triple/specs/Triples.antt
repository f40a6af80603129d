-- A triple's sum, parity, bounds and flavor. A coordinate is any whole number here.
use Rattle.std.specs.Prelude.{Bool, not, List, [], ◌∷◌, ℕ, ◌+◌, ◌-◌, ◌*◌, ◌%◌, ◌^◌, ℤ, pos, ◌+ℤ◌, ◌-ℤ◌, nat_abs}
use Rattle.whole.specs.Tests.{Test, ◌≤?◌, pass}
use Rattle.triple.specs.declared.Triple.{Triple}
use Rattle.triple.specs.declared.refusal.Refusal.TheVariants.{Sum, Bounds}
use Rattle.triple.specs.Refusals.{Told, told, refuse}
use Rattle.triple.specs.Domain.{at_resolution}

abbrev pub sum_of : Triple → ℤ
sum_of t = t.x +ℤ t.y +ℤ t.z

-- the sum is 0 or 1
abbrev pub good_sum : Triple → Bool
good_sum t = pass ((pos 0 ≤? sum_of t) ∷ (sum_of t ≤? pos 1) ∷ [])

-- the last row at resolution r
abbrev pub max_row : ℕ → ℤ
max_row r = pos (2 ^ r - 1)

-- the sum is 0 or 1, x and z are at most 0, y is from 0 to the last row, and x and z are both at least the sum less y
abbrev pub bounds : ℕ → Triple → List Test
bounds r t =
    (pos 0 ≤? sum_of t) ∷ (sum_of t ≤? pos 1) ∷ (t.x ≤? pos 0) ∷ (t.z ≤? pos 0) ∷ (pos 0 ≤? t.y) ∷ (t.y ≤? max_row r)
    ∷ (sum_of t -ℤ t.y ≤? t.x) ∷ (sum_of t -ℤ t.y ≤? t.z) ∷ []

unfoldable pub is_in_bounds : ℕ → Triple → Bool
is_in_bounds r t = pass (bounds r t)

unfoldable pub parity_of : Triple → Told ℕ
parity_of t = refuse (not (good_sum t)) Sum (told (nat_abs (sum_of t)))

-- the flavor of an in-bounds triple, in closed form: (x + y + z) + 2 * ((max_row + 1 + x + z) mod 2)
unfoldable pub color_of : ℕ → Triple → ℕ
color_of r t = nat_abs (max_row r +ℤ pos 1 +ℤ t.x +ℤ t.z) % 2

unfoldable pub closed_flavor : ℕ → Triple → ℕ
closed_flavor r t = nat_abs (sum_of t) + 2 * color_of r t

unfoldable pub flavor_of : ℕ → Triple → Told ℕ
flavor_of r t =
    at_resolution r
    (refuse (not (good_sum t)) Sum
    (refuse (not (is_in_bounds r t)) Bounds
    (told (closed_flavor r t))))
