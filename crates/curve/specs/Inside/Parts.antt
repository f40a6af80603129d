-- What the private functions of the exact rounding say: the parity of one way or the other, and the part of a number's size that is above its whole part.
use Rattle.std.specs.Prelude.{Bool, true, false, cond, ℕ, ◌+◌, ◌-◌, ◌*◌, ◌%◌, ◌^◌, ◌<◌, leb, Float}
use Rattle.std.specs.Float.Ieee.Exact.{HasValue}
use Rattle.curve.specs.declared.exact.Part.{Part}
use Rattle.curve.specs.Points.{parity}
use Rattle.curve.specs.ExactPoints.{exact_parity}

-- by exact fractions, or by the f64's own arithmetic
abbrev pub parity_in : Bool → Float → Float → ℕ
parity_in exact i j = cond exact (exact_parity i j) (parity i j)

-- how far a / c, or - a / c, is above its floor, in units of 1 / c
abbrev pub rest_at : Bool → ℕ → ℕ → ℕ
rest_at false a c = a % c
rest_at true a c = (c - a % c) % c

-- whether what two numbers are above their floors sums to 1 at least
abbrev pub sum_reaches : Bool → ℕ → ℕ → Bool → ℕ → ℕ → Bool
sum_reaches s a c t b d = leb (c * d) (rest_at s a c * d + rest_at t b d * c)

-- of p and q, each below 1 in size
unfoldable pub parts_reach : Part → Part → Bool
parts_reach p q = sum_reaches p.negative p.digits (2 ^ p.places) q.negative q.digits (2 ^ q.places)

-- 1 less p, by its size
abbrev pub rest_of : Part → Part
rest_of p = record { negative = p.negative; digits = 2 ^ p.places - p.digits; places = p.places }

-- an f64's own: below 1 in size, and of 53 digits
pub record Small (p : Part) : Type 0 where
  pub low : p.digits < 2 ^ p.places
  pub few : p.digits < 2 ^ 53

-- p is what x is in size above the whole number n, with x's sign
pub record PartOf (x : Float) (p : Part) : Type 0 where
  pub whole : ℕ
  pub value : HasValue x p.negative (whole * 2 ^ p.places + p.digits) (2 ^ p.places)
  pub small : Small p
