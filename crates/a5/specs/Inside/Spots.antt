-- A cell of a footprint as a spot, three numbers counted from the footprint's beginning; the walk down to it by the digits of s; and its triple, where the footprint is an axiom's.
use Rattle.std.specs.Prelude.{◌≡◌, ℕ, zero, suc, ◌+◌, ◌-◌, ◌*◌, ◌/◌, ◌%◌, ◌^◌, ◌<◌, ◌≤◌, pos, neg_ℤ, nat_abs, ◌-ℤ◌}
use Rattle.triple.specs.declared.Triple.{Triple}
use Rattle.a5.specs.Lookup.{child_state}
use Rattle.a5.specs.Inside.Footprints.{skew, wide_x, wide_y, wide_g, at_x, at_y, at_g, leaf_x, leaf_y, leaf_g, leaf_flavor}

pub record Spot : Type 0 where
  pub x : ℕ
  pub y : ℕ
  pub g : ℕ

abbrev pub spot : ℕ → ℕ → ℕ → Spot
spot a b c = record { x = a; y = b; g = c }

-- p is a spot of the footprint of the state k at the scale n
pub record In (n k : ℕ) (p : Spot) : Type 0 where
  pub in_x : p.x < wide_x k * n
  pub in_y : p.y < wide_y k * n
  pub in_g : p.g < wide_g k * n
  pub low : p.x + p.y ≤ p.g + skew k * n
  pub high : p.g + skew k * n ≤ p.x + p.y + 1

-- the parity of its cell, 0 or 1: the sum of the cell's triple
abbrev pub parity : ℕ → ℕ → Spot → ℕ
parity n k p = p.x + p.y + 1 - (p.g + skew k * n)

abbrev pub HasParity : ℕ → ℕ → Spot → ℕ → Type 0
HasParity n k p q = q + (p.g + skew k * n) ≡ p.x + p.y + 1

-- ---- the walk
-- a spot of child d of k, whose scale is n, as a spot of k
unfoldable pub moved : ℕ → ℕ → ℕ → Spot → Spot
moved n k d p = spot (p.x + at_x k d * n) (p.y + at_y k d * n) (p.g + at_g k d * n)

unfoldable pub leaf : ℕ → ℕ → Spot
leaf k d = spot (leaf_x k d) (leaf_y k d) (leaf_g k d)

-- the cell s of the state k, with n levels above the leaf
unfoldable pub walk : ℕ → ℕ → ℕ → Spot
walk zero k s = leaf k (s % 4)
walk (suc n) k s = let d = s / 4 ^ suc n % 4 in moved (2 ^ n) k d (walk n (child_state k d) s)

-- the flavor of the cell s
unfoldable pub walk_flavor : ℕ → ℕ → ℕ → ℕ
walk_flavor zero k s = leaf_flavor k (s % 4)
walk_flavor (suc n) k s = walk_flavor n (child_state k (s / 4 ^ suc n % 4)) s

-- ---- the triple of a spot of an axiom, whose footprint is the wedge, at the scale 2 ^ n; and back
unfoldable pub triple_at : ℕ → Spot → Triple
triple_at n p = record { x = pos (p.x + 1) -ℤ pos (2 * 2 ^ n); y = pos p.y; z = neg_ℤ (pos p.g) }

unfoldable pub spot_at : ℕ → Triple → Spot
spot_at n t = spot (2 * 2 ^ n - suc (nat_abs t.x)) (nat_abs t.y) (nat_abs t.z)
