-- The lookup from a spot back to the digits on the way to it, by which child has the spot: what a separator says of it is on which side of a line, in one of the
-- three numbers, its triangle of the children's scale lies.
use mathlib.Core.Bool.{Bool, cond, ◌&&◌}
use Prim.Native.Nat.{ℕ, zero, suc, ◌+◌, ◌-◌, ◌*◌, ◌/◌, ◌^◌}
use lib.Dec.{ltb, eqb}
use lib.IntN.{ℤ, pos, nat_abs, ◌-ℤ◌, ◌*ℤ◌}
use lib.Signed.{le_z, quot_z}
use Rattle.whole.specs.Tests.{equal}
use Rattle.tables.specs.Table.{bit}
use Rattle.a5.specs.Lookup.{child_state, factor_a, factor_b, constant, choice}
use Rattle.a5.specs.Inside.Footprints.{before_x, before_y, before_g, at_x, at_y, at_g}
use Rattle.a5.specs.Inside.Spots.{Spot, spot, leaf}

-- ---- separator i looks at one number, its axis: 0 for x, 1 for y, 2 for g. Its bit is `upward` where that is at or above the threshold, in units of the children's scale
unfoldable pub axis : ℕ → ℕ → ℕ
axis k i = cond (equal (factor_a k i) (pos 0)) 0 (cond (equal (factor_b k i) (pos 0)) 1 2)

-- a twelfth of its factor
unfoldable pub slope : ℕ → ℕ → ℤ
slope k i = quot_z (cond (equal (factor_a k i) (pos 0)) (factor_b k i) (factor_a k i)) (pos 12)

unfoldable pub upward : ℕ → ℕ → ℕ
upward k i = bit (le_z (pos 0) (slope k i))

-- by the axis
unfoldable pub before : ℕ → ℕ → ℕ
before zero k = before_x k
before (suc zero) k = before_y k
before (suc (suc axis)) k = before_g k

unfoldable pub threshold : ℕ → ℕ → ℕ
threshold k i = nat_abs (pos (2 * before (axis k i) k) -ℤ quot_z (constant k i) (pos 144 *ℤ slope k i))

-- ---- the lookup
-- a spot of k as one of its child d, whose scale is n
unfoldable pub back : ℕ → ℕ → ℕ → Spot → Spot
back n k d p = spot (p.x - at_x k d * n) (p.y - at_y k d * n) (p.g - at_g k d * n)

-- the triangle of the children's scale that a spot lies in
unfoldable pub coarse : ℕ → Spot → Spot
coarse n p = spot (p.x / n) (p.y / n) (p.g / n)

-- the child that has it, by the three bits
unfoldable pub seen : ℕ → Spot → ℕ
seen zero p = p.x
seen (suc zero) p = p.y
seen (suc (suc axis)) p = p.g

unfoldable pub bit_at : ℕ → ℕ → Spot → ℕ
bit_at k i p = cond (ltb (seen (axis k i) p) (threshold k i)) (1 - upward k i) (upward k i)

unfoldable pub pick : ℕ → Spot → ℕ
pick k p = choice k (bit_at k 0 p + 2 * bit_at k 1 p + 4 * bit_at k 2 p)

unfoldable pub same : Spot → Spot → Bool
same p q = eqb p.x q.x && (eqb p.y q.y && eqb p.g q.g)

unfoldable pub leaf_of : ℕ → Spot → ℕ
leaf_of k p = cond (same p (leaf k 0)) 0 (cond (same p (leaf k 1)) 1 (cond (same p (leaf k 2)) 2 3))

unfoldable pub find : ℕ → ℕ → Spot → ℕ
find zero k p = leaf_of k p
find (suc n) k p = let d = pick k (coarse (2 ^ n) p) in d * 4 ^ suc n + find n (child_state k d) (back (2 ^ n) k d p)
