-- A point's cell: floors, parity, what of them is beyond the bounds taken off, and whether anything was.
use Rattle.std.specs.Prelude.{Bool, true, false, not, ◌&&◌, ◌||◌, cond, ℕ, ◌+◌, ◌-◌, ◌*◌, ◌/◌, ◌^◌, leb, ℤ, pos, negsuc, neg_ℤ, ◌+ℤ◌, Float}
use Rattle.std.specs.Int.Signed.{lt_z}
use Rattle.std.specs.Float.{nan, inf, fin, binary64}
use Rattle.std.specs.Float.Ieee.{up, down, add, sub, le, of_int}
use Rattle.triple.specs.declared.Triple.{Triple}
use Rattle.triple.specs.declared.refusal.Refusal.TheVariants as Is
use Rattle.triple.specs.Refusals.{Told, told, refuse}
use Rattle.triple.specs.Domain.{at_resolution}
use Rattle.curve.specs.declared.PointCell.{PointCell}

-- ---- a coordinate: the value of fin s m e is m * up e / down e, negative where s is true
-- not NaN, not infinite, and not beyond 2 ^ 31 in size
unfoldable pub near : Float → Bool
near nan = false
near (inf s) = false
near (fin s m e) = leb (m * up e) (2 ^ 31 * down e)

-- the floor of a / c, or of - a / c
abbrev pub floor_at : Bool → ℕ → ℕ → ℤ
floor_at false a c = pos (a / c)
floor_at true a c = neg_ℤ (pos ((a + (c - 1)) / c))

-- the floor of a number; of what is none, 0
unfoldable pub floor : Float → ℤ
floor nan = pos 0
floor (inf s) = pos 0
floor (fin s m e) = floor_at s (m * up e) (down e)

-- ---- the parity: 1 when (i - floor i) + (j - floor j) >= 1, each subtraction and the sum rounded once
unfoldable pub fraction : Float → Float
fraction i = sub binary64 i (of_int binary64 (floor i))

abbrev pub one : Float
one = fin false 1 (pos 0)

unfoldable pub parity : Float → Float → ℕ
parity i j = cond (le one (add binary64 (fraction i) (fraction j))) 1 0

-- ---- into bounds
-- negative becomes 0
abbrev pub clamped : ℤ → ℕ
clamped (pos n) = n
clamped (negsuc n) = 0

-- (-n, m + n + parity, -m)
abbrev pub cornered : ℕ → ℕ → ℕ → Triple
cornered m n p = record { x = neg_ℤ (pos n); y = pos (m + n + p); z = neg_ℤ (pos m) }

-- if m + n + parity > max_row, parity becomes 0, and any remaining excess comes off m first, then n
unfoldable pub settled : ℕ → ℕ → ℕ → ℕ → Triple
settled last m n p =
    let excess = m + n - last in
    cond (leb (m + n + p) last) (cornered m n p) (cornered (m - excess) (n - (excess - m)) 0)

-- a floor is negative, or m + n + parity is above max_row, before any correction
unfoldable pub is_moved : ℕ → ℤ → ℤ → ℕ → Bool
is_moved last m n p = lt_z m (pos 0) || lt_z n (pos 0) || lt_z (pos last) (m +ℤ n +ℤ pos p)

-- the triple of a point's own floors and parity, in bounds or not: (-n, m + n + parity, -m)
abbrev pub own_triple : ℤ → ℤ → ℕ → Triple
own_triple m n p = record { x = neg_ℤ n; y = m +ℤ n +ℤ pos p; z = neg_ℤ m }

abbrev pub point_cell : ℕ → ℤ → ℤ → ℕ → PointCell
point_cell last m n p = record { triple = settled last (clamped m) (clamped n) p; moved = is_moved last m n p }

-- 1 where it was moved, else 0
unfoldable pub mark_of : PointCell → ℕ
mark_of p = cond p.moved 1 0

-- the cell of the point (i, j) at resolution r, by a way to tell the parity
abbrev pub point_by : (Float → Float → ℕ) → ℕ → Float → Float → Told PointCell
point_by tell r i j =
    at_resolution r
    (refuse (not (near i && near j)) Is.Point
    (told (point_cell (2 ^ r - 1) (floor i) (floor j) (tell i j))))

-- THE CELL of the point (i, j) at resolution r
unfoldable pub point_of : ℕ → Float → Float → Told PointCell
point_of r i j = point_by parity r i j
