-- The footprints of A5's states in units of triangles: three numbers a state are written here, and all else is read off A5's table.
-- A cell is seen by three whole numbers, x, y and g: x - 1, y and - z of its triple, which are b, a and a + b of its corner sum over 12, rounded down.
-- A state with 1 + m passes is of the scale n = 2 ^ m. Seen from the state's start its cells begin at - before_x k * n in x, at - before_y k * n in y and
-- at - before_g k * n in g. Counted from there they are in ℕ: a cell is a spot of the footprint (`Spots`).
use Rattle.std.specs.Prelude.{cond, [], ◌∷◌, ℕ, ◌+◌, ◌-◌, ◌*◌, ◌/◌, eqb, ℤ, pos, nat_abs, ◌+ℤ◌, get_or}
use Rattle.std.specs.Int.Signed.{quot_z}
use Rattle.tables.specs.Descent.{offset_at, sum_at, flavor_at}
use Rattle.a5.specs.A5Table.{a5_table}
use Rattle.a5.specs.Lookup.{child_state}

-- ---- the three numbers of each state, in state order
unfoldable pub before_x : ℕ → ℕ
before_x k = get_or (2 ∷ 0 ∷ 0 ∷ 2 ∷ 2 ∷ 0 ∷ 1 ∷ 1 ∷ 1 ∷ 0 ∷ 1 ∷ 0 ∷ 0 ∷ 1 ∷ 0 ∷ 2 ∷ 0 ∷ 2 ∷ 2 ∷ 0 ∷ 0 ∷ 2 ∷ 1 ∷ 0 ∷ 1 ∷ 0 ∷ 1 ∷ 0 ∷ []) k 0

unfoldable pub before_y : ℕ → ℕ
before_y k = get_or (0 ∷ 2 ∷ 2 ∷ 0 ∷ 0 ∷ 2 ∷ 1 ∷ 1 ∷ 0 ∷ 3 ∷ 1 ∷ 2 ∷ 2 ∷ 1 ∷ 0 ∷ 2 ∷ 0 ∷ 2 ∷ 0 ∷ 2 ∷ 2 ∷ 0 ∷ 1 ∷ 2 ∷ 2 ∷ 1 ∷ 2 ∷ 1 ∷ []) k 0

unfoldable pub before_g : ℕ → ℕ
before_g k = get_or (0 ∷ 2 ∷ 0 ∷ 2 ∷ 0 ∷ 2 ∷ 2 ∷ 0 ∷ 0 ∷ 2 ∷ 1 ∷ 1 ∷ 1 ∷ 1 ∷ 0 ∷ 2 ∷ 0 ∷ 2 ∷ 2 ∷ 0 ∷ 0 ∷ 2 ∷ 1 ∷ 1 ∷ 2 ∷ 0 ∷ 2 ∷ 0 ∷ []) k 0

-- by how much the least g is above the sum of the least x and the least y
unfoldable pub skew : ℕ → ℕ
skew k = before_x k + before_y k - before_g k

-- ---- the extent in each number: where the skew is 1 a parallelogram, where it is 0 or 2 a triangle, one or the other way up
unfoldable pub wide_x : ℕ → ℕ
wide_x k = cond (eqb (skew k) 1) 1 2

unfoldable pub wide_y : ℕ → ℕ
wide_y k = cond (eqb (skew k) 1) 3 2

unfoldable pub wide_g : ℕ → ℕ
wide_g k = 2

-- ---- where the footprint of child d begins in its parent's, in units of the child's scale: an offset is 4 a unit
unfoldable pub begins : ℕ → ℕ → ℤ → ℕ
begins parent child offset = nat_abs (pos (2 * parent) +ℤ quot_z offset (pos 4)) - child

unfoldable pub at_x : ℕ → ℕ → ℕ
at_x k d = begins (before_x k) (before_x (child_state k d)) (offset_at a5_table k d).b

unfoldable pub at_y : ℕ → ℕ → ℕ
at_y k d = begins (before_y k) (before_y (child_state k d)) (offset_at a5_table k d).a

unfoldable pub at_g : ℕ → ℕ → ℕ
at_g k d = begins (before_g k) (before_g (child_state k d)) ((offset_at a5_table k d).a +ℤ (offset_at a5_table k d).b)

-- ---- leaf d, by its corner sum
unfoldable pub leaf_x : ℕ → ℕ → ℕ
leaf_x k d = nat_abs (pos (12 * before_x k) +ℤ (sum_at a5_table k d).b) / 12

unfoldable pub leaf_y : ℕ → ℕ → ℕ
leaf_y k d = nat_abs (pos (12 * before_y k) +ℤ (sum_at a5_table k d).a) / 12

unfoldable pub leaf_g : ℕ → ℕ → ℕ
leaf_g k d = nat_abs (pos (12 * before_g k) +ℤ (sum_at a5_table k d).a +ℤ (sum_at a5_table k d).b) / 12

unfoldable pub leaf_flavor : ℕ → ℕ → ℕ
leaf_flavor k d = nat_abs (flavor_at a5_table k d)
