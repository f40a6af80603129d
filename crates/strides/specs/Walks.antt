-- A walk down A5's curve by the digits of a place, highest first, and what three levels at once come to.
-- Rows 0 to 27 are A5's states, and rows 28, 29 and 30 the states of the axioms A, C and B again. From a row after those any digit leads to the row three before it, so that
-- a walk of any length goes by threes from row 28 + 3 * m + axiom, with m digits before its own.
use Rattle.std.specs.Prelude.{cond, [], ◌∷◌, ℕ, zero, suc, ◌+◌, ◌-◌, ◌*◌, ◌/◌, ◌%◌, ◌^◌, ltb, get_or}
use Rattle.a5.specs.Lookup.{child_state}
use Rattle.a5.specs.Inside.Footprints.{at_x, at_y, leaf_x, leaf_y, leaf_flavor}
use Rattle.strides.specs.declared.Walk.{Walk}
use Rattle.strides.specs.declared.End.{End}

-- ---- rows
-- A5's state in row k, below 31
unfoldable pub state_in : ℕ → ℕ
state_in k = cond (ltb k 28) k (get_or (0 ∷ 4 ∷ 2 ∷ []) (k - 28) 0)

-- the row that the digit d leads to, and where its footprint begins
unfoldable pub row_below : ℕ → ℕ → ℕ
row_below k d = cond (ltb k 31) (child_state (state_in k) d) (k - 3)

unfoldable pub begin_x : ℕ → ℕ → ℕ
begin_x k d = cond (ltb k 31) (at_x (state_in k) d) 0

unfoldable pub begin_y : ℕ → ℕ → ℕ
begin_y k d = cond (ltb k 31) (at_y (state_in k) d) 0

-- ---- levels
-- at the beginning of row k, which has 64 entries
abbrev pub on_row_of : ℕ → Walk
on_row_of k = record { x = 0; y = 0; row = 64 * k }

-- a level down, by the digit d
unfoldable pub down : Walk → ℕ → Walk
down w d = let k = w.row / 64 in record { x = 2 * w.x + begin_x k d; y = 2 * w.y + begin_y k d; row = 64 * row_below k d }

-- at the leaf d
unfoldable pub at_leaf : Walk → ℕ → End
at_leaf w d = let k = state_in (w.row / 64) in record { x = w.x + leaf_x k d; flavor = leaf_flavor k d; y = w.y + leaf_y k d }

-- the end of the walk by the digits n to 1 of s, and the leaf 0
unfoldable pub end_after : ℕ → ℕ → Walk → End
end_after zero s w = at_leaf w (s % 4)
end_after (suc n) s w = end_after n s (down w (s / 4 ^ suc n % 4))

-- ---- three levels, by the three digits of c
unfoldable pub three_down : Walk → ℕ → Walk
three_down w c = down (down (down w (c / 16)) (c / 4 % 4)) (c % 4)

unfoldable pub end_below : Walk → ℕ → End
end_below w c = at_leaf (down (down w (c / 16)) (c / 4 % 4)) (c % 4)

-- THE TABLES, of 37 rows; past them, zeros
unfoldable pub walk_step : ℕ → Walk
walk_step i = cond (ltb i 2368) (three_down (on_row_of (i / 64)) (i % 64)) (on_row_of 0)

unfoldable pub walk_end : ℕ → End
walk_end i = cond (ltb i 2368) (end_below (on_row_of (i / 64)) (i % 64)) (record { x = 0; flavor = 0; y = 0 })
