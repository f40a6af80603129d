-- The lookup by A5's table, look by look: at each level above the last the sides of three separators pick the child, and at the last the leaves' corner sums are
-- compared in order until one is the cell's. The threshold of a separator's bit is an argument; the lookup's own is that of any table, -1 (`side_threshold`).
use Rattle.std.specs.Prelude.{cond, ℕ, zero, suc, ◌+◌, ◌*◌, ◌^◌, ℤ, nat_abs}
use Rattle.std.specs.Int.Signed.{le_z}
use Rattle.turtle.specs.declared.AB.{AB}
use Rattle.turtle.specs.Plane.{◌⊕◌, neg, thrice, doubled, equal_ab}
use Rattle.tables.specs.Table.{bit}
use Rattle.tables.specs.Descent.{child_at, offset_at, sum_at}
use Rattle.tables.specs.Patterns.{separator_at, value_at, pattern_of, choice_at}
use Rattle.a5.specs.A5Table.{a5_table}

-- p less q
infixl 6 ◌⊖◌
unfoldable pub ◌⊖◌ : AB → AB → AB
p ⊖ q = p ⊕ neg q

-- the state of child d of the state k
abbrev pub child_state : ℕ → ℕ → ℕ
child_state k d = nat_abs (child_at a5_table k d)

-- ---- a pick
-- separator i: its factors and its constant
abbrev pub factor_a : ℕ → ℕ → ℤ
factor_a k i = (separator_at a5_table k i).x

abbrev pub factor_b : ℕ → ℕ → ℤ
factor_b k i = (separator_at a5_table k i).y

abbrev pub constant : ℕ → ℕ → ℤ
constant k i = (separator_at a5_table k i).c

-- its value at p, a corner sum as seen from the state's start, where the children are scaled by 2 ^ n
unfoldable pub separator_value : ℕ → ℕ → ℕ → AB → ℤ
separator_value n k i p = value_at a5_table n k i p

-- its bit: 1 when its value is at least the threshold
unfoldable pub side : ℤ → ℕ → ℕ → ℕ → AB → ℕ
side threshold n k i p = bit (le_z threshold (separator_value n k i p))

-- the child for the pattern of the three bits
unfoldable pub choice : ℕ → ℕ → ℕ
choice k pattern = choice_at a5_table k pattern

unfoldable pub chosen : ℤ → ℕ → ℕ → AB → ℕ
chosen threshold n k p = choice k (pattern_of (side threshold n k 0 p) (side threshold n k 1 p) (side threshold n k 2 p))

-- ---- what a lookup comes to: a place of the axiom's curve, and how many looks led there
pub record Looks : Type 0 where
  pub place : ℕ
  pub picks : ℕ
  pub comparisons : ℕ

-- at the leaf d, with no look more
abbrev pub at_leaf : ℕ → Looks
at_leaf d = record { place = d; picks = 0; comparisons = 0 }

-- a comparison, and what comes after it
abbrev pub one_compared : Looks → Looks
one_compared l = record { place = l.place; picks = l.picks; comparisons = 1 + l.comparisons }

-- a pick whose digit is worth so much, and what comes after it
abbrev pub one_picked : ℕ → Looks → Looks
one_picked worth l = record { place = worth + l.place; picks = 1 + l.picks; comparisons = l.comparisons }

-- n leaves from d on, compared in order with the corner sum p until one has it; the number behind the last where none has
unfoldable pub compared : ℕ → ℕ → ℕ → AB → Looks
compared zero k d p = at_leaf d
compared (suc n) k d p = one_compared (cond (equal_ab p (sum_at a5_table k d)) (at_leaf d) (compared n k (suc d) p))

-- THE LOOKUP of the corner sum p, from the state k that starts at v, with n levels above the leaf
unfoldable pub lookup : ℤ → ℕ → ℕ → AB → AB → Looks
lookup threshold zero k v p = compared 4 k 0 (p ⊖ thrice v)
lookup threshold (suc n) k v p =
    let d = chosen threshold n k (p ⊖ thrice v) in
    one_picked (d * 4 ^ suc n) (lookup threshold n (child_state k d) (v ⊕ doubled n (offset_at a5_table k d)) p)

-- what holds at each of its picks: of the scale, the state that it passes through, and the corner sum as seen from the state's start
unfoldable pub AtPicks : (ℕ → ℕ → AB → Type 0) → ℤ → ℕ → ℕ → AB → AB → Type 0
AtPicks Holds threshold zero k v p = Unit {0}
AtPicks Holds threshold (suc n) k v p =
    let d = chosen threshold n k (p ⊖ thrice v) in
    Holds n k (p ⊖ thrice v) × AtPicks Holds threshold n (child_state k d) (v ⊕ doubled n (offset_at a5_table k d)) p
