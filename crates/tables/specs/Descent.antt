-- The descent over a table, any table: following its child states, offsets and leaf entries by the digits of s.
use Rattle.std.specs.Prelude.{Bool, true, not, ◌&&◌, ◌||◌, List, ℕ, zero, suc, ◌+◌, ◌-◌, ◌*◌, ◌/◌, ◌%◌, ◌^◌, leb, ltb, eqb, ℤ, pos, nat_abs, length, get_or}
use Rattle.std.specs.Int.Signed.{lt_z, le_z}
use Rattle.triple.specs.declared.refusal.Refusal.TheVariants as Is
use Rattle.triple.specs.Refusals.{Told, told, refuse}
use Rattle.turtle.specs.declared.AB.{AB}
use Rattle.turtle.specs.Plane.{ab, origin, ◌⊕◌, thrice, doubled}
use Rattle.tables.specs.Parts.{part_of, is_past}

-- entry j of state k
unfoldable pub entry : List ℤ → ℕ → ℕ → ℤ
entry t k j = get_or t (41 * k + j) (pos 0)

abbrev pub child_at : List ℤ → ℕ → ℕ → ℤ
child_at t k d = entry t k d

abbrev pub offset_at : List ℤ → ℕ → ℕ → AB
offset_at t k d = ab (entry t k (4 + 2 * d)) (entry t k (5 + 2 * d))

abbrev pub sum_at : List ℤ → ℕ → ℕ → AB
sum_at t k d = ab (entry t k (12 + 2 * d)) (entry t k (13 + 2 * d))

abbrev pub flavor_at : List ℤ → ℕ → ℕ → ℤ
flavor_at t k d = entry t k (20 + d)

-- a corner sum and a flavor, as a table has them
pub record Leaf : Type 0 where
  pub sum : AB
  pub flavor : ℤ

-- from the place v and the state k, with r levels above the leaf: level r + 1 reads digit r of s
unfoldable pub follow : List ℤ → ℕ → AB → ℕ → ℕ → Leaf
follow t zero v k s = record { sum = thrice v ⊕ sum_at t k (s % 4); flavor = flavor_at t k (s % 4) }
follow t (suc r) v k s =
    let d = s / 4 ^ suc r % 4 in
    follow t r (v ⊕ doubled r (offset_at t k d)) (nat_abs (child_at t k d)) s

-- ---- what is asked of a table that anyone may have written
abbrev pub readable_child : ℕ → ℤ → Bool
readable_child states z = le_z (pos 0) z && lt_z z (pos states)

abbrev pub readable_flavor : ℤ → Bool
readable_flavor z = le_z (pos 0) z && le_z z (pos 3)

abbrev pub readable_size : ℤ → Bool
readable_size z = leb (nat_abs z) 4096

-- p at 0, at 1, .. below n
abbrev pub all_below : (ℕ → Bool) → ℕ → Bool
all_below p zero = true
all_below p (suc n) = all_below p n && p n

unfoldable pub readable_state : List ℤ → ℕ → ℕ → Bool
readable_state t states k =
    all_below (λ d. readable_child states (child_at t k d)) 4
    && all_below (λ j. readable_size (entry t k (4 + j))) 16
    && all_below (λ d. readable_flavor (flavor_at t k d)) 4

-- a multiple of 4 from 4 to 32
abbrev pub good_count : ℕ → Bool
good_count states = leb 4 states && leb states 32 && eqb (states % 4) 0

unfoldable pub good_table : List ℤ → ℕ → ℕ → Bool
good_table t states token = good_count states && ltb token (states / 2) && all_below (readable_state t states) states

-- the states' numbers, their count, the passes, a token and s
unfoldable pub descent_of : List ℤ → ℕ → ℕ → ℕ → ℕ → Told Leaf
descent_of t states r token s =
    refuse (eqb r 0 || ltb 30 r) Is.Resolution
    (refuse (not (good_table t states token)) Is.Table
    (refuse (leb (4 ^ r) s) Is.Position
    (told (follow t (r - 1) origin (2 * token) s))))

-- THE DESCENT in a part of a table, which is all that it looks at: 26, and then as over a table that has nothing else
unfoldable pub descent_in : List ℤ → ℕ → ℕ → ℕ → ℕ → ℕ → Told Leaf
descent_in table start states r token s = refuse (is_past (length table) start states) Is.Part (descent_of (part_of table start states) states r token s)
