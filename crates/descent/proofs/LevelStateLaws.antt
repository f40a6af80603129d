-- The way down a lent table all of whose states are readable: a state's children are its states, its numbers are small, and a place stays near
-- enough that nothing overflows; what it reaches is what following the table reaches.
use mathlib.Core.Path.{◌≡◌, refl, sym, ap, ◌∙◌, subst}
use mathlib.Core.Bool.{Bool, true, false, not, ◌&&◌}
use mathlib.Core.List.{List}
use Prim.Native.Nat.{ℕ, zero, suc, ◌+◌, ◌-◌, ◌*◌, ◌%◌, ◌/◌, ◌^◌, ◌<◌, ◌≤◌}
use native.Mathlib.Nat as N
use native.Mathlib.Omega.{arith}
use native.Mathlib.Decide.{dec_lt}
use borrow.Author.Tests.{le-leb, lt-leb, lt-ltb, le-ltb, eq-eqb, ne_eqb, ltb-false, not-true, not-false}
use lib.Dec.{T, leb, ltb, eqb, leb→le, ltb→lt}
use lib.IntN.{ℤ, pos, nat_abs, ◌+ℤ◌, ◌*ℤ◌}
use lib.Signed.{non_neg}
use lib.ListN.{length, take, drop, length-take, length-drop}
use mir.Syntax.{Width, w64}
use mir.Val.{to_z, of_z, Fits, bits}
use Rattle.whole.proofs.Powers.{four_by_shift}
use Rattle.whole.proofs.Bools.{both_left, both_right, from_true}
use Rattle.whole.proofs.View.{v_abs, v_add, v_mul, kept, eq_by}
use Rattle.triple.specs.declared.refusal.Refusal.TheVariants as Is
use Rattle.triple.specs.Refusals.{Told, told, refused, number_of}
use Rattle.turtle.specs.declared.AB.{AB}
use Rattle.turtle.specs.Plane.{ab, origin, ◌⊕◌, thrice, doubled}
use Rattle.tables.specs.Descent.{Leaf, entry, child_at, offset_at, flavor_at, follow, all_below, readable_state, good_count, good_table, descent_of, descent_in}
use Rattle.tables.specs.Parts.{part_of, is_past}
use Rattle.tables.proofs.ReadableLaws.{below_at, child_readable, flavor_readable, Readable, state_readable}
use Rattle.tables.proofs.HornerLaws.{twice_place, follow_twice, twice_size, room_twice, room_now}
use Rattle.descent.specs.declared.level.LevelState.{LevelState}
use Rattle.descent.specs.declared.TableCell.{TableCell}
use Rattle.descent.specs.Answers.{said_leaf}
use Rattle.descent.specs.Inside.LevelStates.{Known, RoomBelow, down_in, level_start}

-- ---- a known state's entries
module _ {t : List ℤ} {k : ℕ} (known : Known t k) where
  readable : Readable t known.states k
  readable = state_readable t known.states k (below_at (readable_state t known.states) known.states known.readable k known.below)

  -- what is asked to read an entry
  pub inside : (j : ℕ) → j < 41 → (k < 32) × (41 * k + j < length t)
  inside j h = (omega (arith, known.below, known.few), omega (arith, known.below, known.held))

  module _ (d : ℕ) (h : d < 4) where
    pub child_is : (nat_abs (child_at t k d) < known.states) × (pos (nat_abs (child_at t k d)) ≡ child_at t k d)
    child_is = child_readable known.states (child_at t k d) (readable.child d h)

    pub flavor_is : (nat_abs (flavor_at t k d) ≤ 3) × (pos (nat_abs (flavor_at t k d)) ≡ flavor_at t k d)
    flavor_is = flavor_readable (flavor_at t k d) (readable.flavor d h)

    pub known_child : Known t (nat_abs (child_at t k d))
    known_child = record { states = known.states; below = child_is.0; few = known.few; held = known.held; readable = known.readable }

  size_at : (j i : ℕ) → i ≡ 4 + j → j < 16 → nat_abs (entry t k i) ≤ 4096
  size_at j i e h = rw e (leb→le (nat_abs (entry t k (4 + j))) 4096 (readable.size j h))

  pub offset_a : (d : ℕ) → d < 4 → nat_abs (entry t k (4 + 2 * d)) ≤ 4096
  offset_a d h = size_at (2 * d) (4 + 2 * d) (omega arith) (omega arith)

  pub offset_b : (d : ℕ) → d < 4 → nat_abs (entry t k (5 + 2 * d)) ≤ 4096
  offset_b d h = size_at (1 + 2 * d) (5 + 2 * d) (omega arith) (omega arith)

  pub sum_a : (d : ℕ) → d < 4 → nat_abs (entry t k (12 + 2 * d)) ≤ 4096
  sum_a d h = size_at (8 + 2 * d) (12 + 2 * d) (omega arith) (omega arith)

  pub sum_b : (d : ℕ) → d < 4 → nat_abs (entry t k (13 + 2 * d)) ≤ 4096
  sum_b d h = size_at (9 + 2 * d) (13 + 2 * d) (omega arith) (omega arith)

-- ---- a place stays near
pub room_down : (t : List ℤ) (k : ℕ) (p : LevelState) (d : ℕ) → Known t p.state → d < 4 → RoomBelow (suc k) p → RoomBelow k (down_in t p d)
unfolding down_in
room_down t k p d known h n =
    record {
      a = room_twice 4096 (2 ^ 42) k (nat_abs p.a) _ (twice_size 4096 p.a _ (offset_a known d h)) n.a;
      b = room_twice 4096 (2 ^ 42) k (nat_abs p.b) _ (twice_size 4096 p.b _ (offset_b known d h)) n.b;
    }

pub room_here : (k : ℕ) (p : LevelState) → RoomBelow k p → RoomBelow 0 p
room_here k p n = record { a = room_now 4096 (2 ^ 42) k _ n.a; b = room_now 4096 (2 ^ 42) k _ n.b }

pub room_origin : (k state : ℕ) → k ≤ 29 → RoomBelow k (record { a = pos 0; b = pos 0; state = state })
room_origin k state h =
    let p : 2 ^ k ≤ 2 ^ 29 = N.pow-le-pow_right (omega arith) h in
    record { a = omega (arith, p); b = omega (arith, p) }

-- ---- numbers as locals have them
near_size : (m : ℕ) → (m + 4096) * 2 ^ 0 ≤ 2 ^ 42 → m ≤ 2 ^ 42
near_size m h = omega arith

read_near : (x : ℤ) → nat_abs x ≤ 2 ^ 42 → to_z w64 (of_z w64 x) ≡ x
read_near x h = kept w64 refl (v_abs x (2 ^ 42) h) tt

small_near : (x : ℤ) → nat_abs x ≤ 4096 → nat_abs x ≤ 2 ^ 42
small_near x h = omega arith

-- what `times_plus` asks: x is a place's coordinate, and z was read as the entry o
pub asks : (x o : ℤ) {z : ℤ} → (nat_abs x + 4096) * 2 ^ 0 ≤ 2 ^ 42 → nat_abs o ≤ 4096 → z ≡ o → (nat_abs (to_z w64 (of_z w64 x)) ≤ 2 ^ 42) × (nat_abs (to_z w64 (of_z w64 z)) ≤ 4096)
asks x o n h e =
    let s = near_size (nat_abs x) n in
    (rw (read_near x s) s, rw (e, read_near o (small_near o h)) h)

-- what they answer, as a field has it
module _ (x o : ℤ) {z r : ℤ} (n : (nat_abs x + 4096) * 2 ^ 0 ≤ 2 ^ 42) (h : nat_abs o ≤ 4096) (e : z ≡ o) where
  pub twice_read : r ≡ pos 2 *ℤ to_z w64 (of_z w64 x) +ℤ to_z w64 (of_z w64 z) → to_z w64 (of_z w64 r) ≡ pos 2 *ℤ x +ℤ o
  twice_read f =
      let s = near_size (nat_abs x) n in
      kept w64 (f ∙ rw (e, read_near x s, read_near o (small_near o h))) (v_add (v_mul 2 (v_abs x (2 ^ 42) s)) (v_abs o 4096 h)) tt

  pub thrice_read : r ≡ pos 3 *ℤ to_z w64 (of_z w64 x) +ℤ to_z w64 (of_z w64 z) → to_z w64 (of_z w64 r) ≡ x +ℤ x +ℤ x +ℤ o
  thrice_read f =
      let s = near_size (nat_abs x) n in
      let v = v_abs x (2 ^ 42) s in
      let l = v_abs o 4096 h in
      kept w64 (f ∙ rw (e, read_near x s, read_near o (small_near o h))) (v_add (v_mul 3 v) l) tt ∙ eq_by (v_add (v_mul 3 v) l) (v_add (v_add (v_add v v) v) l) tt (omega arith)

-- an entry that is not negative, as the code casts it
abbrev Cast : Width → ℤ → Type 0
Cast w z = T (non_neg (to_z w64 (of_z w64 z))) × Fits w (nat_abs (to_z w64 (of_z w64 z)))

natural : (a : ℕ) → T (non_neg (pos a))
natural a = tt

cast_by : (w : Width) (m a : ℕ) → a ≤ m → m ≤ 4096 → m < 2 ^ bits w → Cast w (pos a)
cast_by w m a h k l = rw (read_near (pos a) (omega arith)) (tt, record { fits = omega arith })

pub counted : (w : Width) (m : ℕ) (o : ℤ) {z : ℤ} → z ≡ o → nat_abs o ≤ m → pos (nat_abs o) ≡ o → m ≤ 4096 → m < 2 ^ bits w → Cast w z
counted w m o {z} e h p k l = subst (Cast w) (p ∙ sym e) (cast_by w m (nat_abs o) h k l)

pub counted_is : (o : ℤ) {z : ℤ} → z ≡ o → nat_abs o ≤ 4096 → nat_abs (to_z w64 (of_z w64 z)) ≡ nat_abs o
counted_is o e h = rw (e, read_near o (small_near o h))

-- ---- one step, and the leaf
pub down_is : (t : List ℤ) (p : LevelState) (d : ℕ) {a b : ℤ} {k : ℕ}
    → a ≡ pos 2 *ℤ p.a +ℤ entry t p.state (4 + 2 * d) → b ≡ pos 2 *ℤ p.b +ℤ entry t p.state (5 + 2 * d) → k ≡ nat_abs (child_at t p.state d)
    → ◌≡◌ {A = LevelState} (record { a = a; b = b; state = k }) (down_in t p d)
unfolding down_in
down_is t p d ea eb ek = λ i. record { a = ea i; b = eb i; state = ek i }

pub leaf_is : (t : List ℤ) (p : LevelState) (d : ℕ) (c : TableCell) {a b : ℤ} → d < 4
    → c.sum ≡ ab a b → a ≡ p.a +ℤ p.a +ℤ p.a +ℤ entry t p.state (12 + 2 * d) → b ≡ p.b +ℤ p.b +ℤ p.b +ℤ entry t p.state (13 + 2 * d)
    → pos c.flavor ≡ flavor_at t p.state d → said_leaf c ≡ follow t 0 (level_start p) p.state d
unfolding follow thrice ◌⊕◌
leaf_is t p d c h es ea eb ef =
    let q : d % 4 ≡ d = N.mod-eq_of_lt h in
    rw q (λ i. record { sum = (es ∙ (λ j. ab (ea j) (eb j))) i; flavor = ef i })

-- ---- the loop: one digit fewer is left
down_follows : (t : List ℤ) (k s : ℕ) (p : LevelState) (d : ℕ)
    → follow t k (doubled k (level_start (down_in t p d))) (down_in t p d).state s ≡ follow t k (doubled k (level_start p ⊕ level_start p ⊕ offset_at t p.state d)) (nat_abs (child_at t p.state d)) s
unfolding down_in
down_follows t k s p d = ap (λ v. follow t k (doubled k v) (nat_abs (child_at t p.state d)) s) (twice_place (level_start p) (offset_at t p.state d))

pub follow_down : (t : List ℤ) (k s : ℕ) (p : LevelState) (d : ℕ) → 0 < k → d ≡ s / 4 ^ k % 4
    → follow t (k - 1) (doubled (k - 1) (level_start (down_in t p d))) (down_in t p d).state s ≡ follow t k (doubled k (level_start p)) p.state s
follow_down t zero s p d h e = absurd (N.not-suc-le-zero h)
follow_down t (suc k) s p d h e =
    let one : suc k - 1 ≡ k = omega arith in
    rw one (down_follows t k s p d ∙ sym (follow_twice t k s p.state (level_start p) d e))

pub near_step : (t : List ℤ) (k : ℕ) (p : LevelState) (d : ℕ) → 0 < k → Known t p.state → d < 4 → RoomBelow k p → RoomBelow (k - 1) (down_in t p d)
near_step t zero p d h known l n = absurd (N.not-suc-le-zero h)
near_step t (suc k) p d h known l n = let one : suc k - 1 ≡ k = omega arith in rw one (room_down t k p d known l n)

pub known_down : (t : List ℤ) (p : LevelState) (d : ℕ) → Known t p.state → d < 4 → Known t (down_in t p d).state
unfolding down_in
known_down t p d known h = known_child known d h

pub follow_none : (t : List ℤ) (k s : ℕ) (p : LevelState) → k ≡ 0 → follow t 0 (level_start p) p.state s ≡ follow t k (doubled k (level_start p)) p.state s
unfolding doubled
follow_none t k s p e = rw e

-- only the lowest digit of s is left
pub follow_digit : (t : List ℤ) (v : AB) (k s : ℕ) → follow t 0 v k (s % 4) ≡ follow t 0 v k s
unfolding follow
follow_digit t v k s = let e : s % 4 % 4 ≡ s % 4 = omega arith in rw e

-- ---- what is told of a table that passes its test
module _ (t : List ℤ) (states token : ℕ) {b : Bool} (e : b ≡ good_table t states token) (h : not b ≡ false) where
  passed : T (good_table t states token)
  passed = from_true (sym e ∙ not-false b h)

  parts : T (good_count states) × T (ltb token (states / 2)) × T (all_below (readable_state t states) states)
  unfolding good_table
  parts =
      let front = both_left (good_count states && ltb token (states / 2)) (all_below (readable_state t states) states) passed in
      (both_left (good_count states) (ltb token (states / 2)) front, both_right (good_count states) (ltb token (states / 2)) front, both_right (good_count states && ltb token (states / 2)) (all_below (readable_state t states) states) passed)

  few : states ≤ 32
  few = leb→le states 32 (both_right (leb 4 states) (leb states 32) (both_left (leb 4 states && leb states 32) (eqb (states % 4) 0) parts.0))

  pub token_below : token < 16
  token_below = omega (arith, few, ltb→lt token (states / 2) parts.1)

  pub token_known : 41 * states ≤ length t → Known t (2 * token)
  token_known held = record { states = states; below = omega (arith, ltb→lt token (states / 2) parts.1); few = few; held = held; readable = parts.2 }

-- ---- the answer, test by test
module _ (r s : ℕ) where
  some_cells : 0 < 4 ^ r
  some_cells = N.one-le-pow r 4 (omega arith)

  past : 0 < s / 2 ^ (2 * r) → 4 ^ r ≤ s
  past h = omega (arith, (N.le-div_iff_mul-le {k = 4 ^ r} {x = 1} {y = s} some_cells).0 (rw (four_by_shift r) at h))

  within : s / 2 ^ (2 * r) ≤ 0 → s < 4 ^ r
  within h = elim (dec_lt s (4 ^ r)) [
    | yes k ↦ k
    | no k ↦ (let m : 1 * 4 ^ r ≤ s = omega arith in let one = (N.le-div_iff_mul-le {k = 4 ^ r} {x = 1} {y = s} some_cells).1 m in absurd (omega (arith, one, rw (four_by_shift r) at h)))
  ]

module _ (t : List ℤ) (states r token s : ℕ) where
  pub passes_none : r ≡ 0 → refused (number_of Is.Resolution) ≡ descent_of t states r token s
  unfolding descent_of
  passes_none h = rw (eq-eqb r 0 h)

  module _ (some : r ≡ 0 → ⊥) where
    pub passes_many : 30 < r → refused (number_of Is.Resolution) ≡ descent_of t states r token s
    unfolding descent_of
    passes_many h = rw (ne_eqb r 0 some, lt-ltb 30 r h)

    module _ (few_passes : r ≤ 30) {b : Bool} (e : b ≡ good_table t states token) where
      pub table_bad : not b ≡ true → refused (number_of Is.Table) ≡ descent_of t states r token s
      unfolding descent_of
      table_bad h = rw (ne_eqb r 0 some, le-ltb 30 r few_passes, sym e ∙ not-true b h)

      module _ (good : not b ≡ false) where
        pub place_past : 0 < s / 2 ^ (2 * r) → refused (number_of Is.Position) ≡ descent_of t states r token s
        unfolding descent_of
        place_past h = rw (ne_eqb r 0 some, le-ltb 30 r few_passes, sym e ∙ not-false b good, le-leb (4 ^ r) s (past r s h))

        pub place_drawn : s / 2 ^ (2 * r) ≤ 0 → {l : Leaf} → l ≡ follow t (r - 1) origin (2 * token) s → told l ≡ descent_of t states r token s
        unfolding descent_of
        place_drawn h f = rw (ne_eqb r 0 some, le-ltb 30 r few_passes, sym e ∙ not-false b good, lt-leb (4 ^ r) s (within r s h)) (ap told f)

-- ---- a part of a table, and then what is told of the part
module _ (table : List ℤ) (start states r token s : ℕ) {b : Bool} (e : b ≡ is_past (length table) start states) where
  pub part_past : b ≡ true → refused (number_of Is.Part) ≡ descent_in table start states r token s
  unfolding descent_in
  part_past h = rw (sym e ∙ h)

  module _ (within : b ≡ false) where
    pub end_within : start + 41 * states ≤ length table
    end_within = ltb-false (length table) (start + 41 * states) (sym e ∙ within)

    -- so nothing overflows, as a table's bytes can be counted
    module _ (small : length table * 4 < 2 ^ 63) where
      pub numbers_fit : Fits w64 (41 * states)
      numbers_fit = record { fits = omega (arith, end_within) }

      pub end_fits : Fits w64 (start + 41 * states)
      end_fits = record { fits = omega (arith, end_within) }

      pub start_fits : Fits w64 (start * 4)
      start_fits = record { fits = omega (arith, end_within) }

    lent_part : take (start + 41 * states - start) (drop start table) ≡ part_of table start states
    lent_part = let n : start + 41 * states - start ≡ 41 * states = omega arith in ap (λ n. take n (drop start table)) n

    pub part_held : 41 * states ≤ length (take (start + 41 * states - start) (drop start table))
    part_held = rw (lent_part, length-take, length-drop) (omega (arith, end_within))

    pub part_told : {a : Told Leaf} → a ≡ descent_of (take (start + 41 * states - start) (drop start table)) states r token s → a ≡ descent_in table start states r token s
    unfolding descent_in
    part_told f = f ∙ (rw (lent_part, sym e ∙ within) refl)

pub ruleset by_part = (part_past, end_within, numbers_fit, end_fits, start_fits, part_held, part_told)
