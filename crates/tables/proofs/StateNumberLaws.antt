-- A state's numbers one by one, in the form of what the code has in hand; and that they are the state's row.
use mathlib.Core.Path.{◌≡◌, refl, sym, ap, ◌∙◌}
use mathlib.Core.Bool.{Bool, true, false}
use mathlib.Core.List.{List, [], ◌∷◌, ◌++◌}
use Prim.Native.Nat.{ℕ, ◌+◌, ◌-◌, ◌*◌, ◌/◌, ◌^◌, ◌<◌, ◌≤◌}
use native.Mathlib.Omega.{arith}
use lib.IntN.{ℤ, pos}
use lib.Signed.{mag}
use lib.ListN.{length, get_or, drop, set, length-set}
use mir.Syntax.{w32}
use mir.Val.{to_z, of_z, bool_byte}
use mir.ValLaws.{to_z-of_z}
use borrow.Author.Tests.{lt-ltb, le-ltb}
use Rattle.whole.proofs.Fill.{poured, poured_more, poured_all}
use Rattle.whole.proofs.View.{v_unsigned, v_upto, eq_by}
use Rattle.turtle.specs.Plane.{flipped}
use Rattle.classifier.specs.Shapes.{no_corner, no_separator}
use Rattle.tables.specs.declared.Child.{Child}
use Rattle.tables.specs.declared.StateParts.{StateParts}
use Rattle.tables.specs.Children.{no_child}
use Rattle.tables.specs.Table.{bit, state_of}
use Rattle.tables.specs.Inside.StateNumbers.{state_in, coordinate_at, factor_at, no_leaf, number_of, numbers_of}
use Rattle.tables.proofs.Entries.{length_up_to, get_d_up_to}

-- ---- numbers as i32
pub natural_is : (n hi : ℕ) → hi < 2 ^ 31 → n ≤ hi → to_z w32 n ≡ pos n
natural_is n hi h k = eq_by (v_unsigned w32 n (2 ^ 31 - 1) (omega arith)) (v_upto n (2 ^ 31 - 1) (omega arith)) tt (omega arith)

pub read_back : {z : ℤ} {y : ℤ} → mag z < 2 ^ 31 → z ≡ y → to_z w32 (of_z w32 z) ≡ y
read_back {z} h e = to_z-of_z w32 z (record { sfits = h }) ∙ e

-- ---- a child's state
byte_bit : (t : Bool) → bool_byte t ≡ bit t
byte_bit true = refl
byte_bit false = refl

bit_small : (t : Bool) → bit t ≤ 1
bit_small true = omega arith
bit_small false = omega arith

pub state_is : (c : Child) (f : Bool) {t : Bool} → t ≡ flipped f c.flip → c.token < 52 → {n : ℕ} → n ≡ bool_byte t → to_z w32 (2 * c.token + n) ≡ state_in f c
unfolding state_of
state_is c f {t} e h {n} k =
    let small : n ≤ 1 = omega (arith, byte_bit t, bit_small t) in
    natural_is (2 * c.token + n) 103 (omega arith) (omega arith) ∙ ap (λ m. pos (2 * c.token + m)) (k ∙ byte_bit t ∙ ap bit e)

-- ---- number j
module _ (p : StateParts) (j : ℕ) {z : ℤ} (small : mag z < 2 ^ 31) where
  pub number_state : j < 4 → z ≡ state_in p.flip (get_or p.children j no_child) → to_z w32 (of_z w32 z) ≡ number_of p j
  unfolding number_of
  number_state h e = read_back small e ∙ sym (rw (lt-ltb j 4 h) refl)

  module _ (past_states : 4 ≤ j) where
    pub number_start : j < 12 → z ≡ coordinate_at (get_or p.starts ((j - 4) / 2) no_corner) j → to_z w32 (of_z w32 z) ≡ number_of p j
    unfolding number_of
    number_start h e = read_back small e ∙ sym (rw (le-ltb j 4 past_states, lt-ltb j 12 h) refl)

    module _ (past_starts : 12 ≤ j) where
      pub number_sum : j < 20 → z ≡ coordinate_at (get_or p.leaves ((j - 12) / 2) no_leaf).sum j → to_z w32 (of_z w32 z) ≡ number_of p j
      unfolding number_of
      number_sum h e = read_back small e ∙ sym (rw (le-ltb j 4 past_states, le-ltb j 12 past_starts, lt-ltb j 20 h) refl)

      module _ (past_sums : 20 ≤ j) where
        pub number_flavor : j < 24 → z ≡ (get_or p.leaves (j - 20) no_leaf).flavor → to_z w32 (of_z w32 z) ≡ number_of p j
        unfolding number_of
        number_flavor h e = read_back small e ∙ sym (rw (le-ltb j 4 past_states, le-ltb j 12 past_starts, le-ltb j 20 past_sums, lt-ltb j 24 h) refl)

        module _ (past_flavors : 24 ≤ j) where
          pub number_separator : j < 33 → z ≡ factor_at (get_or p.classes.separators ((j - 24) / 3) no_separator) j → to_z w32 (of_z w32 z) ≡ number_of p j
          unfolding number_of
          number_separator h e = read_back small e ∙ sym (rw (le-ltb j 4 past_states, le-ltb j 12 past_starts, le-ltb j 20 past_sums, le-ltb j 24 past_flavors, lt-ltb j 33 h) refl)

          pub number_choice : 33 ≤ j → z ≡ pos (get_or p.classes.choices (j - 33) 0) → to_z w32 (of_z w32 z) ≡ number_of p j
          unfolding number_of
          number_choice h e = read_back small e ∙ sym (rw (le-ltb j 4 past_states, le-ltb j 12 past_starts, le-ltb j 20 past_sums, le-ltb j 24 past_flavors, le-ltb j 33 h) refl)

pub child_token : (p : StateParts) (j : ℕ) → j < 4 → (get_or p.children j no_child).token < 52
child_token p j h = p.tokened.below j h

pub ruleset numbered = (number_state, number_start, number_sum, number_flavor, number_separator, number_choice, child_token)

-- ---- all of them
pub length_numbers : (p : StateParts) → length (numbers_of p) ≡ 41
unfolding numbers_of
length_numbers p = length_up_to (λ j. number_of p j ∷ []) 1 (λ j. refl) 41

pub number_is : (p : StateParts) (j : ℕ) → j < 41 → get_or (numbers_of p) j (pos 0) ≡ number_of p j
unfolding numbers_of
number_is p j h =
    let at : j ≡ j * 1 + 0 = omega arith in
    ap (λ i. get_or (numbers_of p) i (pos 0)) at ∙ get_d_up_to (λ j. number_of p j ∷ []) 1 (λ j. refl) 41 j 0 (pos 0) h (omega arith)

-- the first j of them are written
pub record Pouring (p : StateParts) (out₀ out : List ℤ) (j : ℕ) : Type 0 where
  pub front : out ≡ poured (numbers_of p) j out₀
  pub long : length out ≡ length out₀
  pub room : 41 ≤ length out₀
  pub within : j ≤ 41

pub pouring_start : (p : StateParts) (out : List ℤ) → 41 ≤ length out → Pouring p out out 0
pouring_start p out h = record { front = refl; long = refl; room = h; within = omega arith }

module _ {p : StateParts} {out₀ out : List ℤ} {j : ℕ} (so_far : Pouring p out₀ out j) where
  pub pouring_next : j < 41 → {z : ℤ} → mag z < 2 ^ 31 → z ≡ number_of p j → Pouring p out₀ (set out j (to_z w32 (of_z w32 z))) (j + 1)
  pouring_next h {z} small e =
      let v : to_z w32 (of_z w32 z) ≡ get_or (numbers_of p) j (pos 0) = read_back small e ∙ sym (number_is p j h) in
      record {
        front = ap (λ l. set l j (to_z w32 (of_z w32 z))) so_far.front ∙ poured_more (numbers_of p) out₀ j (pos 0) _ (omega (arith, length_numbers p)) (omega (arith, so_far.room)) v;
        long = length-set out j _ ∙ so_far.long;
        room = so_far.room;
        within = omega arith;
      }

  pub pouring_end : 41 ≤ j → out ≡ numbers_of p ++ drop 41 out₀
  pouring_end h = poured_all (numbers_of p) out₀ j 41 (length_numbers p) so_far.within h so_far.front

pub ruleset pouring = (pouring_start, pouring_next, pouring_end)
