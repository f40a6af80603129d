-- A COMPILED TABLE DESCENDS: of every text that is accepted, the descent over its table answers the cell at each place of the drawing, and refuses
-- nothing: the table is readable, as its children are tokens, its numbers small and its flavors 0 to 3.
use mathlib.Core.Path.{◌≡◌, sym, ap, subst}
use mathlib.Core.Bool.{Bool, true, false}
use mathlib.Core.List.{List}
use Prim.Native.Nat.{ℕ, zero, suc, ◌+◌, ◌-◌, ◌*◌, ◌/◌, ◌%◌, ◌^◌, ◌<◌, ◌≤◌}
use native.Mathlib.Omega.{arith}
use native.Mathlib.Decide.{dec_lt}
use borrow.Author.Tests.{le-leb, lt-leb, le-ltb, lt-ltb, eq-eqb, ne_eqb}
use lib.Dec.{T, le→leb, ltb→lt}
use lib.IntN.{nat_abs}
use lib.ListN.{length, get_or}
use Rattle.std.specs.Prelude.{Option, Some, None}
use Rattle.whole.proofs.Bools.{is_true}
use Rattle.triple.specs.Refusals.{told}
use Rattle.turtle.specs.declared.AB.{AB}
use Rattle.turtle.specs.Plane.{signed, flipped}
use Rattle.grammar.specs.Texts.{Line, lines_of}
use Rattle.grammar.specs.Curves.{drawing, token_bytes, letter_of}
use Rattle.grammar.specs.Tests.{fine}
use Rattle.grammar.proofs.CountLaws.{tokens_even, tokens_few}
use Rattle.grammar.proofs.Meaning.{accepted, linked}
use Rattle.grammar.proofs.StrokeLaws.{is_flavor}
use Rattle.tables.specs.Children.{child, offset, leaf, no_cell}
use Rattle.tables.specs.Table.{bit, state_of, flavor_number, leaf_of, table_of}
use Rattle.tables.specs.Descent.{entry, child_at, flavor_at, readable_child, readable_flavor, all_below, readable_state, good_table, descent_of}
use Rattle.tables.specs.Verdicts.{split_tests, verdict}
use Rattle.tables.proofs.Entries.{child_entry, offset_entry, sum_entry, flavor_entry}
use Rattle.tables.proofs.Follow.{child_bound}
use Rattle.tables.proofs.Drawing.{descent_is_drawing}
use Rattle.tables.proofs.SizeLaws.{small_abs, signed_small, offset_small, leaf_small, leaf_flavored}
use Rattle.tables.proofs.ReadableLaws.{below_by, readable_child_lem, readable_flavor_lem, readable_state_lem}

-- a flavor that there is, as a table has it
flavor_number_lem : (f : Option ℕ) → T (is_flavor f) → T (readable_flavor (flavor_number f))
flavor_number_lem (Some f) t = readable_flavor_lem f (ltb→lt f 4 t)
flavor_number_lem None t = absurd t

bit_small : (f : Bool) → bit f ≤ 1
bit_small true = omega arith
bit_small false = omega arith

module _ (text : List ℕ) (p : verdict text ≡ fine) where
  abbrev ls : List Line
  ls = lines_of text

  abbrev tokens : ℕ
  tokens = length (token_bytes ls)

  abbrev states : ℕ
  states = 2 * tokens

  -- ---- the states of a token
  module _ (m : ℕ) (f : Bool) (b : m < tokens) where
    abbrev k : ℕ
    k = state_of m f

    child_ok : (d : ℕ) → d < 4 → T (readable_child states (child_at (table_of ls) k d))
    unfolding verdict state_of
    child_ok d h =
        let token = child_bound ls (accepted text (split_tests ls) p) (linked text (split_tests ls) p) m d b h in
        rw (child_entry ls m f b d h) (readable_child_lem states (2 * (child ls m d).token + bit (flipped f (child ls m d).flip)) (omega (arith, token, bit_small (flipped f (child ls m d).flip))))

    -- pairs of entries, by the pair that they are
    pair_ok : (a c : ℕ) (q : AB) {n : ℕ} → entry (table_of ls) k a ≡ q.a → entry (table_of ls) k c ≡ q.b → (nat_abs q.a ≤ n) × (nat_abs q.b ≤ n) → n ≤ 4096
        → (nat_abs (entry (table_of ls) k a) ≤ 4096) × (nat_abs (entry (table_of ls) k c) ≤ 4096)
    pair_ok a c q ea ec s l = rw (ea, ec) (omega arith, omega arith)

    offset_ok : (d : ℕ) → d < 4 → (nat_abs (entry (table_of ls) k (4 + 2 * d)) ≤ 4096) × (nat_abs (entry (table_of ls) k (5 + 2 * d)) ≤ 4096)
    offset_ok d h =
        let e = offset_entry ls m f b d h in
        pair_ok (4 + 2 * d) (5 + 2 * d) (signed f (offset ls m d)) {n = 96} (ap (λ q. q.a) e) (ap (λ q. q.b) e) (small_abs (signed_small f (offset_small text p m d b h))) (omega arith)

    sum_ok : (d : ℕ) → d < 4 → (nat_abs (entry (table_of ls) k (12 + 2 * d)) ≤ 4096) × (nat_abs (entry (table_of ls) k (13 + 2 * d)) ≤ 4096)
    sum_ok d h =
        let e = sum_entry ls m f b d h in
        pair_ok (12 + 2 * d) (13 + 2 * d) (leaf ls m f d).sum {n = 96} (ap (λ q. q.a) e) (ap (λ q. q.b) e) (small_abs (leaf_small text p m f d b)) (omega arith)

    -- entry 4 + j is the first or the second of a pair of offsets, or of one of leaf sums
    entry_ok : (j : ℕ) → j < 16 → nat_abs (entry (table_of ls) k (4 + j)) ≤ 4096
    entry_ok j h = elim (dec_lt j 8) [
      | yes l ↦ of_pair (offset_ok (j / 2) (omega arith)) (omega arith) (omega arith)
      | no l ↦ of_pair (sum_ok (j / 2 - 4) (omega arith)) (omega arith) (omega arith)
    ]
      where
        of_pair : {a c : ℕ} → (nat_abs (entry (table_of ls) k a) ≤ 4096) × (nat_abs (entry (table_of ls) k c) ≤ 4096)
            → (j % 2 ≡ 0 → a ≡ 4 + j) → (j % 2 ≡ 1 → c ≡ 4 + j) → nat_abs (entry (table_of ls) k (4 + j)) ≤ 4096
        of_pair s ea ec = elim (dec_lt (j % 2) 1) [
          | yes l ↦ subst (λ i. nat_abs (entry (table_of ls) k i) ≤ 4096) (ea (omega arith)) s.0
          | no l ↦ subst (λ i. nat_abs (entry (table_of ls) k i) ≤ 4096) (ec (omega arith)) s.1
        ]

    flavor_ok : (d : ℕ) → d < 4 → T (readable_flavor (flavor_at (table_of ls) k d))
    flavor_ok d h = rw (flavor_entry ls m f b d h) (flavor_number_lem (leaf ls m f d).flavor (leaf_flavored text p m f d b h))

    state_ok : T (readable_state (table_of ls) states k)
    state_ok = readable_state_lem (table_of ls) states k (record { child = child_ok; size = λ j h. le→leb (nat_abs (entry (table_of ls) k (4 + j))) 4096 (entry_ok j h); flavor = flavor_ok })

  -- ---- so the table is readable
  number_ok : (k : ℕ) → k < states → T (readable_state (table_of ls) states k)
  unfolding state_of
  number_ok k h = elim (dec_lt (k % 2) 1) [
    | yes l ↦ (let e : 2 * (k / 2) + 0 ≡ k = omega arith in subst (λ i. T (readable_state (table_of ls) states i)) e (state_ok (k / 2) false (omega arith)))
    | no l ↦ (let e : 2 * (k / 2) + 1 ≡ k = omega arith in subst (λ i. T (readable_state (table_of ls) states i)) e (state_ok (k / 2) true (omega arith)))
  ]

  pub compiled_readable : T (all_below (readable_state (table_of ls) states) states)
  compiled_readable = below_by (readable_state (table_of ls) states) states number_ok

  pub compiled_good : (m : ℕ) → m < tokens → good_table (table_of ls) states m ≡ true
  unfolding good_table verdict
  compiled_good m b =
      let few = tokens_few text (split_tests ls) p in
      let even = tokens_even ls in
      rw (
        le-leb 4 states (omega arith),
        le-leb states 32 (omega arith),
        eq-eqb (states % 4) 0 (omega arith),
        lt-ltb m (states / 2) (omega arith),
      ) (sym (is_true (all_below (readable_state (table_of ls) states) states) compiled_readable))

  -- ---- the theorem
  pub compiled_descends : (r m s : ℕ) → 1 ≤ r → r ≤ 30 → m < tokens → s < 4 ^ r → descent_of (table_of ls) states r m s ≡ told (leaf_of (get_or (drawing ls r (letter_of ls m)) s no_cell))
  unfolding descent_of
  compiled_descends zero m s h l b k = absurd (omega arith)
  compiled_descends (suc r) m s h l b k =
      let one : suc r - 1 ≡ r = omega arith in
      rw (ne_eqb (suc r) 0 (omega arith), le-ltb 30 (suc r) l, compiled_good m b, lt-leb (4 ^ suc r) s k, one) (ap told (descent_is_drawing text p r m s b k))
