-- What the calls answer, and a slice afterwards, at each of their tests, in the form of what the code has in hand there.
use mathlib.Core.Bool.{Bool, true, false, not, ◌&&◌, true≢false}
use mathlib.Core.Path.{◌≡◌, refl, sym, ap, ◌∙◌}
use mathlib.Core.List.{List, [], ◌∷◌, ◌++◌}
use Prim.Native.Nat.{ℕ, ◌*◌, ◌/◌, ◌≤◌, ◌<◌, min}
use native.Mathlib.Omega.{arith}
use native.Mathlib.Decide.{dec_le}
use lib.Dec.{ltb, leb, eqb}
use lib.ListN.{length, drop}
use borrow.Author.Tests.{le-ltb, lt-ltb, le-leb, leb-true, leb-false, not-true, not-false}
use Rattle.triple.specs.declared.refusal.Refusal.{Refusal}
use Rattle.triple.specs.declared.refusal.Refusal.TheVariants as Is
use Rattle.triple.specs.Refusals.{Told, told, refused, number_of}
use Rattle.triple.specs.Lent.{valued, count_of, after_call, Counted}
use Rattle.triple.proofs.LentLaws.{count_short, count_whole, refused_count, refused_kept}
use Rattle.fold.specs.declared.pairs.Fault.{Fault}
use Rattle.fold.specs.declared.pairs.Fault.TheVariants as Test
use Rattle.fold.specs.Cells.{pairs, cells_in}
use Rattle.fold.specs.Unfolds.{shallow, inside, ordered, passes, passed_before, refusal_for, unfold_of, unfold_call}
use Rattle.whole.proofs.Bools.{both_true}
use Rattle.fold.proofs.PairLaws.{length_pairs}
use Rattle.fold.proofs.PassLaws.{deep_no, deep_yes, low_no, low_yes, tidy_no, tidy_yes, passes_most}
use Rattle.fold.proofs.PairTestLaws.{passes_tested}
use Rattle.area.specs.declared.operation.Operation.{Operation}
use Rattle.area.specs.declared.operation.Operation.TheVariants as For
use Rattle.area.specs.Areas.{tested, made_of, made_call, size_call, contained, contains_call}
use Rattle.area.specs.Inside.Rooms.{ample}
use Rattle.area.proofs.ContainLaws.{contained_left}
use Rattle.area.proofs.RoomLaws.{ample_room}

-- ---- two lists
and_no : (x y : Bool) → ((x ≡ false → ⊥) → y ≡ false) → (x && y) ≡ false
and_no false y f = refl
and_no true y f = f (λ e. true≢false e)

module _ (a b : List ℕ) {x y z : ℕ} (ex : x ≡ passes 30 a) (ey : y ≡ passes 30 b) (ez : z ≡ min x y) where
  fact : (z ≤ x) × (z ≤ y) × ((z ≡ x → ⊥) → z ≡ y)
  fact = (omega arith, omega arith, λ f. omega arith)

  module _ {A : Type 0} (says : Told A) where
    tested_deep : z ≡ 0 → refused (number_of Is.Resolution) ≡ tested a b says
    unfolding tested
    tested_deep h =
        let f = fact in
        simp (and_no (shallow 30 (cells_in a)) (shallow 30 (cells_in b)) (λ g. deep_no 30 b ey (sym (f.2 (λ j. g (deep_no 30 a ex (sym j ∙ h)))) ∙ h)))

    tested_past : (z ≡ 0 → ⊥) → z ≡ 1 → refused (number_of Is.Position) ≡ tested a b says
    unfolding tested
    tested_past d h =
        let f = fact in
        let da : shallow 30 (cells_in a) ≡ true = deep_yes 30 a ex (omega arith) in
        let db : shallow 30 (cells_in b) ≡ true = deep_yes 30 b ey (omega arith) in
        simp (da, db, and_no (inside (cells_in a)) (inside (cells_in b)) (λ g. low_no 30 b ey (sym (f.2 (λ j. g (low_no 30 a ex (sym j ∙ h)))) ∙ h)))

    tested_unordered : (z ≡ 0 → ⊥) → (z ≡ 1 → ⊥) → z ≡ 2 → refused (number_of Is.Order) ≡ tested a b says
    unfolding tested
    tested_unordered d l h =
        let f = fact in
        let da : shallow 30 (cells_in a) ≡ true = deep_yes 30 a ex (omega arith) in
        let db : shallow 30 (cells_in b) ≡ true = deep_yes 30 b ey (omega arith) in
        simp (
          da,
          db,
          low_yes 30 a ex (omega arith),
          low_yes 30 b ey (omega arith),
          and_no (ordered 30 a) (ordered 30 b) (λ g. tidy_no 30 b ey (sym (f.2 (λ j. g (tidy_no 30 a ex (sym j ∙ h)))) ∙ h)),
        )

  module _ (d : z ≡ 0 → ⊥) (l : z ≡ 1 → ⊥) (t : z ≡ 2 → ⊥) where
    many : (3 ≤ x) × (3 ≤ y)
    many = let f = fact in (omega arith, omega arith)

    tested_both : {A : Type 0} (says : Told A) → says ≡ tested a b says
    unfolding tested
    tested_both says =
        let f = many in
        let da : shallow 30 (cells_in a) ≡ true = deep_yes 30 a ex (omega arith) in
        let db : shallow 30 (cells_in b) ≡ true = deep_yes 30 b ey (omega arith) in
        simp (da, db, low_yes 30 a ex (omega arith), low_yes 30 b ey (omega arith), tidy_yes 30 a ex f.0, tidy_yes 30 b ey f.1)

-- as their reading tells
module _ (a b : List ℕ) {A : Type 0} (says : Told A) where
  fault_tested : (fault : Fault) → passed_before fault ≡ min (passes 30 a) (passes 30 b) → refused (number_of (refusal_for fault)) ≡ tested a b says
  fault_tested Test.Resolution e = tested_deep a b refl refl e says refl
  fault_tested Test.Position e = tested_past a b refl refl e says (λ z. omega arith) refl
  fault_tested Test.Order e = tested_unordered a b refl refl e says (λ z. omega arith) (λ z. omega arith) refl

  both_tested : 3 ≡ min (passes 30 a) (passes 30 b) → says ≡ tested a b says
  both_tested e = tested_both a b refl refl e (λ z. omega arith) (λ z. omega arith) (λ z. omega arith) says

-- ---- two areas into a third: the tests
module _ (o : Operation) (a b slice : List ℕ) where
  module _ (fault : Fault) (e : passed_before fault ≡ min (passes 30 a) (passes 30 b)) {refusal : Refusal} (refusal_is : refusal ≡ refusal_for fault) where
    refuses : refused (number_of refusal) ≡ made_call o a b
    unfolding made_call
    refuses = rw refusal_is (fault_tested a b (told (pairs (made_of o a b))) fault e)

    pub faulty_count : refused (number_of refusal) ≡ valued (λ n. n / 2) (count_of (made_call o a b) slice)
    faulty_count = ap (valued (λ n. n / 2)) (refused_count slice refuses)

    pub faulty_left : slice ≡ after_call (made_call o a b) slice
    faulty_left = refused_kept slice refuses

  taken : 3 ≡ min (passes 30 a) (passes 30 b) → told (pairs (made_of o a b)) ≡ made_call o a b
  unfolding made_call
  taken e = both_tested a b (told (pairs (made_of o a b))) e

  -- an overlay is of the same operation and areas
  pub combined : {u : Operation} {xs ys : List ℕ} → 3 ≡ min (passes 30 a) (passes 30 b) → (u ≡ o) × (xs ≡ a) × (ys ≡ b) → {t : Told ℕ} {out : List ℕ}
      → (t ≡ valued (λ n. n / 2) (count_of (told (pairs (made_of u xs ys))) slice)) × (out ≡ after_call (told (pairs (made_of u xs ys))) slice)
      → (t ≡ valued (λ n. n / 2) (count_of (made_call o a b) slice)) × (out ≡ after_call (made_call o a b) slice)
  combined e s c = rw (s.0, s.1, s.2, taken e) at c

-- ---- and the room
pub room_ample : (o : Operation) (a b : List ℕ) → passes 30 a ≡ 3 → passes 30 b ≡ 3
    → (room : ℕ) {enough : Bool} → enough ≡ ample o (length a / 2) (length b / 2) room → enough ≡ true → enough ≡ leb (length (made_of o a b)) room
room_ample o a b first second room e f =
    f ∙ sym (le-leb (length (made_of o a b)) room (ample_room a b (passes_tested 30 a first).laid (passes_tested 30 b second).laid room o (sym e ∙ f)))

module _ (o : Operation) (a b slice : List ℕ) {room : Bool} (room_is : room ≡ leb (length (made_of o a b)) (length slice / 2)) where
  module _ (h : not room ≡ true) where
    short : length slice < 2 * length (made_of o a b)
    short = omega (arith, leb-false (length (made_of o a b)) (length slice / 2) (sym room_is ∙ not-true room h))

    pub short_count : refused (number_of Is.Room) ≡ valued (λ n. n / 2) (count_of (told (pairs (made_of o a b))) slice)
    short_count = ap (valued (λ n. n / 2)) (count_short (pairs (made_of o a b)) slice (length_pairs (made_of o a b)) short).0

    pub short_left : slice ≡ after_call (told (pairs (made_of o a b))) slice
    short_left = (count_short (pairs (made_of o a b)) slice (length_pairs (made_of o a b)) short).1

  module _ (h : not room ≡ false) where
    pub roomy : 2 * length (made_of o a b) ≤ length slice
    roomy = omega (arith, leb-true (length (made_of o a b)) (length slice / 2) (sym room_is ∙ not-false room h))

    module _ {n : ℕ} {out : List ℕ} (count_is : n ≡ length (made_of o a b)) (out_is : out ≡ pairs (made_of o a b) ++ drop (2 * length (made_of o a b)) slice) where
      counted : Counted (told (pairs (made_of o a b))) slice (told (2 * length (made_of o a b))) out
      counted = count_whole (pairs (made_of o a b)) slice (length_pairs (made_of o a b)) roomy out_is

      pub whole_count : told n ≡ valued (λ n. n / 2) (count_of (told (pairs (made_of o a b))) slice)
      whole_count =
          let half : n ≡ 2 * length (made_of o a b) / 2 = omega arith in
          ap told half ∙ ap (valued (λ n. n / 2)) counted.0

      pub whole_left : out ≡ after_call (told (pairs (made_of o a b))) slice
      whole_left = counted.1

pub ruleset combining_room = (short_count, short_left, roomy, whole_count, whole_left)

-- ---- the size
module _ (a : List ℕ) (r : ℕ) {n : ℕ} (e : n ≡ passes r a) where
  pub size_deep : n ≡ 0 → refused (number_of Is.Resolution) ≡ size_call a r
  unfolding size_call unfold_call
  size_deep z =
      let f = deep_no r a e z in
      elim (dec_le r 30) [
        | yes h ↦ (let g : shallow r (cells_in a) ≡ false = rw (le-leb r 30 h) at f in simp (le-ltb 30 r h, g))
        | no h ↦ simp (lt-ltb 30 r (omega arith))
      ]

  module _ (d : n ≡ 0 → ⊥) where
    deep_both : (leb r 30 ≡ true) × (shallow r (cells_in a) ≡ true)
    deep_both = both_true (leb r 30) (shallow r (cells_in a)) (deep_yes r a e (omega arith))

    low : ltb 30 r ≡ false
    low = le-ltb 30 r (leb-true r 30 deep_both.0)

    pub size_past : n ≡ 1 → refused (number_of Is.Position) ≡ size_call a r
    unfolding size_call unfold_call
    size_past z = simp (low, deep_both.1, low_no r a e z)

    module _ (l : n ≡ 1 → ⊥) where
      pub size_unordered : n ≡ 2 → refused (number_of Is.Order) ≡ size_call a r
      unfolding size_call unfold_call
      size_unordered z = simp (low, deep_both.1, low_yes r a e (omega arith), tidy_no r a e z)

      module _ (t : n ≡ 2 → ⊥) where
        size_told : told (length (unfold_of r (cells_in a))) ≡ size_call a r
        unfolding size_call unfold_call
        size_told = simp (low, deep_both.1, low_yes r a e (omega arith), tidy_yes r a e (omega arith))

module _ (a : List ℕ) (r : ℕ) where
  fault_size : (fault : Fault) → passed_before fault ≡ passes r a → refused (number_of (refusal_for fault)) ≡ size_call a r
  fault_size Test.Resolution e = size_deep a r e refl
  fault_size Test.Position e = size_past a r e (λ z. omega arith) refl
  fault_size Test.Order e = size_unordered a r e (λ z. omega arith) (λ z. omega arith) refl

  pub no_size : (fault : Fault) → passed_before fault ≡ passes r a → {refusal : Refusal} → refusal ≡ refusal_for fault → refused (number_of refusal) ≡ size_call a r
  no_size fault e f = rw f (fault_size fault e)

  pub sized : 3 ≡ passes r a → {m : ℕ} {xs : List ℕ} → (m ≡ r) × (xs ≡ a) → {k : ℕ} → k ≡ length (unfold_of m (cells_in xs)) → told k ≡ size_call a r
  sized e s f = rw (f, s.0, s.1) (size_told a r e (λ z. omega arith) (λ z. omega arith) (λ z. omega arith))

-- ---- whether a cell is contained
module _ (a : List ℕ) (m p : ℕ) where
  pub not_told : (fault : Fault) → passed_before fault ≡ min (passes 30 (m ∷ p ∷ [])) (passes 30 a) → {refusal : Refusal} → refusal ≡ refusal_for fault
      → refused (number_of refusal) ≡ contains_call a m p
  unfolding contains_call
  not_told fault e f = rw f (fault_tested (m ∷ p ∷ []) a _ fault e)

  pub contains_told : {u : Operation} {xs ys : List ℕ} → 3 ≡ min (passes 30 (m ∷ p ∷ [])) (passes 30 a) → (u ≡ For.Difference) × (xs ≡ m ∷ p ∷ []) × (ys ≡ a)
      → {k : ℕ} → k ≡ length (made_of u xs ys) → told (eqb k 0) ≡ contains_call a m p
  unfolding contains_call made_of cells_in
  contains_told e s f =
      let one = (passes_tested 30 (m ∷ p ∷ []) (omega (arith, passes_most 30 (m ∷ p ∷ []), passes_most 30 a))).laid in
      let all = (passes_tested 30 a (omega (arith, passes_most 30 (m ∷ p ∷ []), passes_most 30 a))).laid in
      let g = rw (s.0, s.1, s.2) at f in
      ap (λ (b : Bool). told b) (contained_left 30 m p (cells_in a) one.0 one.1 all g) ∙ both_tested (m ∷ p ∷ []) a (told (contained 30 (cells_in a) m p)) e
