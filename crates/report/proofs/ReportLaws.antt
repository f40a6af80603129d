-- What a report answers, and its slices afterwards, at each of its tests, in the form of what the code has in hand there.
use mathlib.Core.Bool.{Bool, true, false, not, ◌||◌}
use mathlib.Core.Path.{◌≡◌, refl, sym, ap, ◌∙◌}
use mathlib.Core.List.{List, [], ◌∷◌, ◌++◌}
use Prim.Native.Nat.{ℕ, ◌-◌, ◌*◌, ◌/◌, ◌%◌, ◌^◌, ◌<◌, ◌≤◌}
use native.Mathlib.Omega.{arith}
use lib.Dec.{ltb}
use lib.IntN.{ℤ}
use lib.ListN.{length, take, drop, replicate, length-append}
use lib.Seq.{length-take-le, take_at}
use borrow.Author.Tests.{lt-ltb, ltb-false, eq-eqb, ne_eqb, not-true, not-false}
use Rattle.std.specs.Prelude.{Ok, Err, Result}
use Rattle.triple.specs.declared.Triple.{Triple}
use Rattle.triple.specs.declared.refusal.Refusal.{Refusal}
use Rattle.triple.specs.declared.refusal.Refusal.TheVariants as Is
use Rattle.triple.specs.Refusals.{Told, told, refused, refuse, number_of, said}
use Rattle.triple.specs.Domain.{domain_of}
use Rattle.triple.specs.Triples.{good_sum, is_in_bounds}
use Rattle.triple.specs.Lent.{valued, count_of, after_call}
use Rattle.triple.proofs.DomainLaws.{domain_in, out_of_domain, in_domain_lem, shallow, oriented}
use Rattle.triple.proofs.LentLaws.{refused_count, refused_kept, count_whole}
use Rattle.lsystem.specs.Cells.{position_of}
use Rattle.lsystem.proofs.Numbering.{triple_named_lem}
use Rattle.fold.specs.Cells.{pairs}
use Rattle.fold.specs.Folds.{all_below, fold_of, fold_call}
use Rattle.whole.proofs.Bools.{both_true}
use Rattle.fold.proofs.CallLaws.{fold_told}
use Rattle.report.specs.Reports.{triples_in, every, place_in, places_of, in_order, settled, report_call, too_short, report_to, work_to}
use Rattle.report.specs.Inside.Triples.{Reported}
use Rattle.report.proofs.TripleLaws.{triples_length, places_length}
use Rattle.report.proofs.SettleLaws.{in_order_has, in_order_up, in_order_below, fold_same}

-- ---- the positions of triples in bounds
pub places_below : (o r : ℕ) (ts : List Triple) → o ≤ 5 → r ≤ 30 → every (is_in_bounds r) ts ≡ true → all_below (4 ^ r) (places_of o r ts) ≡ true
unfolding every places_of all_below
places_below o r [] h k e = refl
places_below o r (t ∷ ts) h k e =
    let b = both_true (is_in_bounds r t) (every (is_in_bounds r) ts) e in
    let n = triple_named_lem o r h k t b.0 in
    let small : place_in (position_of o r t) < 4 ^ r = rw n.3 n.1 in
    rw (lt-ltb (place_in (position_of o r t)) (4 ^ r) small) (places_below o r ts h k b.1)

module _ (o r : ℕ) (xs : List ℤ) (reported : Reported o r xs) where
  abbrev places : List ℕ
  places = places_of o r (triples_in xs)

  below : all_below (4 ^ r) (places_of o r (triples_in xs)) ≡ true
  below = places_below o r (triples_in xs) reported.oriented reported.shallow reported.bounded

  pub report_low : r ≤ 30
  report_low = reported.shallow

  pub work_below : {work : List ℕ} → work ≡ places_of o r (triples_in xs) → all_below (4 ^ r) work ≡ true
  work_below e = rw e below

  module _ {work : List ℕ} (work_is : work ≡ places_of o r (triples_in xs)) {n : ℕ} (n_is : n ≡ length (in_order r work)) {left : List ℕ} (left_is : left ≡ settled r work) where
    pub report_within : n ≤ length left
    unfolding settled
    report_within = omega (arith, ap length left_is, length-append (in_order r work) (replicate (length work - length (in_order r work)) 0))

    pub report_left : left ≡ settled r (places_of o r (triples_in xs))
    report_left = left_is ∙ ap (settled r) work_is

    pub report_size : length (settled r work) ≡ length work → length (settled r (places_of o r (triples_in xs))) ≡ length (triples_in xs)
    report_size e = ap (λ (l : List ℕ). length (settled r l)) (sym work_is) ∙ e ∙ ap length work_is ∙ places_length o r (triples_in xs)

    pub report_part : n ≡ length (take n left)
    report_part = sym (length-take-le n left report_within)

    ordered : take n left ≡ in_order r (places_of o r (triples_in xs))
    unfolding settled
    ordered = ap (take n) left_is ∙ take_at (in_order r work) (replicate (length work - length (in_order r work)) 0) n (sym n_is) ∙ ap (in_order r) work_is

    folds : fold_call o r (take n left) ≡ told (pairs (fold_of r (places_of o r (triples_in xs))))
    folds =
        ap (fold_call o r) ordered ∙ fold_told o r (in_order r (places_of o r (triples_in xs))) reported.shallow reported.oriented (in_order_below r (places_of o r (triples_in xs)) below) (in_order_up r (places_of o r (triples_in xs)) below)
        ∙ ap (λ (l : List _). told (pairs l)) (fold_same (in_order r (places_of o r (triples_in xs))) (places_of o r (triples_in xs)) (in_order_has r (places_of o r (triples_in xs)) below) r)

    module _ (slice : List ℕ) where
      pub report_count : {a : Told ℕ} → a ≡ valued (λ n. n / 2) (count_of (fold_call o r (take n left)) slice) → a ≡ valued (λ n. n / 2) (count_of (told (pairs (fold_of r (places_of o r (triples_in xs))))) slice)
      report_count e = e ∙ ap (λ (c : Told (List ℕ)). valued (λ n. n / 2) (count_of c slice)) folds

      pub report_out : {out : List ℕ} → out ≡ after_call (fold_call o r (take n left)) slice → out ≡ after_call (told (pairs (fold_of r (places_of o r (triples_in xs))))) slice
      report_out e = e ∙ ap (λ (c : Told (List ℕ)). after_call c slice) folds

pub ruleset reports = (report_low, work_below, report_within, report_part, report_left, report_size, report_count, report_out)

-- ---- a call that is refused leaves both slices
module _ (o r : ℕ) (xs : List ℤ) (work out : List ℕ) {n : ℕ} (e : refused n ≡ report_to o r xs work out) where
  no_count : refused n ≡ valued (λ n. n / 2) (count_of (report_to o r xs work out) out)
  no_count = ap (valued (λ n. n / 2)) (refused_count out e)

  no_out : out ≡ after_call (report_to o r xs work out) out
  no_out = refused_kept out e

  no_work : work ≡ after_call (work_to o r xs work out) work
  unfolding work_to
  no_work = refused_kept work (ap (valued (λ area. settled r (places_of o r (triples_in xs)))) e)

early : (o r : ℕ) (xs : List ℤ) (work out : List ℕ) {n : ℕ} → refused n ≡ report_call o r xs → refused n ≡ report_to o r xs work out
unfolding report_to
early o r xs work out e = rw (← e) refl

-- ---- the tests
module _ (o r : ℕ) (xs : List ℤ) (work out : List ℕ) {a : Result Unit Refusal} (ea : said a ≡ domain_of o r) where
  module _ {e : Refusal} (m : a ≡ Err e) where
    outside : refused (number_of e) ≡ report_to o r xs work out
    unfolding report_call
    outside = early o r xs work out (out_of_domain o r a ea _ m)

    pub outside_count : refused (number_of e) ≡ valued (λ n. n / 2) (count_of (report_to o r xs work out) out)
    outside_count = no_count o r xs work out outside

    pub outside_out : out ≡ after_call (report_to o r xs work out) out
    outside_out = no_out o r xs work out outside

    pub outside_work : work ≡ after_call (work_to o r xs work out) work
    outside_work = no_work o r xs work out outside

  module _ (m : a ≡ (Ok tt)) {sums : Bool} (sums_is : sums ≡ every good_sum (triples_in xs)) where
    pub tests_low : r ≤ 30
    tests_low = shallow o r a ea m

    module _ (h : not sums ≡ true) where
      unsummed : refused (number_of Is.Sum) ≡ report_to o r xs work out
      unfolding report_call
      unsummed = early o r xs work out (simp (sym sums_is ∙ not-true sums h) (in_domain_lem o r a ea m _))

      pub unsummed_count : refused (number_of Is.Sum) ≡ valued (λ n. n / 2) (count_of (report_to o r xs work out) out)
      unsummed_count = no_count o r xs work out unsummed

      pub unsummed_out : out ≡ after_call (report_to o r xs work out) out
      unsummed_out = no_out o r xs work out unsummed

      pub unsummed_work : work ≡ after_call (work_to o r xs work out) work
      unsummed_work = no_work o r xs work out unsummed

    module _ (i : not sums ≡ false) {bounded : Bool} (bounded_is : bounded ≡ every (is_in_bounds r) (triples_in xs)) where
      good : every good_sum (triples_in xs) ≡ true
      good = sym sums_is ∙ not-false sums i

      module _ (h : not bounded ≡ true) where
        unbounded : refused (number_of Is.Bounds) ≡ report_to o r xs work out
        unfolding report_call
        unbounded = early o r xs work out (simp (good, sym bounded_is ∙ not-true bounded h) (in_domain_lem o r a ea m _))

        pub unbounded_count : refused (number_of Is.Bounds) ≡ valued (λ n. n / 2) (count_of (report_to o r xs work out) out)
        unbounded_count = no_count o r xs work out unbounded

        pub unbounded_out : out ≡ after_call (report_to o r xs work out) out
        unbounded_out = no_out o r xs work out unbounded

        pub unbounded_work : work ≡ after_call (work_to o r xs work out) work
        unbounded_work = no_work o r xs work out unbounded

      module _ (j : not bounded ≡ false) where
        inside : every (is_in_bounds r) (triples_in xs) ≡ true
        inside = sym bounded_is ∙ not-false bounded j

        pub tests_reported : Reported o r xs
        tests_reported = record { shallow = shallow o r a ea m; oriented = oriented o r a ea m; good = good; bounded = inside }

pub ruleset reporting_tests = (
  outside_count,
  outside_out,
  outside_work,
  tests_low,
  unsummed_count,
  unsummed_out,
  unsummed_work,
  unbounded_count,
  unbounded_out,
  unbounded_work,
  tests_reported,
)

-- ---- and what is left
module _ (o r : ℕ) (xs : List ℤ) (work out : List ℕ) (reported : Reported o r xs) where
  module _ (h : length xs % 3 ≡ 0 → ⊥) where
    cut : refused (number_of Is.Order) ≡ report_to o r xs work out
    unfolding report_call
    cut = early o r xs work out (simp (reported.good, reported.bounded, ne_eqb (length xs % 3) 0 h) (domain_in o r _ reported.shallow reported.oriented))

    pub cut_count : refused (number_of Is.Order) ≡ valued (λ n. n / 2) (count_of (report_to o r xs work out) out)
    cut_count = no_count o r xs work out cut

    pub cut_out : out ≡ after_call (report_to o r xs work out) out
    cut_out = no_out o r xs work out cut

    pub cut_work : work ≡ after_call (work_to o r xs work out) work
    cut_work = no_work o r xs work out cut

  module _ (h : length xs % 3 ≡ 0) {n : ℕ} (n_is : n ≡ length xs / 3) {short : Bool} (short_is : short ≡ (ltb (length work) n || ltb (length out) (2 * n))) where
    given : report_to o r xs work out ≡ refuse (too_short xs work out) Is.Room (told (pairs (fold_of r (places_of o r (triples_in xs)))))
    unfolding report_to report_call
    given = rw (← domain_in o r _ reported.shallow reported.oriented) (simp (reported.good, reported.bounded, eq-eqb (length xs % 3) 0 h))

    short_same : too_short xs work out ≡ short
    unfolding too_short
    short_same = ap (λ (k : ℕ). ltb (length work) k || ltb (length out) (2 * k)) (triples_length xs ∙ sym n_is) ∙ sym short_is

    module _ (k : short ≡ true) where
      no_room : refused (number_of Is.Room) ≡ report_to o r xs work out
      no_room = sym (given ∙ rw (short_same, k) refl)

      pub room_count : refused (number_of Is.Room) ≡ valued (λ n. n / 2) (count_of (report_to o r xs work out) out)
      room_count = no_count o r xs work out no_room

      pub room_out : out ≡ after_call (report_to o r xs work out) out
      room_out = no_out o r xs work out no_room

      pub room_work : work ≡ after_call (work_to o r xs work out) work
      room_work = no_work o r xs work out no_room

    module _ (k : short ≡ false) where
      all_told : report_to o r xs work out ≡ told (pairs (fold_of r (places_of o r (triples_in xs))))
      all_told = given ∙ rw (short_same, k) refl

      long_enough : n ≤ length work
      long_enough = ltb-false (length work) n (first_false (ltb (length work) n) (ltb (length out) (2 * n)) (sym short_is ∙ k))
        where
          first_false : (x y : Bool) → (x || y) ≡ false → x ≡ false
          first_false true y e = e
          first_false false y e = refl

      pub work_part : n ≤ length work
      work_part = long_enough

      pub work_long : length (take n work) ≡ length (triples_in xs)
      work_long = length-take-le n work long_enough ∙ n_is ∙ sym (triples_length xs)

      pub told_count : {t : Told ℕ} → t ≡ valued (λ n. n / 2) (count_of (told (pairs (fold_of r (places_of o r (triples_in xs))))) out) → t ≡ valued (λ n. n / 2) (count_of (report_to o r xs work out) out)
      told_count e = rw all_told e

      pub told_out : {after : List ℕ} → after ≡ after_call (told (pairs (fold_of r (places_of o r (triples_in xs))))) out → after ≡ after_call (report_to o r xs work out) out
      told_out e = rw all_told e

      pub told_work : {front : List ℕ} → front ≡ settled r (places_of o r (triples_in xs)) → length (settled r (places_of o r (triples_in xs))) ≡ length (triples_in xs) → front ++ drop n work ≡ after_call (work_to o r xs work out) work
      unfolding work_to
      told_work e size = rw all_told (count_whole (settled r (places_of o r (triples_in xs))) work (size ∙ triples_length xs ∙ sym n_is) long_enough (ap (λ (l : List ℕ). l ++ drop n work) e)).1

pub ruleset reporting_listed = (cut_count, cut_out, cut_work, room_count, room_out, room_work, work_part, work_long, told_count, told_out, told_work)
