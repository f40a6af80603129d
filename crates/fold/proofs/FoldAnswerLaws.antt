-- What `fold` answers, and its slice afterwards, at each of its tests, in the form of what the code has in hand there.
use mathlib.Core.Bool.{Bool, true, false, not}
use mathlib.Core.Path.{◌≡◌, sym, ap, ◌∙◌}
use mathlib.Core.List.{List, ◌++◌}
use Prim.Native.Nat.{ℕ, ◌*◌, ◌/◌, ◌^◌, ◌≤◌, ◌<◌}
use native.Mathlib.Omega.{arith}
use lib.Dec.{leb}
use lib.ListN.{length, drop}
use borrow.Author.Tests.{leb-true, leb-false, not-true, not-false}
use Rattle.std.specs.Prelude.{Ok, Err, Result}
use Rattle.triple.specs.declared.refusal.Refusal.{Refusal}
use Rattle.triple.specs.declared.refusal.Refusal.TheVariants as Is
use Rattle.triple.specs.Refusals.{Told, told, refused, number_of, said}
use Rattle.triple.specs.Domain.{domain_of, position_count}
use Rattle.triple.specs.Lent.{valued, count_of, after_call, Counted}
use Rattle.triple.proofs.DomainLaws.{out_of_domain, in_domain_lem, shallow, positions_are}
use Rattle.triple.proofs.LentLaws.{count_short, count_whole, counted_kept}
use Rattle.fold.specs.Cells.{pairs}
use Rattle.fold.specs.Folds.{all_below, ascending, fold_of, fold_call}
use Rattle.fold.specs.Inside.Blocks.{Listed}
use Rattle.fold.proofs.ListLaws.{is_rising}
use Rattle.fold.proofs.PairLaws.{length_pairs}

-- ---- a call that is refused before its room is asked for
module _ {A : Type 0} (slice : List A) {call : Told (List A)} {n : ℕ} (e : refused n ≡ call) where
  pub refused_count : refused n ≡ count_of call slice
  unfolding count_of
  refused_count = rw (← e)

  pub refused_left : slice ≡ after_call call slice
  refused_left = sym (counted_kept call slice (sym refused_count))

-- ---- the room, of a list that has passed its tests
module _ (r : ℕ) (xs slice : List ℕ) {room : Bool} (room_is : room ≡ leb (length (fold_of r xs)) (length slice / 2)) where
  module _ (h : not room ≡ true) where
    short : length slice < 2 * length (fold_of r xs)
    short = omega (arith, leb-false (length (fold_of r xs)) (length slice / 2) (sym room_is ∙ not-true room h))

    pub short_count : refused (number_of Is.Room) ≡ valued (λ n. n / 2) (count_of (told (pairs (fold_of r xs))) slice)
    short_count = ap (valued (λ n. n / 2)) (count_short (pairs (fold_of r xs)) slice (length_pairs (fold_of r xs)) short).0

    pub short_left : slice ≡ after_call (told (pairs (fold_of r xs))) slice
    short_left = (count_short (pairs (fold_of r xs)) slice (length_pairs (fold_of r xs)) short).1

  module _ (h : not room ≡ false) where
    pub roomy : 2 * length (fold_of r xs) ≤ length slice
    roomy = omega (arith, leb-true (length (fold_of r xs)) (length slice / 2) (sym room_is ∙ not-false room h))

    module _ {n : ℕ} {out : List ℕ} (count_is : n ≡ length (fold_of r xs)) (out_is : out ≡ pairs (fold_of r xs) ++ drop (2 * length (fold_of r xs)) slice) where
      counted : Counted (told (pairs (fold_of r xs))) slice (told (2 * length (fold_of r xs))) out
      counted = count_whole (pairs (fold_of r xs)) slice (length_pairs (fold_of r xs)) roomy out_is

      pub whole_count : told n ≡ valued (λ n. n / 2) (count_of (told (pairs (fold_of r xs))) slice)
      whole_count =
          let half : n ≡ 2 * length (fold_of r xs) / 2 = omega arith in
          ap told half ∙ ap (valued (λ n. n / 2)) counted.0

      pub whole_left : out ≡ after_call (told (pairs (fold_of r xs))) slice
      whole_left = counted.1

pub ruleset folding_room = (short_count, short_left, roomy, whole_count, whole_left)

-- ---- the tests
module _ (o r : ℕ) (xs slice : List ℕ) {a : Result Unit Refusal} (ea : said a ≡ domain_of o r) where
  module _ {e : Refusal} (m : a ≡ Err e) where
    outside : refused (number_of e) ≡ fold_call o r xs
    unfolding fold_call
    outside = out_of_domain o r a ea _ m

    pub outside_count : refused (number_of e) ≡ valued (λ n. n / 2) (count_of (fold_call o r xs) slice)
    outside_count = ap (valued (λ n. n / 2)) (refused_count slice outside)

    pub outside_left : slice ≡ after_call (fold_call o r xs) slice
    outside_left = refused_left slice outside

  module _ (m : a ≡ (Ok tt)) {size : ℕ} (size_is : size ≡ position_count r) {below rising : Bool} (below_is : below ≡ all_below size xs)
      (rising_is : rising ≡ ascending xs) where
    sized : size ≡ 4 ^ r
    sized = positions_are r (shallow o r a ea m) size_is

    module _ (h : not below ≡ true) where
      past : refused (number_of Is.Position) ≡ fold_call o r xs
      unfolding fold_call
      past = let e : all_below (4 ^ r) xs ≡ false = rw (← sized) (sym below_is ∙ not-true below h) in simp e (in_domain_lem o r a ea m _)

      pub past_count : refused (number_of Is.Position) ≡ valued (λ n. n / 2) (count_of (fold_call o r xs) slice)
      past_count = ap (valued (λ n. n / 2)) (refused_count slice past)

      pub past_left : slice ≡ after_call (fold_call o r xs) slice
      past_left = refused_left slice past

    module _ (i : not below ≡ false) where
      inside : all_below (4 ^ r) xs ≡ true
      inside = rw (← sized) (sym below_is ∙ not-false below i)

      module _ (h : not rising ≡ true) where
        unordered : refused (number_of Is.Order) ≡ fold_call o r xs
        unfolding fold_call
        unordered = simp (inside, sym rising_is ∙ not-true rising h) (in_domain_lem o r a ea m _)

        pub unordered_count : refused (number_of Is.Order) ≡ valued (λ n. n / 2) (count_of (fold_call o r xs) slice)
        unordered_count = ap (valued (λ n. n / 2)) (refused_count slice unordered)

        pub unordered_left : slice ≡ after_call (fold_call o r xs) slice
        unordered_left = refused_left slice unordered

      module _ (j : not rising ≡ false) where
        pub listed : Listed r xs
        listed = record { shallow = shallow o r a ea m; inside = inside; rising = is_rising xs rising_is j }

        folded : told (pairs (fold_of r xs)) ≡ fold_call o r xs
        unfolding fold_call
        folded = simp (inside, listed.rising) (in_domain_lem o r a ea m _)

        pub folded_count : {t : Told ℕ} → t ≡ valued (λ n. n / 2) (count_of (told (pairs (fold_of r xs))) slice) → t ≡ valued (λ n. n / 2) (count_of (fold_call o r xs) slice)
        folded_count e = rw (← folded) e

        pub folded_left : {out : List ℕ} → out ≡ after_call (told (pairs (fold_of r xs))) slice → out ≡ after_call (fold_call o r xs) slice
        folded_left e = rw (← folded) e

pub ruleset folding_tests = (outside_count, outside_left, past_count, past_left, unordered_count, unordered_left, listed, folded_count, folded_left)
