-- The room that a report asks for is all that it may take: a list in order, each number once, is no longer than the list; and its fold has no more
-- cells than it has numbers.
use mathlib.Core.Bool.{Bool, true, false, cond, ◌||◌, true≢false}
use mathlib.Core.Path.{◌≡◌, refl, sym, ap, ◌∙◌}
use mathlib.Core.List.{List, [], ◌∷◌}
use Prim.Native.Nat.{ℕ, zero, suc, ◌*◌, ◌^◌, ◌<◌, ◌≤◌}
use native.Mathlib.Omega.{arith}
use native.Mathlib.Decide.{ℕ_discrete}
use lib.Dec.{ltb}
use lib.IntN.{ℤ}
use lib.ListN.{length}
use borrow.Author.Tests.{ltb-false, ne_eqb}
use Rattle.triple.specs.declared.refusal.Refusal.TheVariants as Is
use Rattle.triple.specs.Refusals.{Told, told, refused, refuse, ◌>>=◌}
use Rattle.triple.proofs.RefusalLaws.{never}
use Rattle.fold.specs.Folds.{has, fold_of}
use Rattle.fold.proofs.PairLaws.{length_pairs}
use Rattle.fold.proofs.WalkLaws.{no_more_cells}
use Rattle.area.specs.Areas.{picked}
use Rattle.report.specs.Reports.{triples_in, places_of, in_order, report_call, too_short, report_to}
use Rattle.report.proofs.TripleLaws.{places_length}
use Rattle.report.proofs.SettleLaws.{in_order_has, in_order_up, in_order_below, fold_same}
use Rattle.report.proofs.ReportLaws.{places_below}
use Rattle.report.proofs.CallLaws.{report_given}

-- ---- numbers in order are no more than there were
abbrev many : List ℕ → ℕ → ℕ → ℕ
many xs s n = length (picked (has xs) s n)

-- one number more in front of two lists, or of neither; or of one of them
module _ (s : ℕ) (xs ys : List ℕ) where
  equal : (b : Bool) → length xs ≡ length ys → length (cond b (s ∷ xs) xs) ≡ length (cond b (s ∷ ys) ys)
  equal true e = ap suc e
  equal false e = e

  either : (a b : Bool) → length xs ≡ length ys → length (cond a (s ∷ xs) xs) ≤ suc (length (cond b (s ∷ ys) ys))
  either true true e = omega arith
  either true false e = omega arith
  either false true e = omega arith
  either false false e = omega arith

  both : (b : Bool) → length xs ≤ suc (length ys) → length (cond b (s ∷ xs) xs) ≤ suc (length (cond b (s ∷ ys) ys))
  both true e = omega arith
  both false e = e

module _ (x : ℕ) (xs : List ℕ) where
  other : (s : ℕ) → (x ≡ s → ⊥) → has (x ∷ xs) s ≡ has xs s
  unfolding has
  other s h = rw (ne_eqb x s h) refl

  -- past a number it is not picked
  past : (n s : ℕ) → x < s → many (x ∷ xs) s n ≡ many xs s n
  unfolding picked
  past zero s h = refl
  past (suc n) s h =
      let differ : x ≡ s → ⊥ = (λ e. omega arith) in
      rw (other s differ) (equal s (picked (has (x ∷ xs)) (suc s) n) (picked (has xs) (suc s) n) (has xs s) (past n (suc s) (omega arith)))

  -- so it is picked once at most
  once : (n s : ℕ) → many (x ∷ xs) s n ≤ suc (many xs s n)
  unfolding picked
  once zero s = omega arith
  once (suc n) s = elim (ℕ_discrete x s) [
    | yes e ↦ either s (picked (has (x ∷ xs)) (suc s) n) (picked (has xs) (suc s) n) (has (x ∷ xs) s) (has xs s) (past n (suc s) (omega arith))
    | no h ↦ rw (other s h) (both s (picked (has (x ∷ xs)) (suc s) n) (picked (has xs) (suc s) n) (has xs s) (once n (suc s)))
  ]

none_picked : (n s : ℕ) → picked (has []) s n ≡ []
unfolding picked has
none_picked zero s = refl
none_picked (suc n) s = none_picked n (suc s)

picked_few : (xs : List ℕ) (n s : ℕ) → many xs s n ≤ length xs
picked_few [] n s = rw (none_picked n s) (omega arith)
picked_few (x ∷ xs) n s = omega (arith, once x xs n s, picked_few xs n s)

pub in_order_none : (r : ℕ) → in_order r [] ≡ []
unfolding in_order
in_order_none r = none_picked (4 ^ r) 0

pub in_order_short : (r : ℕ) (xs : List ℕ) → length (in_order r xs) ≤ length xs
unfolding in_order
in_order_short r xs = picked_few xs (4 ^ r) 0

-- ---- a report's pairs
pub report_short : (o r : ℕ) (xs : List ℤ) {area : List ℕ} → report_call o r xs ≡ told area → length area ≤ 2 * length (triples_in xs)
report_short o r xs {area} e =
    let g = report_given o r xs e in
    let places = places_of o r (triples_in xs) in
    let below = places_below o r (triples_in xs) g.oriented g.low g.bounded in
    let same : fold_of r (in_order r places) ≡ fold_of r places = fold_same (in_order r places) places (in_order_has r places below) r in
    let long : length area ≡ 2 * length (fold_of r (in_order r places)) = ap length g.as_pairs ∙ length_pairs (fold_of r places) ∙ ap (λ (l : List _). 2 * length l) (sym same) in
    omega (arith, long, no_more_cells r (in_order r places) (in_order_below r places below) (in_order_up r places below), in_order_short r places, places_length o r (triples_in xs))

-- WHAT IT WRITES always has its room: behind the report's own tests none refuses
pub report_fits : (o r : ℕ) (xs : List ℤ) (work out : List ℕ) {area : List ℕ} → report_to o r xs work out ≡ told area → length area ≤ length out
unfolding report_to too_short
report_fits o r xs work out {area} e = by_call (report_call o r xs) refl e
  where
    room : (a b : Bool) → (a || b) ≡ false → b ≡ false
    room true b e = absurd (true≢false e)
    room false b e = e

    same : {x y : List ℕ} → told x ≡ told y → x ≡ y
    same e = cc

    by_room : (values : List ℕ) → report_call o r xs ≡ told values → (short : Bool) → too_short xs work out ≡ short → refuse short Is.Room (told values) ≡ told area → length area ≤ length out
    by_room values is true s e = never e
    by_room values is false s e =
        omega (arith, ap length (same e), report_short o r xs is, ltb-false (length out) (2 * length (triples_in xs)) (room (ltb (length work) (length (triples_in xs))) (ltb (length out) (2 * length (triples_in xs))) s))

    by_call : (call : Told (List ℕ)) → report_call o r xs ≡ call → (call >>= λ values. refuse (too_short xs work out) Is.Room (told values)) ≡ told area → length area ≤ length out
    by_call (told values) is e = by_room values is (too_short xs work out) refl e
    by_call (refused n) is e = never e
