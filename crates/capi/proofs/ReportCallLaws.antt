-- A report's status and its slices, by what the operation answers that was lent all of the pairs or, where the count has no place, none of them.
use mathlib.Core.Path.{◌≡◌, refl, sym, ap, ◌∙◌}
use mathlib.Core.Logic.{⊎_elim}
use mathlib.Core.Bool.{Bool, true, false, cond, ◌||◌, true≢false}
use mathlib.Core.List.{List, [], ◌∷◌, ◌++◌}
use Prim.Native.Nat.{ℕ, ◌*◌, ◌/◌, ◌≤◌}
use native.Mathlib.Nat.{eq-zero-or-pos}
use native.Mathlib.Omega.{arith}
use lib.Dec.{ltb}
use lib.IntN.{ℤ}
use lib.ListN.{length, take, drop}
use lib.Seq.{take-length}
use borrow.Author.Tests.{le-ltb, ltb-false}
use Rattle.triple.specs.declared.Triple.{Triple}
use Rattle.triple.specs.declared.refusal.Refusal.TheVariants.{Room}
use Rattle.triple.specs.Refusals.{Told, told, refused, refuse, ◌>>=◌}
use Rattle.triple.specs.Lent.{valued, count_of, status_of, after_call, Called, first_of, second_of, CalledBoth, counting}
use Rattle.triple.proofs.LentLaws.{lent_told, lent_refused}
use Rattle.report.specs.Reports.{triples_in, places_of, settled, report_call, too_short, report_to, work_to}
use Rattle.report.proofs.RoomLaws.{in_order_none}
use Rattle.capi.specs.AreaCalls.{reported_call, reported_work, ReportCalled}

-- ---- a count without a place
module _ {A : Type 0} (f : ℕ → ℕ) (out : List ℕ) (none : length out ≡ 0) where
  -- a test of room before it makes no difference
  room_either : (call : Told (List A)) (short : Bool) → first_of (counting f (call >>= λ values. refuse short Room (told values))) out ≡ first_of (counting f call) out
  unfolding first_of
  room_either (told values) true = rw none refl
  room_either (told values) false = refl
  room_either (refused n) short = refl

  -- nothing is written to either slice
  uncounted : (call : Told (List A)) (slice : List A) → after_call (second_of (counting f call) slice) out ≡ out
  unfolding second_of after_call
  uncounted (told values) slice = go (ltb (length slice) (length values))
    where
      go : (short : Bool) → after_call (refuse short Room (told (f (length values) ∷ []))) out ≡ out
      go true = refl
      go false = rw none refl
  uncounted (refused n) slice = refl

  unvalued : {B : Type 0} (values : List A → List B) (call : Told (List A)) (slice : List B) → after_call (valued values (first_of (counting f call) out)) slice ≡ slice
  unfolding first_of after_call
  unvalued values (told area) slice = rw none refl
  unvalued values (refused n) slice = refl

-- and one with its place
placed : {A : Type 0} (f : ℕ → ℕ) (out : List ℕ) → 1 ≤ length out → (call : Told (List A)) → first_of (counting f call) out ≡ call
unfolding first_of
placed f out h (told values) = rw (le-ltb (length out) 1 h) refl
placed f out h (refused n) = refl

-- ---- no triples
settled_none : (r : ℕ) → settled r [] ≡ []
unfolding settled
settled_none r = rw (in_order_none r) refl

kept_by_none : (slice : List ℕ) → after_call (told []) slice ≡ slice
unfolding after_call
kept_by_none slice = go (ltb (length slice) 0)
  where
    go : (b : Bool) → cond b slice slice ≡ slice
    go true = refl
    go false = refl

-- a report without room for any pair leaves work as it was: it is refused, or there is nothing to report
module _ (o r : ℕ) (xs : List ℤ) (work : List ℕ) where
  unworked : after_call (work_to o r xs work []) work ≡ work
  unfolding work_to report_to too_short places_of after_call
  unworked = by_call (report_call o r xs)
    where
      no_pairs : (ts : List Triple) (long : Bool) → (long || ltb 0 (2 * length ts)) ≡ false → settled r (places_of o r ts) ≡ []
      no_pairs [] long e = settled_none r
      no_pairs (t ∷ ts) true e = absurd (true≢false e)
      no_pairs (t ∷ ts) false e = let none : ⊥ = omega (arith, ltb-false 0 (2 * length (t ∷ ts)) e) in absurd none

      by_room : (short : Bool) → too_short xs work [] ≡ short → (area : List ℕ) → after_call (valued (λ area. settled r (places_of o r (triples_in xs))) (refuse short Room (told area))) work ≡ work
      by_room true e area = refl
      by_room false e area = rw (no_pairs (triples_in xs) (ltb (length work) (length (triples_in xs))) e) (kept_by_none work)

      by_call : (call : Told (List ℕ)) → after_call (valued (λ area. settled r (places_of o r (triples_in xs))) (call >>= λ area. refuse (too_short xs work []) Room (told area))) work ≡ work
      by_call (told area) = by_room (too_short xs work []) refl area
      by_call (refused n) = refl

-- ---- all slices, by what the operation was lent
module _ (o r : ℕ) (xs : List ℤ) (work slice out : List ℕ) {n : ℕ} (within : n ≤ length slice) (lent : n ≡ cond (ltb (length out) 1) 0 (length slice)) where
  abbrev half : ℕ → ℕ
  half k = k / 2

  abbrev lent_call : Told (List ℕ)
  lent_call = report_to o r xs work (take n slice)

  all_lent : 1 ≤ length out → take n slice ≡ slice
  all_lent h = let e : n ≡ length slice = lent ∙ rw (le-ltb (length out) 1 h) refl in ap (λ (k : ℕ). take k slice) e ∙ take-length slice

  none_lent : length out ≡ 0 → take n slice ≡ []
  none_lent z = let e : n ≡ 0 = lent ∙ rw z refl in ap (λ (k : ℕ). take k slice) e

  same_first : first_of (counting half lent_call) out ≡ first_of (reported_call o r xs work slice) out
  unfolding report_to
  same_first =
      ⊎_elim
      (λ z. room_either half out z (report_call o r xs) (too_short xs work (take n slice)) ∙ sym (room_either half out z (report_call o r xs) (too_short xs work slice)))
      (λ h. rw (all_lent h) refl)
      (eq-zero-or-pos (length out))

  same_second : after_call (second_of (counting half lent_call) slice) out ≡ after_call (second_of (reported_call o r xs work slice) slice) out
  same_second =
      ⊎_elim
      (λ z. uncounted half out z lent_call slice ∙ sym (uncounted half out z (report_to o r xs work slice) slice))
      (λ h. rw (all_lent h) refl)
      (eq-zero-or-pos (length out))

  same_work : after_call (work_to o r xs work (take n slice)) work ≡ after_call (reported_work o r xs work slice out) work
  unfolding work_to
  same_work =
      ⊎_elim
      (λ z. ap (λ (l : List ℕ). after_call (work_to o r xs work l) work) (none_lent z) ∙ unworked o r xs work ∙ sym (unvalued half out z (λ area. settled r (places_of o r (triples_in xs))) (report_to o r xs work slice) work))
      (λ h. rw (all_lent h, placed half out h (report_to o r xs work slice)) refl)
      (eq-zero-or-pos (length out))

  whole : {status : ℕ} {x y w : List ℕ} → CalledBoth (counting half lent_call) slice out status x y → w ≡ after_call (work_to o r xs work (take n slice)) work → ReportCalled o r xs work slice out status x y w
  whole c e = (
    c.0 ∙ ap (λ (t : Told (List ℕ)). status_of t slice) same_first,
    c.1 ∙ ap (λ (t : Told (List ℕ)). after_call t slice) same_first,
    c.2 ∙ same_second,
    e ∙ same_work,
  )

  module _ {given : Told ℕ} (answers : given ≡ valued half (count_of lent_call (take n slice))) {after : List ℕ} (leaves : after ≡ after_call lent_call (take n slice)) {w : List ℕ} (works : w ≡ after_call (work_to o r xs work (take n slice)) work) where
    pub report_told : {k : ℕ} → given ≡ told k → {status : ℕ} {counted : List ℕ} → Called (told (k ∷ [])) out status counted → ReportCalled o r xs work slice out status (after ++ drop n slice) counted w
    report_told g c = whole (lent_told slice out within lent lent_call half answers leaves g c) works

    pub report_refused : {e : ℕ} → given ≡ refused e → {status : ℕ} → status ≡ e → ReportCalled o r xs work slice out status (after ++ drop n slice) out w
    report_refused g p = whole (lent_refused slice out within lent lent_call half answers leaves g p) works
