-- What is true of reports as calls: what they cover, and that neither order nor repetition matters.
use mathlib.Core.Bool.{Bool, true, false, not, ◌||◌, false≢true}
use mathlib.Core.Logic.{◌↔◌}
use mathlib.Core.Path.{◌≡◌, refl, sym, ap, subst, ◌∙◌}
use mathlib.Core.List.Memᴰ
use mathlib.Core.List.{List, [], ◌∷◌, Memᴰ}
use mathlib.Core.Logic.{⊎_elim}
use Prim.Native.Nat.{ℕ, ◌+◌, ◌-◌, ◌%◌, ◌≤◌}
use native.Mathlib.Omega.{arith}
use native.Mathlib.Decide.{ℕ_discrete}
use lib.Dec.{ltb, eqb}
use lib.IntN.{ℤ}
use lib.ListN.{length}
use borrow.Author.Tests.{ltb-false, eq-eqb, ne_eqb, not-false}
use Rattle.triple.specs.declared.Triple.{Triple}
use Rattle.triple.specs.declared.refusal.Refusal.TheVariants as Is
use Rattle.triple.specs.Refusals.{told}
use Rattle.triple.specs.Triples.{good_sum, is_in_bounds}
use Rattle.triple.proofs.RefusalLaws.{passed}
use Rattle.lsystem.specs.Cells.{position_of}
use Rattle.fold.specs.Cells.{Covered, pairs, cells_in}
use Rattle.fold.specs.Folds.{has, fold_of}
use Rattle.fold.specs.Foldings.{Lone}
use Rattle.fold.proofs.PairLaws.{cells_of_pairs}
use Rattle.fold.proofs.Ground.{same_ground}
use Rattle.fold.proofs.Siblings.{no_four_siblings}
use Rattle.fold.specs.Inside.Pairs.{Laid}
use Rattle.fold.proofs.GivenBack.{fold_laid}
use Rattle.fold.proofs.PairTestLaws.{laid_finer}
use Rattle.area.proofs.Accepted.{Area, pairs_area}
use Rattle.area.proofs.Made.{agree}
use Rattle.report.specs.Reports.{triples_in, every, place_in, places_of, in_order, report_call}
use Rattle.report.proofs.SettleLaws.{in_order_has, in_order_up, in_order_below, fold_same}
use Rattle.report.proofs.ReportLaws.{places_below}

-- ---- what is told has passed every test
told_same : {A : Type 0} {x y : A} → told x ≡ told y → x ≡ y
told_same e = cc

pub record Given (o r : ℕ) (xs : List ℤ) (out : List ℕ) : Type 0 where
  pub low : r ≤ 30
  pub oriented : o ≤ 5
  pub bounded : every (is_in_bounds r) (triples_in xs) ≡ true
  pub as_pairs : out ≡ pairs (fold_of r (places_of o r (triples_in xs)))

pub report_given : (o r : ℕ) (xs : List ℤ) {out : List ℕ} → report_call o r xs ≡ told out → Given o r xs out
unfolding report_call
report_given o r xs e =
    let deep = passed (ltb 30 r) Is.Resolution e in
    let side = passed (ltb 5 o) Is.Orientation deep.1 in
    let sums = passed (not (every good_sum (triples_in xs))) Is.Sum side.1 in
    let bounds = passed (not (every (is_in_bounds r) (triples_in xs))) Is.Bounds sums.1 in
    let order = passed (not (eqb (length xs % 3) 0)) Is.Order bounds.1 in
    record {
      low = ltb-false 30 r deep.0;
      oriented = ltb-false 5 o side.0;
      bounded = not-false (every (is_in_bounds r) (triples_in xs)) bounds.0;
      as_pairs = sym (told_same order.1);
    }

-- ---- the positions of triples, by the triples
pub places_member : (o r : ℕ) (ts : List Triple) (t : Triple) → Memᴰ t ts → has (places_of o r ts) (place_in (position_of o r t)) ≡ true
unfolding places_of has
places_member o r [] t m = absurd (Memᴰ.not-nil m)
places_member o r (u ∷ ts) t m =
    ⊎_elim
    (λ (e : t ≡ u). rw (eq-eqb (place_in (position_of o r u)) (place_in (position_of o r t)) (ap (λ (v : Triple). place_in (position_of o r v)) (sym e))) refl)
    (λ k. or_right (eqb (place_in (position_of o r u)) (place_in (position_of o r t))) (places_member o r ts t k))
    (Memᴰ.cases_cons m)
  where
    or_right : (a : Bool) {b : Bool} → b ≡ true → (a || b) ≡ true
    or_right true e = refl
    or_right false e = e

pub member_places : (o r : ℕ) (ts : List Triple) (s : ℕ) → has (places_of o r ts) s ≡ true → (t : Triple) × Memᴰ t ts × (place_in (position_of o r t) ≡ s)
unfolding places_of has
member_places o r [] s e = absurd (false≢true e)
member_places o r (u ∷ ts) s e = elim (ℕ_discrete (place_in (position_of o r u)) s) [
  | yes q ↦ (u, Memᴰ.head refl, q)
  | no q ↦ (let i = member_places o r ts s (rw (ne_eqb (place_in (position_of o r u)) s q) at e) in (i.0, Memᴰ.tail i.1, i.2))
]

-- ---- what a report covers, at its own resolution: the positions of its triples and no others
pub report_ground : (o r : ℕ) (xs : List ℤ) {out : List ℕ} → report_call o r xs ≡ told out → (s : ℕ) → Covered r (cells_in out) s ↔ ((t : Triple) × Memᴰ t (triples_in xs) × (place_in (position_of o r t) ≡ s))
report_ground o r xs {out} e s =
    let g = report_given o r xs e in
    let places = places_of o r (triples_in xs) in
    let cells : cells_in out ≡ fold_of r places = ap cells_in g.as_pairs ∙ cells_of_pairs (fold_of r places) in
    let ground = same_ground r places (places_below o r (triples_in xs) g.oriented g.low g.bounded) s in
    rw cells ((λ c. member_places o r (triples_in xs) s (ground.0 c)), λ m. ground.1 (rw m.2 at (places_member o r (triples_in xs) m.0 m.1)))

pub report_lone : (o r : ℕ) (xs : List ℤ) {out : List ℕ} → report_call o r xs ≡ told out → Lone (cells_in out)
report_lone o r xs {out} e =
    let g = report_given o r xs e in
    let places = places_of o r (triples_in xs) in
    let cells : cells_in out ≡ fold_of r places = ap cells_in g.as_pairs ∙ cells_of_pairs (fold_of r places) in
    rw cells (no_four_siblings r places)

-- it is an area: a fold has the cells of its list in order, and so has it of the positions in order
pub report_area : (o r : ℕ) (xs : List ℤ) {out : List ℕ} → report_call o r xs ≡ told out → Area out
report_area o r xs {out} e =
    let g = report_given o r xs e in
    let places = places_of o r (triples_in xs) in
    let below = places_below o r (triples_in xs) g.oriented g.low g.bounded in
    let same : fold_of r (in_order r places) ≡ fold_of r places = fold_same (in_order r places) places (in_order_has r places below) r in
    let laid : Laid r 0 (fold_of r (in_order r places)) = fold_laid r (in_order r places) (in_order_below r places below) (in_order_up r places below) in
    let low = g.low in
    let up : r + (30 - r) ≡ 30 = omega arith in
    let fine : Laid 30 0 (fold_of r (in_order r places)) = subst (λ (n : ℕ). Laid n 0 (fold_of r (in_order r places))) up (laid_finer r (30 - r) (fold_of r (in_order r places)) laid) in
    let is : out ≡ pairs (fold_of r (in_order r places)) = g.as_pairs ∙ ap pairs (sym same) in
    rw is (pairs_area (fold_of r (in_order r places)) fine)

-- NEITHER ORDER NOR REPETITION MATTERS
pub report_same : (o r : ℕ) (xs ys : List ℤ) {a b : List ℕ} → report_call o r xs ≡ told a → report_call o r ys ≡ told b
    → ((t : Triple) → Memᴰ t (triples_in xs) ↔ Memᴰ t (triples_in ys)) → a ≡ b
report_same o r xs ys ea eb same =
    let x = places_of o r (triples_in xs) in
    let y = places_of o r (triples_in ys) in
    let there : (s : ℕ) → has x s ≡ true → has y s ≡ true = λ s h. (let m = member_places o r (triples_in xs) s h in rw m.2 at (places_member o r (triples_in ys) m.0 ((same m.0).0 m.1))) in
    let back : (s : ℕ) → has y s ≡ true → has x s ≡ true = λ s h. (let m = member_places o r (triples_in ys) s h in rw m.2 at (places_member o r (triples_in xs) m.0 ((same m.0).1 m.1))) in
    (report_given o r xs ea).as_pairs ∙ ap pairs (fold_same x y (λ s. agree (has x s) (has y s) (there s) (back s)) r) ∙ sym (report_given o r ys eb).as_pairs
