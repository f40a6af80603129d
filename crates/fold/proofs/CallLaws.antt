-- The calls: what they give has passed every test, no shorter list covers what a fold covers, and each call undoes the other.
use mathlib.Core.Bool.{true, not}
use mathlib.Core.Logic.{◌↔◌}
use mathlib.Core.Path.{◌≡◌, refl, sym, ap, subst, ◌∙◌}
use mathlib.Core.List.{List, [], ◌∷◌}
use Prim.Native.Nat.{ℕ, suc, ◌+◌, ◌*◌, ◌-◌, ◌%◌, ◌^◌, ◌≤◌}
use native.Mathlib.Omega.{arith}
use lib.Dec.{ltb, eqb}
use lib.ListN.{length}
use borrow.Author.Tests.{le-ltb, ltb-false, eq-eqb, eqb-true, not-false}
use Rattle.triple.specs.declared.refusal.Refusal.TheVariants as Is
use Rattle.triple.specs.Refusals.{told}
use Rattle.triple.proofs.RefusalLaws.{passed}
use Rattle.triple.proofs.DomainLaws.{domain_in}
use Rattle.fold.specs.Cells.{Cell, cell, pairs, cells_in, Covered}
use Rattle.fold.specs.Folds.{has, all_below, ascending, fold_of, fold_call}
use Rattle.fold.specs.Unfolds.{shallow, inside, apart, ordered, unfold_of, unfold_call}
use Rattle.fold.specs.Foldings.{Lone}
use Rattle.fold.specs.Inside.Pairs.{Laid}
use Rattle.whole.proofs.Bools.{both_true}
use Rattle.fold.proofs.PairLaws.{length_pairs, cells_of_pairs, pairs_of_cells}
use Rattle.fold.proofs.PairTestLaws.{laid_shallow, laid_inside, laid_apart, laid_finer, ordered_laid}
use Rattle.fold.proofs.GivenBack.{unfold_fold, fold_empty, fold_laid}
use Rattle.fold.proofs.Siblings.{no_four_siblings}
use Rattle.fold.proofs.Shortest.{shortest}
use Rattle.fold.proofs.Unique.{Coarse, only_fold, lone_ended}
use Rattle.fold.proofs.UnfoldedLists.{unfold_below, unfold_ascending, unfold_ground}

same_told : {A : Type 0} {a b : A} → told a ≡ told b → a ≡ b
same_told e = cc

coarse_laid : (r place : ℕ) (cells : List Cell) → Laid r place cells → Coarse r cells
coarse_laid r place [] l = tt
coarse_laid r place (cell m p ∷ cells) l = (l.0, coarse_laid r (suc p * 4 ^ (r - m)) cells l.3)

-- ---- folding
-- a list that was folded
pub record Folded (o r : ℕ) (xs out : List ℕ) : Type 0 where
  pub low : r ≤ 30
  pub oriented : o ≤ 5
  pub below : all_below (4 ^ r) xs ≡ true
  pub rising : ascending xs ≡ true
  pub cells : cells_in out ≡ fold_of r xs
  pub as_pairs : out ≡ pairs (fold_of r xs)

pub folded : (o r : ℕ) (xs : List ℕ) {out : List ℕ} → fold_call o r xs ≡ told out → Folded o r xs out
unfolding fold_call
folded o r xs e =
    let deep = passed (ltb 30 r) Is.Resolution e in
    let turned = passed (ltb 5 o) Is.Orientation deep.1 in
    let past = passed (not (all_below (4 ^ r) xs)) Is.Position turned.1 in
    let mixed = passed (not (ascending xs)) Is.Order past.1 in
    let same = sym (same_told mixed.1) in
    record {
      low = ltb-false 30 r deep.0;
      oriented = ltb-false 5 o turned.0;
      below = not-false (all_below (4 ^ r) xs) past.0;
      rising = not-false (ascending xs) mixed.0;
      cells = ap cells_in same ∙ cells_of_pairs (fold_of r xs);
      as_pairs = same;
    }

pub fold_told : (o r : ℕ) (xs : List ℕ) → r ≤ 30 → o ≤ 5 → all_below (4 ^ r) xs ≡ true → ascending xs ≡ true → fold_call o r xs ≡ told (pairs (fold_of r xs))
unfolding fold_call
fold_told o r xs h k below rising = simp (below, rising) (sym (domain_in o r _ h k))

-- THE EMPTY LIST folds to the empty list
pub empty_folds : (o r : ℕ) → o ≤ 5 → r ≤ 30 → fold_call o r [] ≡ told []
unfolding all_below ascending pairs
empty_folds o r k h = fold_told o r [] h k refl refl ∙ ap (λ (l : List Cell). told (pairs l)) (fold_empty r)

-- NO SHORTER LIST of cells covers the same ground, told by the positions of any resolution from r up: so it may have cells finer than r
pub folded_shortest : (r : ℕ) (xs : List ℕ) → all_below (4 ^ r) xs ≡ true → ascending xs ≡ true → (q : ℕ) → r ≤ q → (cells : List Cell)
    → ((s : ℕ) → Covered q cells s ↔ Covered q (fold_of r xs) s) → length (fold_of r xs) ≤ length cells
folded_shortest r xs below rising q h cells same =
    let fold = fold_of r xs in
    let fine : r + (q - r) ≡ q = omega arith in
    let laid : Laid q 0 fold = rw fine at (laid_finer r (q - r) fold (fold_laid r xs below rising)) in
    let all = unfold_of q fold in
    let only : fold ≡ fold_of q all =
    only_fold q all (unfold_ascending q 0 fold laid) (unfold_below q 0 fold laid) fold (coarse_laid q 0 fold laid) refl (lone_ended fold (no_four_siblings r xs)) in
    let ground : (s : ℕ) → Covered q cells s ↔ (has all s ≡ true) =
    λ s. (let c = unfold_ground q s fold laid in (λ k. c.0 ((same s).0 k), λ k. (same s).1 (c.1 k))) in
    omega (arith, ap length only, shortest q all cells ground)

-- ---- unfolding
-- pairs that were unfolded
pub record Unfolded (o r : ℕ) (xs out : List ℕ) : Type 0 where
  pub low : r ≤ 30
  pub oriented : o ≤ 5
  pub even : length xs % 2 ≡ 0
  pub laid : Laid r 0 (cells_in xs)
  pub positions : out ≡ unfold_of r (cells_in xs)

pub unfolded : (o r : ℕ) (xs : List ℕ) {out : List ℕ} → unfold_call o r xs ≡ told out → Unfolded o r xs out
unfolding unfold_call ordered
unfolded o r xs e =
    let cells = cells_in xs in
    let deep = passed (ltb 30 r) Is.Resolution e in
    let fine = passed (not (shallow r cells)) Is.Resolution deep.1 in
    let turned = passed (ltb 5 o) Is.Orientation fine.1 in
    let past = passed (not (inside cells)) Is.Position turned.1 in
    let mixed = passed (not (ordered r xs)) Is.Order past.1 in
    let tidy = not-false (ordered r xs) mixed.0 in
    record {
      low = ltb-false 30 r deep.0;
      oriented = ltb-false 5 o turned.0;
      even = eqb-true (length xs % 2) 0 (both_true (eqb (length xs % 2) 0) (apart r 0 cells) tidy).0;
      laid = ordered_laid r xs (not-false (shallow r cells) fine.0) (not-false (inside cells) past.0) tidy;
      positions = sym (same_told mixed.1);
    }

pub unfold_told : (o r : ℕ) (xs : List ℕ) → r ≤ 30 → o ≤ 5 → length xs % 2 ≡ 0 → Laid r 0 (cells_in xs) → unfold_call o r xs ≡ told (unfold_of r (cells_in xs))
unfolding unfold_call ordered
unfold_told o r xs h k even laid =
    simp
    (le-ltb 30 r h, laid_shallow r 0 (cells_in xs) laid, le-ltb 5 o k, laid_inside r 0 (cells_in xs) laid, eq-eqb (length xs % 2) 0 even, laid_apart r 0 (cells_in xs) laid)

-- ---- UNFOLDING WHAT WAS FOLDED gives the list back
pub folded_unfolds : (o r : ℕ) (xs : List ℕ) {out : List ℕ} → fold_call o r xs ≡ told out → unfold_call o r out ≡ told xs
folded_unfolds o r xs {out} e =
    let f = folded o r xs e in
    let even : length out % 2 ≡ 0 = omega (arith, ap length f.as_pairs, length_pairs (fold_of r xs)) in
    let laid : Laid r 0 (cells_in out) = subst (Laid r 0) (sym f.cells) (fold_laid r xs f.below f.rising) in
    unfold_told o r out f.low f.oriented even laid ∙ ap told (ap (unfold_of r) f.cells ∙ unfold_fold r xs f.below f.rising)

-- ---- FOLDING WHAT WAS UNFOLDED gives the pairs back, where no four siblings stand in them
pub unfolded_folds : (o r : ℕ) (xs : List ℕ) {out : List ℕ} → unfold_call o r xs ≡ told out → Lone (cells_in xs) → fold_call o r out ≡ told xs
unfolded_folds o r xs {out} e lone =
    let u = unfolded o r xs e in
    let below : all_below (4 ^ r) out ≡ true = rw u.positions (unfold_below r 0 (cells_in xs) u.laid) in
    let rising : ascending out ≡ true = rw u.positions (unfold_ascending r 0 (cells_in xs) u.laid) in
    let only : cells_in xs ≡ fold_of r out =
    only_fold r out rising below (cells_in xs) (coarse_laid r 0 (cells_in xs) u.laid) (sym u.positions) (lone_ended (cells_in xs) lone) in
    fold_told o r out u.low u.oriented below rising ∙ ap told (ap pairs (sym only) ∙ pairs_of_cells xs u.even)

-- so no other pairs without four siblings unfold to the list
pub folded_only : (o r : ℕ) (xs : List ℕ) {out : List ℕ} → fold_call o r xs ≡ told out → (ys : List ℕ) → unfold_call o r ys ≡ told xs → Lone (cells_in ys) → ys ≡ out
folded_only o r xs e ys u lone = same_told (sym (unfolded_folds o r ys u lone) ∙ e)

-- ---- what was unfolded covers the same
pub unfolded_ground : (o r : ℕ) (xs : List ℕ) {out : List ℕ} → unfold_call o r xs ≡ told out → (s : ℕ) → Covered r (cells_in xs) s ↔ (has out s ≡ true)
unfolded_ground o r xs e s = let u = unfolded o r xs e in rw u.positions (unfold_ground r s (cells_in xs) u.laid)
