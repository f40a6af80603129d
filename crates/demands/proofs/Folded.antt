-- FOLDING AND UNFOLDING: `fold`'s laws of the cells and of the two calls, each of which undoes the other.
use mathlib.Core.Path.{◌≡◌, refl, sym, ap, subst, ◌∙◌}
use mathlib.Core.List.{List}
use Prim.Native.Nat.{ℕ, ◌/◌, ◌≤◌}
use native.Mathlib.Omega.{arith}
use native.Mathlib.Decide.{dec_lt}
use lib.ListN.{length, take, drop}
use lib.Seq.{take_at, drop_at}
use Rattle.whole.proofs.Fill.{fronted}
use Rattle.triple.specs.Refusals.{Told, told}
use Rattle.triple.specs.Lent.{valued, count_of, after_call}
use Rattle.triple.proofs.LentLaws.{count_short, count_whole}
use Rattle.fold.specs.Cells.{Cell, cells_in}
use Rattle.fold.specs.Folds.{fold_of, fold_call}
use Rattle.fold.specs.Unfolds.{unfold_call}
use Rattle.fold.specs.Foldings.{cells_of, Foldings, Lone}
use Rattle.fold.proofs.PairLaws.{length_pairs}
use Rattle.fold.proofs.PairTestLaws.{laid_apart}
use Rattle.fold.proofs.GivenBack.{fold_laid}
use Rattle.fold.proofs.Ground.{same_ground}
use Rattle.fold.proofs.Siblings.{no_four_siblings}
use Rattle.fold.proofs.FoldingLaws.{folding_reaches, folding_ends, step_shorter}
use Rattle.fold.proofs.UnfoldedLists.{unfold_ascending}
use Rattle.fold.proofs.CallLaws.{folded, folded_shortest, unfolded, folded_unfolds, folded_only, unfolded_folds, unfolded_ground}
use Rattle.demands.specs.Demands.{Folding, Unfolding}

-- ---- a call that gives these values, lent a slice
module _ {A : Type 0} (call : Told (List A)) (values slice : List A) (gives : call ≡ told values) where
  counted : length values ≤ length slice → count_of call slice ≡ told (length values)
  counted h = rw gives (sym (count_whole values slice refl h {after = fronted values slice} refl).0)

  in_front : length values ≤ length slice → take (length values) (after_call call slice) ≡ values
  in_front h = rw (gives, ← (count_whole values slice refl h {after = fronted values slice} refl).1) (take_at values _ (length values) refl)

  behind : drop (length values) (after_call call slice) ≡ drop (length values) slice
  behind = elim (dec_lt (length slice) (length values)) [
    | yes h ↦ rw (gives, ← (count_short values slice refl h).1) refl
    | no h ↦ rw (gives, ← (count_whole values slice refl (omega arith) {after = fronted values slice} refl).1) (drop_at values _ (length values) refl)
  ]

-- ---- the two calls
module _ (o r : ℕ) (positions pairs : List ℕ) (e : fold_call o r positions ≡ told pairs) where
  pub folding : Folding o r positions pairs
  folding =
      let f = folded o r positions e in
      let half : length pairs / 2 ≡ length (cells_in pairs) = omega (arith, ap length f.as_pairs, length_pairs (fold_of r positions), ap length f.cells) in
      record {
        paired = omega (arith, ap length f.as_pairs, length_pairs (fold_of r positions));
        count = λ slice h. ap (valued (λ n. n / 2)) (counted (fold_call o r positions) pairs slice e h) ∙ ap told half;
        front = λ slice. in_front (fold_call o r positions) pairs slice e;
        past = λ slice. behind (fold_call o r positions) pairs slice e;
        ground = λ s. rw f.cells (same_ground r positions f.below s);
        siblings = subst Lone (sym f.cells) (no_four_siblings r positions);
        shortest = λ q h cells same. rw f.cells (folded_shortest r positions f.below f.rising q h cells (λ s. rw f.cells at (same s)));
        order = rw f.cells (laid_apart r 0 (fold_of r positions) (fold_laid r positions f.below f.rising));
        back = folded_unfolds o r positions e;
        only = folded_only o r positions e;
        reached = subst (λ (c : List Cell). Foldings c (cells_of r positions)) (sym f.cells) (folding_reaches r positions f.below f.rising);
        ends = λ last t none. rw f.cells (folding_ends r positions f.below f.rising last t none);
        shorter = step_shorter;
      }

module _ (o r : ℕ) (pairs positions : List ℕ) (e : unfold_call o r pairs ≡ told positions) where
  pub unfolds : Unfolding o r pairs positions
  unfolds =
      let u = unfolded o r pairs e in
      record {
        count = λ slice. counted (unfold_call o r pairs) positions slice e;
        front = λ slice. in_front (unfold_call o r pairs) positions slice e;
        past = λ slice. behind (unfold_call o r pairs) positions slice e;
        ground = unfolded_ground o r pairs e;
        order = rw u.positions (unfold_ascending r 0 (cells_in pairs) u.laid);
        back = unfolded_folds o r pairs e;
      }
