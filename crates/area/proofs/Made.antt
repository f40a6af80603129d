-- What an operation makes of two areas: the area of the positions that it keeps, folded. Two folded areas that cover the same ground are the same list.
use mathlib.Core.Bool.{Bool, true, false, ◌||◌, false≢true}
use mathlib.Core.Logic.{◌↔◌, ◌⊎◌, inl, inr, ⊎_elim}
use mathlib.Core.Path.{◌≡◌, refl, sym, ap, ap₂, ◌∙◌}
use mathlib.Core.List.{List, [], ◌∷◌}
use Prim.Native.Nat.{ℕ, suc, ◌-◌, ◌*◌, ◌/◌, ◌^◌, ◌≤◌}
use native.Mathlib.Nat as N
use native.Mathlib.Omega.{arith}
use lib.Dec.{eqb}
use lib.ListN.{length}
use borrow.Author.Tests.{eq-eqb, eqb-true}
use Rattle.fold.specs.Cells.{Cell, cell, Covered}
use Rattle.fold.specs.Folds.{has, fold_of}
use Rattle.fold.specs.Inside.Pairs.{Laid}
use Rattle.area.specs.Areas.{held, kept, picked, keeps, made}
use Rattle.fold.specs.Foldings.{Lone}
use Rattle.fold.proofs.Unique.{Coarse, only_fold, lone_ended}
use Rattle.fold.proofs.Ground.{same_ground}
use Rattle.fold.proofs.Siblings.{no_four_siblings}
use Rattle.fold.proofs.Shortest.{shortest}
use Rattle.fold.proofs.PairTestLaws.{ends_inside}
use Rattle.area.specs.declared.operation.Operation.{Operation}
use Rattle.area.proofs.CellLaws.{after_cell}
use Rattle.area.proofs.PickLaws.{picked_up, picked_below, picked_tells, picked_same, unfold_picked}
use Rattle.area.proofs.Along.{Along, fold_along, along_laid}

-- two answers that are true together are one
pub agree : (x y : Bool) → (x ≡ true → y ≡ true) → (y ≡ true → x ≡ true) → x ≡ y
agree true y f g = sym (f refl)
agree false true f g = g refl
agree false false f g = refl

module _ (r : ℕ) where
  -- ---- what cells hold
  pub coarse : (place : ℕ) (cells : List Cell) → Laid r place cells → Coarse r cells
  coarse place [] l = tt
  coarse place (cell m p ∷ cells) l = (l.0, coarse (suc p * 4 ^ (r - m)) cells l.3)

  pub laid_past : (place : ℕ) (cells : List Cell) → Laid r place cells → (s : ℕ) → 4 ^ r ≤ s → held r cells s ≡ false
  unfolding held
  laid_past place [] l s h = refl
  laid_past place (cell m p ∷ cells) l s h =
      let e = ends_inside r m p l.0 l.1 in rw (after_cell (r - m) p s (omega arith)) (laid_past (suc p * 4 ^ (r - m)) cells l.3 s h)

  pub covered_held : (cells : List Cell) → Coarse r cells → (s : ℕ) → Covered r cells s ↔ (held r cells s ≡ true)
  unfolding held
  covered_held [] l s = ((λ c. absurd c), λ h. absurd (false≢true h))
  covered_held (cell m p ∷ cells) l s =
      let rest = covered_held cells l.1 s in
      (⊎_elim (λ c. rw (eq-eqb (s / 4 ^ (r - m)) p c.1)) (λ c. orr (eqb (s / 4 ^ (r - m)) p) (held r cells s) (rest.0 c)), λ h. ⊎_elim (λ e. inl (l.0, eqb-true (s / 4 ^ (r - m)) p e)) (λ e. inr (rest.1 e)) (either (eqb (s / 4 ^ (r - m)) p) (held r cells s) h))
    where
      orr : (x y : Bool) → y ≡ true → (x || y) ≡ true
      orr true y e = refl
      orr false y e = e

      either : (x y : Bool) → (x || y) ≡ true → (x ≡ true) ⊎ (y ≡ true)
      either true y e = inl refl
      either false y e = inr e

  pub laid_covered : (place : ℕ) (cells : List Cell) → Laid r place cells → (s : ℕ) → Covered r cells s ↔ (held r cells s ≡ true)
  laid_covered place cells l = covered_held cells (coarse place cells l)

  -- ---- a folded area is the fold of what it covers
  pub folded_is : (a : List Cell) → Laid r 0 a → Lone a → a ≡ fold_of r (picked (held r a) 0 (4 ^ r))
  folded_is a l lone =
      let f = held r a in
      only_fold r (picked f 0 (4 ^ r)) (picked_up f (4 ^ r) 0) (picked_below f (4 ^ r) 0 (4 ^ r) (omega arith)) a (coarse 0 a l) (unfold_picked r a 0 (4 ^ r) l (N.zero-add (4 ^ r))) (lone_ended a lone)

  -- SAME GROUND, SAME LIST
  pub same_ground_same_list : (a b : List Cell) → Laid r 0 a → Laid r 0 b → Lone a → Lone b → ((s : ℕ) → Covered r a s ↔ Covered r b s) → a ≡ b
  same_ground_same_list a b la lb na nb same =
      let e : (s : ℕ) → held r a s ≡ held r b s =
      λ s. agree (held r a s) (held r b s) (λ h. (laid_covered 0 b lb s).0 ((same s).0 ((laid_covered 0 a la s).1 h))) (λ h. (laid_covered 0 a la s).0 ((same s).1 ((laid_covered 0 b lb s).1 h))) in
      folded_is a la na ∙ ap (fold_of r) (picked_same (held r a) (held r b) (4 ^ r) 0 (λ s h. e s)) ∙ sym (folded_is b lb nb)

  -- ---- what an operation makes
  pub made_lone : (o : Operation) (a b : List Cell) → Lone (made r o a b)
  unfolding made
  made_lone o a b = no_four_siblings r (picked (keeps r o a b) 0 (4 ^ r))

  kept_none : (o : Operation) → kept o false false ≡ false
  kept_none Operation.Union = refl
  kept_none Operation.Intersection = refl
  kept_none Operation.Difference = refl

  module _ (o : Operation) (a b : List Cell) (la : Laid r 0 a) (lb : Laid r 0 b) where
    pub keeps_past : (s : ℕ) → 4 ^ r ≤ s → keeps r o a b s ≡ false
    unfolding keeps
    keeps_past s h = ap₂ (kept o) (laid_past 0 a la s h) (laid_past 0 b lb s h) ∙ kept_none o

    tells : (s : ℕ) → has (picked (keeps r o a b) 0 (4 ^ r)) s ≡ keeps r o a b s
    tells = picked_tells (keeps r o a b) (4 ^ r) keeps_past

    pub made_along : Along r (keeps r o a b) 0 (made r o a b)
    unfolding made
    made_along = fold_along r (keeps r o a b) (picked (keeps r o a b) 0 (4 ^ r)) tells keeps_past

    pub made_laid : Laid r 0 (made r o a b)
    made_laid = along_laid r (keeps r o a b) keeps_past 0 (made r o a b) made_along

    pub made_covers : (s : ℕ) → Covered r (made r o a b) s ↔ (keeps r o a b s ≡ true)
    unfolding made
    made_covers s =
        let f = keeps r o a b in
        let g = same_ground r (picked f 0 (4 ^ r)) (picked_below f (4 ^ r) 0 (4 ^ r) (omega arith)) s in
        ((λ c. sym (tells s) ∙ g.0 c), λ h. g.1 (tells s ∙ h))

    pub made_held : (s : ℕ) → held r (made r o a b) s ≡ keeps r o a b s
    made_held s =
        let c = laid_covered 0 (made r o a b) made_laid s in
        agree (held r (made r o a b) s) (keeps r o a b s) (λ h. (made_covers s).0 (c.1 h)) (λ h. c.0 ((made_covers s).1 h))

    -- no cells at all that cover as much, and no more, are fewer
    pub made_shortest : (cells : List Cell) → ((s : ℕ) → Covered r cells s ↔ Covered r (made r o a b) s) → length (made r o a b) ≤ length cells
    unfolding made
    made_shortest cells same =
        shortest r (picked (keeps r o a b) 0 (4 ^ r)) cells (λ s. ((λ c. tells s ∙ (made_covers s).0 ((same s).0 c)), λ h. (same s).1 ((made_covers s).1 (sym (tells s) ∙ h))))

    -- a folded area that covers what an operation keeps is what it makes
    pub made_only : (c : List Cell) → Laid r 0 c → Lone c → ((s : ℕ) → held r c s ≡ keeps r o a b s) → made r o a b ≡ c
    unfolding made
    made_only c lc lone same = ap (fold_of r) (picked_same (keeps r o a b) (held r c) (4 ^ r) 0 (λ s h. sym (same s))) ∙ sym (folded_is c lc lone)

  pub made_same : (o q : Operation) (a b c d : List Cell) → ((s : ℕ) → keeps r o a b s ≡ keeps r q c d s) → made r o a b ≡ made r q c d
  unfolding made
  made_same o q a b c d e = ap (fold_of r) (picked_same (keeps r o a b) (keeps r q c d) (4 ^ r) 0 (λ s h. e s))
