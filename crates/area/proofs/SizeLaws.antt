-- How much areas cover: at a resolution that is fine enough for two, so it is for what an operation makes of them; and a union and an intersection together are as large as both.
use mathlib.Core.Bool.{Bool, true, false, ◌&&◌, ◌||◌}
use mathlib.Core.Logic.{⊎_elim}
use mathlib.Core.Path.{◌≡◌, refl, sym, ap, ap₂, subst, ◌∙◌}
use mathlib.Core.List.{List, [], ◌∷◌}
use Prim.Native.Nat.{ℕ, zero, suc, ◌+◌, ◌-◌, ◌/◌, ◌^◌, ◌≤◌}
use native.Mathlib.Nat as N
use native.Mathlib.Omega.{arith}
use lib.Dec.{eqb}
use lib.ListN.{length}
use Rattle.fold.specs.Cells.{Cell, cell}
use Rattle.fold.specs.Unfolds.{unfold_of}
use Rattle.fold.specs.Inside.Pairs.{Laid}
use Rattle.fold.proofs.BlockLaws.{which}
use Rattle.fold.proofs.PairTestLaws.{laid_finer}
use Rattle.fold.proofs.Shortest.{div_pow}
use Rattle.fold.proofs.Unique.{Coarse}
use Rattle.area.specs.declared.operation.Operation.{Operation}
use Rattle.area.specs.declared.operation.Operation.TheVariants as For
use Rattle.area.specs.Areas.{held, kept, keeps, picked, made}
use Rattle.area.proofs.PickLaws.{picked_same, unfold_picked}
use Rattle.area.proofs.Made.{coarse, made_laid, made_lone, made_held, made_only}

-- ---- at a finer resolution
held_finer : (r d : ℕ) (cells : List Cell) → Coarse r cells → (s : ℕ) → held (r + d) cells s ≡ held r cells (s / 4 ^ d)
unfolding held
held_finer r d [] c s = refl
held_finer r d (cell m p ∷ cells) c s =
    let h = c.0 in
    let e : r + d - m ≡ d + (r - m) = omega arith in
    ap₂ (λ (x y : Bool). x || y) (ap (λ (n : ℕ). eqb n p) (ap (λ (k : ℕ). s / 4 ^ k) e ∙ div_pow s d (r - m))) (held_finer r d cells c.1 s)

module _ (r : ℕ) (o : Operation) (a b : List Cell) (la : Laid r 0 a) (lb : Laid r 0 b) where
  finer_same : (d : ℕ) → made (r + d) o a b ≡ made r o a b
  unfolding keeps
  finer_same d =
      let lm = made_laid r o a b la lb in
      made_only (r + d) o a b (laid_finer r d a la) (laid_finer r d b lb) (made r o a b) (laid_finer r d (made r o a b) lm) (made_lone r o a b)
      (λ s.
      held_finer r d (made r o a b) (coarse r 0 (made r o a b) lm) s ∙ made_held r o a b la lb (s / 4 ^ d)
      ∙ ap₂ (kept o) (sym (held_finer r d a (coarse r 0 a la) s)) (sym (held_finer r d b (coarse r 0 b lb) s)))

  pub made_coarser : r ≤ 30 → made 30 o a b ≡ made r o a b
  made_coarser h =
      let e : r + (30 - r) ≡ 30 = omega arith in
      subst (λ (n : ℕ). made n o a b ≡ made r o a b) e (finer_same (30 - r))

-- ---- how many positions a test takes
takes : Bool → ℕ
takes true = 1
takes false = 0

picked_length : (f : ℕ → Bool) (s n : ℕ) → length (picked f s (suc n)) ≡ takes (f s) + length (picked f (suc s) n)
unfolding picked takes
picked_length f s n = ⊎_elim (λ (e : f s ≡ true). rw e (omega arith)) (λ (e : f s ≡ false). rw e (omega arith)) (which (f s))

one_of_two : (x y : Bool) → takes (x || y) + takes (x && y) ≡ takes x + takes y
unfolding takes
one_of_two true true = refl
one_of_two true false = refl
one_of_two false true = refl
one_of_two false false = refl

both_lengths : (f g : ℕ → Bool) (n s : ℕ) → length (picked (λ t. f t || g t) s n) + length (picked (λ t. f t && g t) s n) ≡ length (picked f s n) + length (picked g s n)
unfolding picked
both_lengths f g zero s = refl
both_lengths f g (suc n) s =
    let either = picked_length (λ t. f t || g t) s n in
    let both = picked_length (λ t. f t && g t) s n in
    omega (arith, either, both, picked_length f s n, picked_length g s n, one_of_two (f s) (g s), both_lengths f g n (suc s))

-- ---- of cells in curve order
size_picked : (r : ℕ) (cells : List Cell) → Laid r 0 cells → length (unfold_of r cells) ≡ length (picked (held r cells) 0 (4 ^ r))
size_picked r cells l = ap length (unfold_picked r cells 0 (4 ^ r) l (N.zero-add (4 ^ r)))

module _ (r : ℕ) (a b : List Cell) (la : Laid r 0 a) (lb : Laid r 0 b) where
  made_size : (o : Operation) → length (unfold_of r (made r o a b)) ≡ length (picked (keeps r o a b) 0 (4 ^ r))
  made_size o =
      size_picked r (made r o a b) (made_laid r o a b la lb)
      ∙ ap length (picked_same (held r (made r o a b)) (keeps r o a b) (4 ^ r) 0 (λ s h. made_held r o a b la lb s))

  pub sizes_add : length (unfold_of r (made r For.Union a b)) + length (unfold_of r (made r For.Intersection a b)) ≡ length (unfold_of r a) + length (unfold_of r b)
  unfolding keeps
  sizes_add =
      ap₂ (λ (x y : ℕ). x + y) (made_size For.Union) (made_size For.Intersection) ∙ both_lengths (held r a) (held r b) (4 ^ r) 0
      ∙ ap₂ (λ (x y : ℕ). x + y) (sym (size_picked r a la)) (sym (size_picked r b lb))
