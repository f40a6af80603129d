-- Unfolding a fold gives the list back; its cells stand in curve order; the empty list folds to the empty list.
use mathlib.Core.Bool.{true}
use mathlib.Core.Path.{◌≡◌, refl, sym, ap}
use mathlib.Core.List.{List, [], ◌∷◌, ◌++◌}
use Prim.Native.Nat.{ℕ, zero, suc, ◌+◌, ◌-◌, ◌*◌, ◌^◌, ◌<◌, ◌≤◌}
use native.Mathlib.Nat as N
use native.Mathlib.Omega.{arith}
use native.Mathlib.Decide.{dec_lt}
use lib.ListN.{length, get_or, drop, drop_of_length-le}
use lib.Pow.{pow-add}
use lib.Seq.{drop-cons}
use Rattle.fold.specs.Cells.{Cell, cell}
use Rattle.fold.specs.Folds.{all_below, ascending, fold_of}
use Rattle.fold.specs.Unfolds.{run, unfold_of}
use Rattle.fold.specs.Inside.Pairs.{Laid}
use Rattle.fold.proofs.ListLaws.{at_below, gap}
use Rattle.fold.proofs.BlockLaws.{block_run}
use Rattle.fold.proofs.StepLaws.{Steps, fold_steps}

-- positions one after another in a list
drop_run : (xs : List ℕ) (n i s : ℕ) → ((d : ℕ) → d < n → (i + d < length xs) × (get_or xs (i + d) 0 ≡ s + d)) → run s n ++ drop (i + n) xs ≡ drop i xs
unfolding run
drop_run xs zero i s f = rw N.add-zero
drop_run xs (suc n) i s f =
    let first = simp N.add-zero at (f 0 (omega arith)) in
    let rest = drop_run xs n (suc i) (suc s) (λ d h. rw (N.suc-add i d, N.suc-add s d) (rw (N.add-suc i d, N.add-suc s d) at (f (suc d) (omega arith)))) in
    rw (drop-cons xs i 0 first.0, first.1, N.add-suc i n, ← N.suc-add i n) (ap (λ (l : List ℕ). s ∷ l) rest)

unfold_steps : (r : ℕ) (xs : List ℕ) → ascending xs ≡ true → (i : ℕ) (cells : List Cell) → Steps r xs i cells → unfold_of r cells ≡ drop i xs
unfolding unfold_of
unfold_steps r xs up i [] s = sym (drop_of_length-le xs {i = i} s)
unfold_steps r xs up i (cell m p ∷ cells) s =
    rw (unfold_steps r xs up (i + 4 ^ (r - m)) cells s.4)
    (drop_run xs (4 ^ (r - m)) i (p * 4 ^ (r - m)) (λ d h. rw (← s.3) (block_run xs i up (r - m) s.2.block d h)))

pub unfold_fold : (r : ℕ) (xs : List ℕ) → all_below (4 ^ r) xs ≡ true → ascending xs ≡ true → unfold_of r (fold_of r xs) ≡ xs
unfold_fold r xs below up = unfold_steps r xs up 0 (fold_of r xs) (fold_steps r xs up below)

no_steps : (r : ℕ) (cells : List Cell) → Steps r [] 0 cells → cells ≡ []
no_steps r [] s = refl
no_steps r (cell m p ∷ cells) s = let z : ⊥ = omega arith in absurd z

pub fold_empty : (r : ℕ) → fold_of r [] ≡ []
unfolding all_below ascending
fold_empty r = no_steps r (fold_of r []) (fold_steps r [] refl refl)

-- ---- its cells are in curve order and apart
inside_cell : (r m p : ℕ) → m ≤ r → p * 4 ^ (r - m) < 4 ^ r → p < 4 ^ m
inside_cell r m p h l = elim (dec_lt p (4 ^ m)) [
  | yes g ↦ g
  | no g ↦
      (let e : m + (r - m) ≡ r = omega arith in
      let f : 4 ^ m ≤ p = omega arith in
      let z : ⊥ = omega (arith, N.mul-le-mul_right (4 ^ (r - m)) f, pow-add 4 m (r - m), ap (λ (x : ℕ). 4 ^ x) e) in
      absurd z)
]

module _ (r : ℕ) (xs : List ℕ) (below : all_below (4 ^ r) xs ≡ true) (up : ascending xs ≡ true) where
  steps_laid : (i : ℕ) (cells : List Cell) (place : ℕ) → (i < length xs → place ≤ get_or xs i 0) → Steps r xs i cells → Laid r place cells
  steps_laid i [] place h s = tt
  steps_laid i (cell m p ∷ cells) place h s =
      let k = 4 ^ (r - m) in
      let first = at_below (4 ^ r) xs below i s.1 in
      let low = h s.1 in
      let more : i + k < length xs → suc p * k ≤ get_or xs (i + k) 0 = λ l. omega (arith, N.suc-mul p k, gap xs up i k l, s.3) in
      (s.0, inside_cell r m p s.0 (omega (arith, s.3)), omega (arith, s.3), steps_laid (i + k) cells (suc p * k) more s.4)

  pub fold_laid : Laid r 0 (fold_of r xs)
  fold_laid = steps_laid 0 (fold_of r xs) 0 (λ h. omega arith) (fold_steps r xs up below)
