-- Each cell of a fold is whole, and its parent is not: so no four siblings stand in it together.
use mathlib.Core.Bool.{true, true≢false}
use mathlib.Core.Logic.{⊎_elim}
use mathlib.Core.Path.{◌≡◌, sym, subst, ◌∙◌}
use mathlib.Core.List.Memᴰ
use mathlib.Core.List.{List, [], ◌∷◌, ◌++◌, Memᴰ}
use Prim.Native.Nat.{ℕ, suc, ◌+◌, ◌-◌, ◌*◌, ◌/◌, ◌%◌, ◌^◌, ◌<◌, ◌≤◌}
use native.Mathlib.Omega.{arith}
use Rattle.fold.specs.Cells.{Cell, cell}
use Rattle.fold.specs.Folds.{whole, fold_of}
use Rattle.fold.specs.Foldings.{Lone}
use Rattle.fold.proofs.Induction.{Loose, fold_all}
use Rattle.fold.proofs.Ground.{whole_has, has_whole, quarter}

module _ (r : ℕ) (xs : List ℕ) where
  abbrev pub Tight : Cell → Type 0
  Tight (cell m p) = (m ≤ r) × (whole xs (r - m) p ≡ true) × Loose r xs (r - m) p

  abbrev AllTight : ℕ → ℕ → ℕ → List Cell → Type 0
  AllTight k m q cells = (c : Cell) → Memᴰ c cells → Tight c

  one : (k m q : ℕ) → m + k ≡ r → Loose r xs k q → whole xs k q ≡ true → AllTight k m q (cell m q ∷ [])
  one k m q e f w c i =
      let j : r - m ≡ k = omega arith in
      let t : Tight (cell m q) = rw j (omega arith, w, f) in
      subst Tight (sym (Memᴰ.eq_of_singleton i)) t

  four : (k m q : ℕ) (a b c d : List Cell) → AllTight k (suc m) (4 * q) a → AllTight k (suc m) (4 * q + 1) b → AllTight k (suc m) (4 * q + 2) c
      → AllTight k (suc m) (4 * q + 3) d → AllTight (suc k) m q (a ++ (b ++ (c ++ d)))
  four k m q a b c d fa fb fc fd x i =
      ⊎_elim (fa x)
      (λ i. ⊎_elim (fb x) (λ i. ⊎_elim (fc x) (fd x) (Memᴰ.append_cases c i)) (Memᴰ.append_cases b i))
      (Memᴰ.append_cases a i)

  pub all_tight : (c : Cell) → Memᴰ c (fold_of r xs) → Tight c
  all_tight = fold_all r xs AllTight one (λ m q w c i. absurd (Memᴰ.not-nil i)) four

  -- a cell of which the four children are whole
  four_whole : (k p : ℕ) → ((j : ℕ) → j < 4 → whole xs k (4 * p + j) ≡ true) → whole xs (suc k) p ≡ true
  four_whole k p f =
      has_whole xs (suc k) p (λ s i.
      (let e : s / 4 ^ k / 4 ≡ p = rw quarter at i in
      whole_has xs k (4 * p + s / 4 ^ k % 4) s (f (s / 4 ^ k % 4) (omega arith)) (omega arith)))

  pub no_four_siblings : Lone (fold_of r xs)
  no_four_siblings m p f =
      let t : (j : ℕ) → j < 4 → Tight (cell (suc m) (4 * p + j)) = λ j h. all_tight (cell (suc m) (4 * p + j)) (f j h) in
      let u = t 0 (omega arith) in
      let e : (4 * p + 0) / 4 ≡ p = omega arith in
      true≢false (sym (four_whole (r - suc m) p (λ j h. (t j h).1)) ∙ rw e at (u.2 (omega arith)))
