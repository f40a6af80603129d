-- What holds of all that lies in a cell, by induction: of a whole cell whose parent is not whole, of a position that is not there, and of four children.
use mathlib.Core.Bool.{true, false}
use mathlib.Core.Logic.{⊎_elim}
use mathlib.Core.Path.{◌≡◌}
use mathlib.Core.List.{List, [], ◌∷◌, ◌++◌}
use Prim.Native.Nat.{ℕ, zero, suc, ◌+◌, ◌*◌, ◌/◌, ◌<◌}
use native.Mathlib.Nat as N
use native.Mathlib.Omega.{arith}
use Rattle.fold.specs.Cells.{Cell, cell}
use Rattle.fold.specs.Folds.{whole, fold_in, fold_of}
use Rattle.fold.proofs.BlockLaws.{which}

-- the cell above, if there is one, is not whole
abbrev pub Loose : ℕ → List ℕ → ℕ → ℕ → Type 0
Loose r xs k q = k < r → whole xs (suc k) (q / 4) ≡ false

module _ (r : ℕ) (xs : List ℕ) (P : ℕ → ℕ → ℕ → List Cell → Type 0)
    (one : (k m q : ℕ) → m + k ≡ r → Loose r xs k q → whole xs k q ≡ true → P k m q (cell m q ∷ []))
    (none : (m q : ℕ) → whole xs zero q ≡ false → P zero m q [])
    (four : (k m q : ℕ) (a b c d : List Cell) → P k (suc m) (4 * q) a → P k (suc m) (4 * q + 1) b → P k (suc m) (4 * q + 2) c → P k (suc m) (4 * q + 3) d
    → P (suc k) m q (a ++ (b ++ (c ++ d)))) where
  fold_in_lem : (k m q : ℕ) → m + k ≡ r → Loose r xs k q → P k m q (fold_in xs k m q)
  unfolding fold_in
  fold_in_lem zero m q e f =
      ⊎_elim (λ (w : whole xs zero q ≡ true). rw w (one zero m q e f w)) (λ (w : whole xs zero q ≡ false). rw w (none m q w)) (which (whole xs zero q))
  fold_in_lem (suc k) m q e f =
      ⊎_elim
      (λ (w : whole xs (suc k) q ≡ true). rw w (one (suc k) m q e f w))
      (λ (w : whole xs (suc k) q ≡ false).
      (let child : (p : ℕ) → p / 4 ≡ q → P k (suc m) p (fold_in xs k (suc m) p) = λ p i. fold_in_lem k (suc m) p (omega arith) (λ l. rw i w) in
      rw w (four k m q _ _ _ _ (child (4 * q) (omega arith)) (child (4 * q + 1) (omega arith)) (child (4 * q + 2) (omega arith)) (child (4 * q + 3) (omega arith)))))
      (which (whole xs (suc k) q))

  -- and so it holds of a fold
  pub fold_all : P r 0 0 (fold_of r xs)
  unfolding fold_of
  fold_all = fold_in_lem r 0 0 (N.zero-add r) (λ h. let z : ⊥ = omega arith in absurd z)
