-- What cells that are apart unfold to: a list of positions of the resolution, strictly ascending, of what the cells cover and nothing else.
use mathlib.Core.Bool.{Bool, true, false, ◌||◌, or_assoc, or-true, false≢true}
use mathlib.Core.Logic.{◌↔◌, ◌⊎◌, inl, inr, ⊎_elim}
use mathlib.Core.Path.{◌≡◌, refl, sym, ap, ◌∙◌}
use mathlib.Core.List.{List, [], ◌∷◌, ◌++◌}
use Prim.Native.Nat.{ℕ, zero, suc, ◌+◌, ◌-◌, ◌*◌, ◌/◌, ◌^◌, ◌<◌, ◌≤◌}
use native.Mathlib.Nat as N
use native.Mathlib.Numerals.{add-one}
use native.Mathlib.Omega.{arith}
use native.Mathlib.Decide.{ℕ_discrete}
use lib.Dec.{eqb}
use borrow.Author.Tests.{lt-ltb, eq-eqb, ne_eqb}
use Rattle.whole.proofs.Digits.{four_power}
use Rattle.fold.specs.Cells.{Cell, cell, Covered}
use Rattle.fold.specs.Folds.{has, all_below, ascending}
use Rattle.fold.specs.Unfolds.{run, unfold_of}
use Rattle.fold.specs.Inside.Pairs.{Laid}
use Rattle.fold.proofs.PairTestLaws.{ends_inside}

-- ---- all are positions of the resolution
run_below : (n s k : ℕ) (rest : List ℕ) → s + k ≤ n → all_below n rest ≡ true → all_below n (run s k ++ rest) ≡ true
unfolding run all_below
run_below n s zero rest h e = e
run_below n s (suc k) rest h e = rw (lt-ltb s n (omega arith)) (run_below n (suc s) k rest (omega arith) e)

pub unfold_below : (r place : ℕ) (cells : List Cell) → Laid r place cells → all_below (4 ^ r) (unfold_of r cells) ≡ true
unfolding unfold_of all_below
unfold_below r place [] l = refl
unfold_below r place (cell m p ∷ cells) l =
    let n = 4 ^ (r - m) in
    run_below (4 ^ r) (p * n) n (unfold_of r cells) (omega (arith, N.suc-mul p n, ends_inside r m p l.0 l.1)) (unfold_below r (suc p * n) cells l.3)

-- ---- they ascend
-- a list begins at s or behind it
abbrev From : ℕ → List ℕ → Type 0
From s [] = Unit {0}
From s (x ∷ xs) = s ≤ x

ascending_cons : (x : ℕ) (xs : List ℕ) → From (suc x) xs → ascending xs ≡ true → ascending (x ∷ xs) ≡ true
unfolding ascending
ascending_cons x [] f e = refl
ascending_cons x (y ∷ xs) f e = rw (lt-ltb x y f) e

run_from : (s k : ℕ) (rest : List ℕ) → From (s + k) rest → From s (run s k ++ rest)
unfolding run
run_from s zero rest f = rw N.add-zero at f
run_from s (suc k) rest f = N.le_refl s

run_ascending : (s k : ℕ) (rest : List ℕ) → From (s + k) rest → ascending rest ≡ true → ascending (run s k ++ rest) ≡ true
unfolding run
run_ascending s zero rest f e = e
run_ascending s (suc k) rest f e =
    let g : From (suc s + k) rest = rw (N.suc-add s k) (rw (N.add-suc s k) at f) in
    ascending_cons s (run (suc s) k ++ rest) (run_from (suc s) k rest g) (run_ascending (suc s) k rest g e)

from_earlier : (a b : ℕ) (xs : List ℕ) → b ≤ a → From a xs → From b xs
from_earlier a b [] h f = tt
from_earlier a b (x ∷ xs) h f = N.le_trans h f

unfold_from : (r place : ℕ) (cells : List Cell) → Laid r place cells → From place (unfold_of r cells)
unfolding unfold_of
unfold_from r place [] l = tt
unfold_from r place (cell m p ∷ cells) l =
    let n = 4 ^ (r - m) in
    from_earlier (p * n) place (run (p * n) n ++ unfold_of r cells) l.2 (run_from (p * n) n (unfold_of r cells) (rw (← N.suc-mul p n) (unfold_from r (suc p * n) cells l.3)))

pub unfold_ascending : (r place : ℕ) (cells : List Cell) → Laid r place cells → ascending (unfold_of r cells) ≡ true
unfolding unfold_of ascending
unfold_ascending r place [] l = refl
unfold_ascending r place (cell m p ∷ cells) l =
    let n = 4 ^ (r - m) in
    run_ascending (p * n) n (unfold_of r cells) (rw (← N.suc-mul p n) (unfold_from r (suc p * n) cells l.3)) (unfold_ascending r (suc p * n) cells l.3)

-- ---- what the cells cover
has_append : (a b : List ℕ) (s : ℕ) → has (a ++ b) s ≡ (has a s || has b s)
unfolding has
has_append [] b s = refl
has_append (x ∷ a) b s = ap (λ (y : Bool). eqb x s || y) (has_append a b s) ∙ sym (or_assoc (eqb x s) (has a s) (has b s))

has_run : (s k t : ℕ) → s ≤ t → t < s + k → has (run s k) t ≡ true
unfolding run has
has_run s zero t h l = let z : ⊥ = omega arith in absurd z
has_run s (suc k) t h l = elim (ℕ_discrete s t) [
  | yes e ↦ rw (eq-eqb s t e)
  | no e ↦ rw (ne_eqb s t e) (has_run (suc s) k t (omega arith) (omega arith))
]

run_has : (s k t : ℕ) → has (run s k) t ≡ true → (s ≤ t) × (t < s + k)
unfolding run has
run_has s zero t e = absurd (false≢true e)
run_has s (suc k) t e = elim (ℕ_discrete s t) [
  | yes q ↦ (omega arith, omega arith)
  | no q ↦ (let i = run_has (suc s) k t (rw (ne_eqb s t q) at e) in (omega (arith, i.0), omega (arith, i.1)))
]

either : (a b : Bool) → (a || b) ≡ true → (a ≡ true) ⊎ (b ≡ true)
either true b e = inl refl
either false b e = inr e

module _ (k p s : ℕ) where
  in_cell : p * 4 ^ k ≤ s → s < p * 4 ^ k + 4 ^ k → s / 4 ^ k ≡ p
  in_cell h l = N.div-eq_of_lt-le (4 ^ k) h (rw (add-one p, N.suc-mul) l)

  of_cell : s / 4 ^ k ≡ p → (p * 4 ^ k ≤ s) × (s < p * 4 ^ k + 4 ^ k)
  of_cell e =
      let f = ap (λ (x : ℕ). x * 4 ^ k) e in
      (omega (arith, N.div-mul-le_self s (4 ^ k)), omega (arith, N.lt-div-mul-add {a = s} (four_power k)))

module _ (r s : ℕ) where
  unfold_has : (place : ℕ) (cells : List Cell) → Laid r place cells → Covered r cells s → has (unfold_of r cells) s ≡ true
  unfolding unfold_of
  unfold_has place [] l c = absurd c
  unfold_has place (cell m p ∷ cells) l c =
      let n = 4 ^ (r - m) in
      has_append (run (p * n) n) (unfold_of r cells) s
      ∙ ⊎_elim
      (λ (i : (m ≤ r) × (s / n ≡ p)). (let b = of_cell (r - m) p s i.1 in ap (λ (x : Bool). x || has (unfold_of r cells) s) (has_run (p * n) n s b.0 b.1)))
      (λ (i : Covered r cells s). ap (λ (x : Bool). has (run (p * n) n) s || x) (unfold_has (suc p * n) cells l.3 i) ∙ or-true (has (run (p * n) n) s))
      c

  has_unfold : (place : ℕ) (cells : List Cell) → Laid r place cells → has (unfold_of r cells) s ≡ true → Covered r cells s
  unfolding unfold_of has
  has_unfold place [] l e = absurd (false≢true e)
  has_unfold place (cell m p ∷ cells) l e =
      let n = 4 ^ (r - m) in
      ⊎_elim
      (λ i. (let b = run_has (p * n) n s i in inl (l.0, in_cell (r - m) p s b.0 b.1)))
      (λ i. inr (has_unfold (suc p * n) cells l.3 i))
      (either (has (run (p * n) n) s) (has (unfold_of r cells) s) (sym (has_append (run (p * n) n) (unfold_of r cells) s) ∙ e))

  pub unfold_ground : (cells : List Cell) → Laid r 0 cells → Covered r cells s ↔ (has (unfold_of r cells) s ≡ true)
  unfold_ground cells l = (unfold_has 0 cells l, has_unfold 0 cells l)
