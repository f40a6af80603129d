-- Cells one after another: what they hold, and what they do not.
use mathlib.Core.Bool.{true, false}
use mathlib.Core.Path.{◌≡◌, refl, ap}
use mathlib.Core.List.{List, [], ◌∷◌}
use Prim.Native.Nat.{ℕ, suc, ◌-◌, ◌*◌, ◌/◌, ◌^◌, ◌<◌, ◌≤◌}
use native.Mathlib.Nat as N
use native.Mathlib.Numerals.{add-one}
use native.Mathlib.Omega.{arith}
use lib.Dec.{eqb}
use borrow.Author.Tests.{eq-eqb, ne_eqb}
use Rattle.whole.proofs.Digits.{four_power}
use Rattle.fold.specs.Cells.{Cell, cell}
use Rattle.fold.specs.Inside.Pairs.{Laid}
use Rattle.area.specs.Areas.{held}
use Rattle.area.specs.Inside.Cursors.{Ahead}

-- ---- one cell
module _ (k p s : ℕ) where
  pub in_cell : p * 4 ^ k ≤ s → s < suc p * 4 ^ k → eqb (s / 4 ^ k) p ≡ true
  in_cell h l = eq-eqb (s / 4 ^ k) p (N.div-eq_of_lt-le (4 ^ k) h (rw (add-one p) l))

  pub before_cell : s < p * 4 ^ k → eqb (s / 4 ^ k) p ≡ false
  before_cell h = ne_eqb (s / 4 ^ k) p (λ e. (let f = ap (λ (x : ℕ). x * 4 ^ k) e in let z : ⊥ = omega (arith, N.div-mul-le_self s (4 ^ k)) in z))

  pub after_cell : suc p * 4 ^ k ≤ s → eqb (s / 4 ^ k) p ≡ false
  after_cell h = ne_eqb (s / 4 ^ k) p (λ e. (let f = ap (λ (x : ℕ). x * 4 ^ k) e in let z : ⊥ = omega (arith, N.suc-mul p (4 ^ k), N.lt-div-mul-add {a = s} (four_power k)) in z))

-- ---- cells from a place on
pub laid_clear : (r place : ℕ) (cells : List Cell) (s : ℕ) → Laid r place cells → s < place → held r cells s ≡ false
unfolding held
laid_clear r place [] s l h = refl
laid_clear r place (cell m p ∷ cells) s l h =
    rw (before_cell (r - m) p s (omega arith)) (laid_clear r (suc p * 4 ^ (r - m)) cells s l.3 (omega (arith, N.suc-mul p (4 ^ (r - m)))))

pub laid_ahead : (r place : ℕ) (cells : List Cell) → Laid r place cells → Ahead r place cells
laid_ahead r place [] l = l
laid_ahead r place (cell m p ∷ cells) l = (l.0, l.1, omega (arith, N.suc-mul p (4 ^ (r - m)), four_power (r - m)), l.3)
