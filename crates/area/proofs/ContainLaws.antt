-- An area contains a cell where nothing of the cell is left without the area.
use mathlib.Core.Bool.{Bool, true, false, not, ◌&&◌, ◌||◌, true≢false, false≢true}
use mathlib.Core.Logic.{◌↔◌}
use mathlib.Core.Path.{◌≡◌, refl, sym, ap, ◌∙◌}
use mathlib.Core.List.{List, [], ◌∷◌}
use Prim.Native.Nat.{ℕ, zero, suc, ◌+◌, ◌-◌, ◌*◌, ◌/◌, ◌^◌, ◌<◌, ◌≤◌}
use native.Mathlib.Nat as N
use native.Mathlib.Omega.{arith}
use native.Mathlib.Decide.{ℕ_discrete}
use lib.Dec.{eqb}
use lib.ListN.{length}
use borrow.Author.Tests.{eq-eqb, eqb-true}
use Rattle.whole.proofs.Digits.{four_power}
use Rattle.fold.specs.Cells.{Cell, cell, Covers, Covered}
use Rattle.fold.specs.Inside.Pairs.{Laid}
use Rattle.area.specs.Areas.{held, keeps, made, takes_all, contained}
use Rattle.whole.proofs.Bools.{both_true}
use Rattle.area.specs.declared.operation.Operation.TheVariants as For
use Rattle.area.proofs.CellLaws.{in_cell}
use Rattle.area.proofs.Along.{Along}
use Rattle.area.proofs.Made.{agree, laid_covered, made_along}
use Rattle.area.proofs.WalkLaws.{none_left}

takes : (f : ℕ → Bool) (n s : ℕ) → ((t : ℕ) → s ≤ t → t < s + n → f t ≡ true) → takes_all f s n ≡ true
unfolding takes_all
takes f zero s g = refl
takes f (suc n) s g = rw (g s (omega arith) (omega arith)) (takes f n (suc s) (λ t h l. g t (omega arith) (omega arith)))

taken : (f : ℕ → Bool) (n s : ℕ) → takes_all f s n ≡ true → (t : ℕ) → s ≤ t → t < s + n → f t ≡ true
unfolding takes_all
taken f zero s e t h l = let z : ⊥ = omega arith in absurd z
taken f (suc n) s e t h l =
    let d = both_true (f s) (takes_all f (suc s) n) e in
    elim (ℕ_discrete s t) [
      | yes q ↦ rw q at d.0
      | no q ↦ taken f n (suc s) d.1 t (omega arith) (omega arith)
    ]

module _ (r m p : ℕ) (cells : List Cell) where
  -- by the positions of the cell
  contained_each : ((s : ℕ) → s / 4 ^ (r - m) ≡ p → held r cells s ≡ true) → contained r cells m p ≡ true
  unfolding contained
  contained_each g =
      takes (held r cells) (4 ^ (r - m)) (p * 4 ^ (r - m)) (λ t h l. g t (eqb-true (t / 4 ^ (r - m)) p (in_cell (r - m) p t h (omega (arith, N.suc-mul p (4 ^ (r - m)))))))

  each_contained : contained r cells m p ≡ true → (s : ℕ) → s / 4 ^ (r - m) ≡ p → held r cells s ≡ true
  unfolding contained
  each_contained e s d =
      let n = 4 ^ (r - m) in
      let f = ap (λ (x : ℕ). x * n) d in
      taken (held r cells) n (p * n) e s (omega (arith, N.div-mul-le_self s n)) (omega (arith, N.lt-div-mul-add {a = s} (four_power (r - m))))

  module _ (h : m ≤ r) (i : p < 4 ^ m) (l : Laid r 0 cells) where
    pub contained_covers : (contained r cells m p ≡ true) ↔ ((s : ℕ) → Covers r (cell m p) s → Covered r cells s)
    contained_covers =
        ((λ e s c. (laid_covered r 0 cells l s).1 (each_contained e s c.1)), λ g. contained_each (λ s d. (laid_covered r 0 cells l s).0 (g s (h, d))))

    one : List Cell
    one = cell m p ∷ []

    pub one_laid : Laid r 0 (cell m p ∷ [])
    one_laid = (h, i, omega arith, tt)

    f : ℕ → Bool
    f = keeps r For.Difference (cell m p ∷ []) cells

    left : List Cell
    left = made r For.Difference (cell m p ∷ []) cells

    along : Along r f 0 left
    unfolding f left
    along = made_along r For.Difference (cell m p ∷ []) cells one_laid l

    none : (x : List Cell) → length x ≡ 0 → Along r f 0 x → (s : ℕ) → f s ≡ false
    none [] e t s = t s (omega arith)
    none (c ∷ x) e t s = let z : ⊥ = omega arith in absurd z

    without : (x y : Bool) → x ≡ true → ((x || false) && not y) ≡ false → y ≡ true
    without true true d e = refl
    without true false d e = absurd (true≢false e)
    without false y d e = absurd (false≢true d)

    gone : (x y : Bool) → (x ≡ true → y ≡ true) → ((x || false) && not y) ≡ false
    gone true y g = rw (g refl) refl
    gone false y g = refl

    pub contained_left : {n : ℕ} → n ≡ length (made r For.Difference (cell m p ∷ []) cells) → eqb n 0 ≡ contained r cells m p
    unfolding f left keeps held
    contained_left {n} e =
        agree (eqb n 0) (contained r cells m p)
        (λ z. contained_each (λ s d. without (eqb (s / 4 ^ (r - m)) p) (held r cells s) (eq-eqb (s / 4 ^ (r - m)) p d) (none left (sym e ∙ eqb-true n 0 z) along s)))
        (λ c. eq-eqb n 0 (e ∙ none_left r f 0 left (λ s j. gone (eqb (s / 4 ^ (r - m)) p) (held r cells s) (λ d. each_contained c s (eqb-true (s / 4 ^ (r - m)) p d))) along))
