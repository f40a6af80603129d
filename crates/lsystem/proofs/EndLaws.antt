-- The end of a walk is the cell of its place: its spot's third number is what the parity of the cell leaves, and no number of it leaves the wedge.
use mathlib.Core.Path.{◌≡◌, refl, sym, ap, ◌∙◌, subst}
use Prim.Native.Nat.{ℕ, zero, suc, ◌+◌, ◌-◌, ◌/◌, ◌%◌, ◌^◌, ◌<◌, ◌≤◌}
use native.Mathlib.Omega.{arith}
use native.Mathlib.Nat as N
use Rattle.whole.proofs.Digits.{twice_power}
use Rattle.whole.proofs.View.{view, eq_by}
use Rattle.triple.specs.declared.Triple.{Triple}
use Rattle.triple.proofs.OrientationLaws.{six}
use Rattle.turtle.proofs.CornerLaws.{triple_is}
use Rattle.a5.specs.Inside.Spots.{walk, walk_flavor, triple_at}
use Rattle.a5.proofs.FootprintLaws.{walk_in}
use Rattle.a5.proofs.Axioms.{Axiom, axiom_a, axiom_c, axiom_b, first, Shape, shape}
use Rattle.a5.proofs.Flavors.{flavor_parity}
use Rattle.strides.specs.declared.End.{End}
use Rattle.strides.specs.Walks.{state_in, on_row_of, end_after}
use Rattle.strides.proofs.WalkLaws.{order, after_axiom}
use Rattle.lsystem.specs.declared.cell.Cell.{Cell}
use Rattle.lsystem.specs.Inside.CellParts.{triple_by, cell_by}
use Rattle.lsystem.proofs.CellLaws.{axiom_in}

triple_by_lem : (k n s : ℕ) → Shape k → let p = walk n k s in triple_by (2 ^ suc n) p.x p.y (walk_flavor n k s % 2) ≡ triple_at n p
unfolding triple_by triple_at
triple_by_lem k n s h =
    let e = rw h.shape_skew at (flavor_parity n k s h.is_state) in
    let t = twice_power n in
    triple_is (eq_by (search view depth 9) (search view depth 9) tt (omega arith)) refl (eq_by (search view depth 12) (search view depth 9) tt (omega arith))

-- ---- the axioms by the numbers of their letters: A, C, B
abbrev axiom_at : ℕ → Axiom
axiom_at zero = axiom_a
axiom_at (suc zero) = axiom_c
axiom_at (suc (suc j)) = axiom_b

axiom_at_lem : (j : ℕ) → j < 3 → (order (axiom_at j) ≡ j) × (first (axiom_at j) ≡ state_in (28 + j))
unfolding state_in
axiom_at_lem zero h = (refl, refl)
axiom_at_lem (suc zero) h = (refl, refl)
axiom_at_lem (suc (suc zero)) h = (refl, refl)
axiom_at_lem (suc (suc (suc j))) h = let z : ⊥ = omega arith in absurd z

pub axiom_row : (o : ℕ) → o ≤ 5 → state_in (28 + o / 2) ≡ first (axiom_in o)
unfolding axiom_in state_in
axiom_row = six (λ o. state_in (28 + o / 2) ≡ first (axiom_in o)) refl refl refl refl refl refl

pub axiom_order : (o : ℕ) → o ≤ 5 → o / 2 ≡ order (axiom_in o)
unfolding axiom_in
axiom_order = six (λ o. o / 2 ≡ order (axiom_in o)) refl refl refl refl refl refl

-- ---- the end
module _ (j n s : ℕ) (h : j < 3) (l : n ≤ 29) (e : End) (f : e ≡ end_after n s (on_row_of (28 + j))) where
  abbrev state : ℕ
  state = state_in (28 + j)

  wedge : Shape state
  wedge = subst Shape (axiom_at_lem j h).1 (shape (axiom_at j))

  ends : e ≡ record { x = (walk n state s).x; flavor = walk_flavor n state s; y = (walk n state s).y }
  ends =
      let a = axiom_at_lem j h in
      f ∙ ap (λ j. end_after n s (on_row_of (28 + j))) (sym a.0) ∙ after_axiom (axiom_at j) n s ∙ ap (λ k. record { x = (walk n k s).x; flavor = walk_flavor n k s; y = (walk n k s).y }) a.1

  end_small : (e.x < 2 ^ 30) × (e.y < 2 ^ 30)
  end_small =
      let i = walk_in n state s wedge.is_state in
      let p : 2 ^ n ≤ 2 ^ 29 = N.pow-le-pow_right {n = 2} (omega arith) l in
      rw ends (omega (arith, rw wedge.shape_x at i.in_x, p), omega (arith, rw wedge.shape_y at i.in_y, p))

  cell_is : (t : Triple) → t ≡ triple_by (2 ^ suc n) e.x e.y (e.flavor % 2) → ◌≡◌ {A = Cell} (record { triple = t; flavor = e.flavor }) (cell_by state n s)
  unfolding cell_by
  cell_is t g =
      let m = g ∙ ap (λ (e : End). triple_by (2 ^ suc n) e.x e.y (e.flavor % 2)) ends ∙ triple_by_lem state n s wedge in
      λ i. record { triple = m i; flavor = (ends i).flavor }

-- the same, as the code has the resolution
module _ (j r s : ℕ) (h : (j < 3) × ((0 < r) × (r ≤ 30))) (e : End) (f : e ≡ end_after (r - 1) s (on_row_of (28 + j))) where
  pub end_x : e.x < 2 ^ 30
  end_x = (end_small j (r - 1) s h.0 (omega (arith, h.1.1)) e f).0

  pub end_y : e.y < 2 ^ 30
  end_y = (end_small j (r - 1) s h.0 (omega (arith, h.1.1)) e f).1

  pub cell_at_is : (t : Triple) → t ≡ triple_by (2 ^ r) e.x e.y (e.flavor % 2) → ◌≡◌ {A = Cell} (record { triple = t; flavor = e.flavor }) (cell_by (state_in (28 + j)) (r - 1) s)
  cell_at_is t g =
      let m : r ≡ suc (r - 1) = omega arith in
      cell_is j (r - 1) s h.0 (omega arith) e f t (g ∙ ap (λ m. triple_by (2 ^ m) e.x e.y (e.flavor % 2)) m)
