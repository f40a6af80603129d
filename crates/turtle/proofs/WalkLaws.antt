-- Sizes along a walk: a rotation keeps a pair's size and a sum adds two, so that a corner of a cell near the limit still fits.
-- And what a step answers in each case, in the form of what the code has in hand.
use mathlib.Core.Path.{◌≡◌, sym, ap, ◌∙◌}
use mathlib.Core.Bool.{Bool, true, false, ◌&&◌}
use mathlib.Core.List.{[], ◌∷◌}
use Prim.Native.Nat.{ℕ, zero, suc, ◌+◌, ◌%◌, ◌≤◌}
use native.Mathlib.Omega.{arith}
use borrow.Author.Tests.{eq-eqb, ne_eqb}
use lib.Dec.{T}
use lib.IntN.{ℤ}
use Rattle.std.specs.Prelude.{Some, None, Option, Ok, Err}
use Rattle.whole.proofs.Bools.{both, both_left, both_right}
use Rattle.whole.proofs.Parts.{up, dn}
use Rattle.whole.proofs.View.{View, view, v_var, v_pos, v_neg, v_add, v_within, le_by, le_of}
use Rattle.turtle.specs.declared.AB.{AB}
use Rattle.turtle.specs.declared.letter.Stroke.{Stroke}
use Rattle.turtle.specs.declared.walk.Turtle.{Turtle}
use Rattle.turtle.specs.declared.walk.Corners.{Corners}
use Rattle.turtle.specs.declared.walk.Stepped.{Stepped}
use Rattle.turtle.specs.declared.walk.Unhosted.{Unhosted}
use Rattle.turtle.specs.Plane.{ab, ◌⊕◌, rot, rots, far}
use Rattle.turtle.specs.Letters.{stroke_of}
use Rattle.turtle.specs.Walk.{letter, symbol_of, turtle, move, corner, corners, turned_flavor, cell, faced, step_by, step_of, corners_of}
use Rattle.turtle.specs.Inside.Sizes.{Within, Small, Short, Near, Roomy, SmallStroke}

-- ---- a size, by a view, and a view by a size: up less dn is at most n in size
abbrev Sized : ℕ → ℕ → ℕ → Type 0
Sized n up dn = (dn ≤ up + n) × (up ≤ dn + n)

within_by : {n : ℕ} {z : ℤ} (v : View z) → T v.ok → Sized n v.p v.n → Within n z
within_by {n} v t h = record { low = le_by (v_neg (v_pos n)) v t (omega arith); high = le_by v (v_pos n) (both v.ok true t tt) (omega arith) }

within_of : {n : ℕ} {z : ℤ} (v : View z) → T v.ok → Within n z → Sized n v.p v.n
within_of {n} v t w = omega (arith, le_of (v_neg (v_pos n)) v t w.low, le_of v (v_pos n) (both v.ok true t tt) w.high)

abbrev pub v_small : {n : ℕ} {z : ℤ} → Within n z → View z
v_small {n} w = v_within n n w.low w.high

-- ---- the size of a pair
small_by : {n : ℕ} {a b : ℤ} (v : View a) (w : View b) → T (v.ok && w.ok) → Sized n v.p v.n × Sized n w.p w.n × Sized n (v.p + w.p) (v.n + w.n) → Small n (ab a b)
small_by v w t h = record { a = within_by v (both_left v.ok w.ok t) h.0; b = within_by w (both_right v.ok w.ok t) h.1; sum = within_by (v_add v w) t h.2 }

small_of : {n : ℕ} {p : AB} → Small n p → Sized n (up p.a) (dn p.a) × Sized n (up p.b) (dn p.b) × Sized n (up p.a + up p.b) (dn p.a + dn p.b)
small_of {n} {p} s = (within_of (v_var p.a) tt s.a, within_of (v_var p.b) tt s.b, within_of (v_add (v_var p.a) (v_var p.b)) tt s.sum)

pub small_more : {m n : ℕ} {p : AB} → m ≤ n → Small m p → Small n p
small_more {m} {n} {p} h s = small_by (v_var p.a) (v_var p.b) tt (omega (arith, small_of s))

pub rot_small : {n : ℕ} {p : AB} → Small n p → Small n (rot p)
unfolding rot
rot_small {n} {p} s =
    let a = v_var p.a in
    let b = v_var p.b in
    small_by (search view) (search view) tt (omega (arith, small_of s))

pub rots_small : (h : ℕ) {n : ℕ} {p : AB} → Small n p → Small n (rots h p)
unfolding rots
rots_small zero s = s
rots_small (suc h) s = rot_small (rots_small h s)

pub add_small : {m n : ℕ} {p q : AB} → Small m p → Small n q → Small (m + n) (p ⊕ q)
unfolding ◌⊕◌
add_small {m} {n} {p} {q} s t = small_by (v_add (v_var p.a) (v_var q.a)) (v_add (v_var p.b) (v_var q.b)) tt (omega (arith, small_of s, small_of t))

-- ---- room for the sums
-- a and b of a near pair are at most 2 ^ 34, and so a + b at most 2 ^ 35
near_small : {p : AB} → Near p → Small 34359738368 p
near_small {p} n =
    let va = v_var p.a in
    let vb = v_var p.b in
    small_by va vb tt (omega (arith, within_of va tt n.a, within_of vb tt n.b))

pub near_roomy : {p : AB} → Near p → Roomy p
near_roomy n = small_more (omega arith) (near_small n)

pub rots_roomy : (h : ℕ) {c q : AB} → q ≡ rots h c → Short c → Roomy q
rots_roomy h e s = rw e (small_more (omega arith) (rots_small h s))

module _ (s : Stroke) (t : Turtle) (cs : Corners) (e : cs ≡ corners s t) where
  pub corners_roomy : SmallStroke s → Near t.at → Roomy cs.p × Roomy cs.q × Roomy cs.r × Roomy (cs.p ⊕ cs.q)
  unfolding corners corner
  corners_roomy w n =
      let p = add_small (near_small n) (rots_small t.heading w.p) in
      let q = add_small (near_small n) (rots_small t.heading w.q) in
      let r = add_small (near_small n) (rots_small t.heading w.r) in
      rw e (small_more (omega arith) p, small_more (omega arith) q, small_more (omega arith) r, small_more (omega arith) (add_small p q))

  pub cell_at_lem : {u v : AB} {f : Option ℕ} → u ≡ cs.p ⊕ cs.q → v ≡ u ⊕ cs.r → f ≡ turned_flavor t.heading s.flavor → record { sum = v; flavor = f } ≡ cell s t
  unfolding corners cell
  cell_at_lem eu ev ef = rw (ev, eu, ef, e)

-- ---- the cases of a step; `lost` is the test whether the turtle is far
module _ (b : ℕ) (t : Turtle) {lost : Bool} (e : lost ≡ far t.at) where
  pub step_lost : lost ≡ true → Stepped.Lost ≡ step_of b t
  unfolding step_of
  step_lost h = rw (sym e ∙ h)

  pub corners_lost : lost ≡ true → Err Unhosted.Lost ≡ corners_of b t
  unfolding corners_of
  corners_lost h = rw (sym e ∙ h)

  module _ (near : lost ≡ false) where
    pub step_left : b ≡ 43 → Stepped.Turned (turtle t.at ((t.heading % 6 + 1) % 6)) ≡ step_of b t
    unfolding step_of symbol_of move
    step_left h = rw (sym e ∙ near, eq-eqb b 43 h)

    pub step_right : (b ≡ 43 → ⊥) → b ≡ 45 → Stepped.Turned (turtle t.at ((t.heading % 6 + 5) % 6)) ≡ step_of b t
    unfolding step_of symbol_of move
    step_right h k = rw (sym e ∙ near, ne_eqb b 43 h, eq-eqb b 45 k)

    module _ {l : Option Stroke} (d : l ≡ stroke_of b) where
      pub step_none : (b ≡ 43 → ⊥) → (b ≡ 45 → ⊥) → l ≡ None → Stepped.NoDraw ≡ step_of b t
      unfolding step_of symbol_of
      step_none h k n = rw (sym e ∙ near, ne_eqb b 43 h, ne_eqb b 45 k, sym d ∙ n)

      pub step_drew : (b ≡ 43 → ⊥) → (b ≡ 45 → ⊥) → {s : Stroke} {r : Stepped} → l ≡ Some s → r ≡ step_by (letter s ∷ []) (faced t) → r ≡ step_of b t
      unfolding step_of symbol_of
      step_drew h k {s} {r} n i = rw (sym e ∙ near, ne_eqb b 43 h, ne_eqb b 45 k, sym d ∙ n) i

      pub corners_none : l ≡ None → Err Unhosted.NoDraw ≡ corners_of b t
      unfolding corners_of
      corners_none n = rw (sym e ∙ near, sym d ∙ n)

      pub corners_at : {s : Stroke} {cs : Corners} → l ≡ Some s → cs ≡ corners s (faced t) → Ok cs ≡ corners_of b t
      unfolding corners_of
      corners_at {s} {cs} n i = rw (sym e ∙ near, sym d ∙ n) (ap Ok i)
