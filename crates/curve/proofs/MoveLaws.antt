-- Whether a point was moved, in the form of what the code has in hand; and what that says: the triple of its own floors and parity is out of bounds.
use mathlib.Core.Path.{◌≡◌, refl, sym, ap, ◌∙◌}
use mathlib.Core.Logic.{◌↔◌}
use mathlib.Core.Bool.{Bool, true, false, ◌||◌, true≢false}
use Prim.Native.Nat.{ℕ, suc, ◌+◌, ◌-◌, ◌^◌, ◌≤◌, ◌<◌}
use native.Mathlib.Omega.{arith}
use borrow.Author.Tests.{le-ltb, ltb-true, ltb-false}
use lib.Dec.{leb→le}
use lib.Ieee.{Float}
use lib.IntN.{ℤ, pos, negsuc, nat_abs, ◌+ℤ◌}
use lib.Signed.{lt_z}
use mir.Syntax.{w64}
use mir.Val.{SFits, to_z}
use Rattle.whole.proofs.TestLaws.{Hold, false_pass}
use Rattle.whole.proofs.View.{View, rd, v_pos, v_add, v_bits, v_unsigned, v_abs, eq_by, fits, kept}
use Rattle.triple.specs.Refusals.{told}
use Rattle.triple.specs.Triples.{bounds, is_in_bounds}
use Rattle.curve.specs.declared.PointCell.{PointCell}
use Rattle.curve.specs.Points.{floor, parity, clamped, settled, is_moved, own_triple, mark_of, point_by, point_of}
use Rattle.curve.proofs.PointLaws.{settled_whole, settled_in_bounds, by_is, parity_small}

-- ---- from the floors m and n, the parity and the last row
module _ (last : ℕ) (m n : ℤ) (p : ℕ) where
  module _ (hm : nat_abs m ≤ 2 ^ 31) where
    m_read : rd w64 m ≡ m
    m_read = kept w64 refl (v_abs m (2 ^ 31) hm) tt

    m_sign : {b : Bool} → lt_z (rd w64 m) (pos 0) ≡ b → lt_z m (pos 0) ≡ b
    m_sign h = ap (λ (z : ℤ). lt_z z (pos 0)) (sym m_read) ∙ h

    pub m_negative : lt_z (rd w64 m) (pos 0) ≡ true → true ≡ is_moved last m n p
    unfolding is_moved
    m_negative h = rw (m_sign h)

    module _ (hn : nat_abs n ≤ 2 ^ 31) where
      n_read : rd w64 n ≡ n
      n_read = kept w64 refl (v_abs n (2 ^ 31) hn) tt

      n_sign : {b : Bool} → lt_z (rd w64 n) (pos 0) ≡ b → lt_z n (pos 0) ≡ b
      n_sign h = ap (λ (z : ℤ). lt_z z (pos 0)) (sym n_read) ∙ h

      pub n_negative : lt_z (rd w64 m) (pos 0) ≡ false → lt_z (rd w64 n) (pos 0) ≡ true → true ≡ is_moved last m n p
      unfolding is_moved
      n_negative g h = rw (m_sign g, n_sign h)

      abbrev v_sum : View (rd w64 m +ℤ rd w64 n)
      v_sum = v_add (v_bits w64 m (v_abs m (2 ^ 31) hm)) (v_bits w64 n (v_abs n (2 ^ 31) hn))

      pub sum_fits : SFits w64 (rd w64 m +ℤ rd w64 n)
      sum_fits = fits v_sum tt

      module _ (hp : p ≤ 1) where
        abbrev v_row : View (rd w64 (rd w64 m +ℤ rd w64 n) +ℤ to_z w64 p)
        v_row = v_add (v_bits w64 (rd w64 m +ℤ rd w64 n) v_sum) (v_unsigned w64 p 1 hp)

        pub row_fits : SFits w64 (rd w64 (rd w64 m +ℤ rd w64 n) +ℤ to_z w64 p)
        row_fits = fits v_row tt

        row_read : rd w64 (rd w64 (rd w64 m +ℤ rd w64 n) +ℤ to_z w64 p) ≡ m +ℤ n +ℤ pos p
        row_read = eq_by (v_bits w64 (rd w64 (rd w64 m +ℤ rd w64 n) +ℤ to_z w64 p) v_row) (v_add (v_add (v_abs m (2 ^ 31) hm) (v_abs n (2 ^ 31) hn)) (v_pos p)) tt (omega arith)

        last_read : last ≤ 2 ^ 30 → to_z w64 last ≡ pos last
        last_read hl = eq_by (v_unsigned w64 last (2 ^ 30) hl) (v_pos last) tt (omega arith)

        pub row_beyond : last ≤ 2 ^ 30 → lt_z (rd w64 m) (pos 0) ≡ false → lt_z (rd w64 n) (pos 0) ≡ false → {b : Bool}
            → b ≡ lt_z (to_z w64 last) (rd w64 (rd w64 (rd w64 m +ℤ rd w64 n) +ℤ to_z w64 p)) → b ≡ is_moved last m n p
        unfolding is_moved
        row_beyond hl g h e = e ∙ (λ i. lt_z (last_read hl i) (row_read i)) ∙ rw (m_sign g, n_sign h)

pub ruleset moving = (m_negative, n_negative, sum_fits, row_fits, row_beyond)

-- ---- the mark as a number
module _ (p : PointCell) where
  pub mark_one : p.moved ≡ true → 1 ≡ mark_of p
  unfolding mark_of
  mark_one e = rw e

  pub mark_zero : p.moved ≡ false → 0 ≡ mark_of p
  unfolding mark_of
  mark_zero e = rw e

pub ruleset marking = (mark_one, mark_zero)

-- ---- what the mark says
-- not moved: the floors are what they are clamped to, and nothing is beyond the last row
pub settled_own : (last : ℕ) (m n : ℤ) (p : ℕ) → is_moved last m n p ≡ false → settled last (clamped m) (clamped n) p ≡ own_triple m n p
unfolding is_moved
settled_own last (pos a) (pos b) p h =
    let few : a + b + p ≤ last = ltb-false last (a + b + p) (rw (le-ltb a 0 (omega arith), le-ltb b 0 (omega arith)) at h) in
    sym (settled_whole a b p last few refl)
settled_own last (pos a) (negsuc b) p h = absurd (true≢false (rw (le-ltb a 0 (omega arith)) at h))
settled_own last (negsuc a) n p h = absurd (true≢false h)

-- moved: one of the tests of the bounds does not hold
out_of_bounds : (r : ℕ) (m n : ℤ) (p : ℕ) → is_moved (2 ^ r - 1) m n p ≡ true → is_in_bounds r (own_triple m n p) ≡ false
unfolding is_moved is_in_bounds
out_of_bounds r m n p h = sym (false_pass (bounds r (own_triple m n p)) (λ held. go m n h held))
  where
    go : (m n : ℤ) → (lt_z m (pos 0) || lt_z n (pos 0) || lt_z (pos (2 ^ r - 1)) (m +ℤ n +ℤ pos p)) ≡ true → Hold (bounds r (own_triple m n p)) → ⊥
    go (negsuc a) n h held = let low : suc a ≤ 0 = leb→le (suc a) 0 held.1.1.1.0.le in omega arith
    go (pos a) (negsuc b) h held = let low : suc b ≤ 0 = leb→le (suc b) 0 held.1.1.0.le in omega arith
    go (pos a) (pos b) h held =
        let far : 2 ^ r - 1 < a + b + p = ltb-true (2 ^ r - 1) (a + b + p) (rw (le-ltb a 0 (omega arith), le-ltb b 0 (omega arith)) at h) in
        let low : a + b + p ≤ 2 ^ r - 1 = leb→le (a + b + p) (2 ^ r - 1) held.1.1.1.1.1.0.le in
        omega arith

own_in_bounds : (r : ℕ) (m n : ℤ) (p : ℕ) → p ≤ 1 → is_moved (2 ^ r - 1) m n p ≡ false → is_in_bounds r (own_triple m n p) ≡ true
own_in_bounds r m n p l h = rw (← settled_own (2 ^ r - 1) m n p h) (settled_in_bounds r (clamped m) (clamped n) p l)

-- THE MARK of a point, whoever tells the parity: exactly when the triple of its own floors and parity is out of bounds
module _ (tell : Float → Float → ℕ) (r : ℕ) (i j : Float) (p : PointCell) (e : point_by tell r i j ≡ told p) where
  pub by_moved_exactly : tell i j ≤ 1 → (p.moved ≡ true) ↔ (is_in_bounds r (own_triple (floor i) (floor j) (tell i j)) ≡ false)
  by_moved_exactly small =
      let is = ap (λ (p : PointCell). p.moved) (by_is tell r i j p e) in
      let within = own_in_bounds r (floor i) (floor j) (tell i j) small in
      (λ t. out_of_bounds r (floor i) (floor j) (tell i j) (sym is ∙ t), λ out. marked p.moved (λ f. true≢false (sym (within (sym is ∙ f)) ∙ out)))
    where
      marked : (b : Bool) → (b ≡ false → ⊥) → b ≡ true
      marked true h = refl
      marked false h = absurd (h refl)

  -- where it is not moved, that triple is the answer
  pub by_unmoved_own : p.moved ≡ false → p.triple ≡ own_triple (floor i) (floor j) (tell i j)
  by_unmoved_own f =
      let is = by_is tell r i j p e in
      ap (λ (p : PointCell). p.triple) is ∙ settled_own (2 ^ r - 1) (floor i) (floor j) (tell i j) (sym (ap (λ (p : PointCell). p.moved) is) ∙ f)

module _ (r : ℕ) (i j : Float) (p : PointCell) where
  pub moved_exactly : point_of r i j ≡ told p → (p.moved ≡ true) ↔ (is_in_bounds r (own_triple (floor i) (floor j) (parity i j)) ≡ false)
  unfolding point_of
  moved_exactly e = by_moved_exactly parity r i j p e (parity_small i j)

  pub unmoved_own : point_of r i j ≡ told p → p.moved ≡ false → p.triple ≡ own_triple (floor i) (floor j) (parity i j)
  unfolding point_of
  unmoved_own = by_unmoved_own parity r i j p
