-- A fold covers the positions of its list, and no others.
use mathlib.Core.Bool.{true, false, true≢false, false≢true}
use mathlib.Core.Logic.{◌↔◌, ◌⊎◌, inl, inr, ⊎_elim}
use mathlib.Core.Path.{◌≡◌, sym, ap, ◌∙◌}
use mathlib.Core.List.{List, [], ◌∷◌, ◌++◌}
use Prim.Native.Nat.{ℕ, zero, suc, ◌+◌, ◌-◌, ◌*◌, ◌/◌, ◌%◌, ◌^◌, ◌<◌}
use native.Mathlib.Nat as N
use native.Mathlib.Omega.{arith}
use native.Mathlib.Decide.{ℕ_discrete}
use lib.Dec.{ltb}
use borrow.Author.Tests.{ltb-true, ne_eqb}
use Rattle.whole.proofs.Digits.{four_power}
use Rattle.fold.specs.Cells.{Cell, cell, Covered}
use Rattle.fold.specs.Folds.{has, all_below, whole, fold_of}
use Rattle.whole.proofs.Bools.{both_true}
use Rattle.fold.proofs.ListLaws.{has_at, has_all}
use Rattle.fold.proofs.Induction.{Loose, fold_all}

pub covered_left : (r s : ℕ) (a b : List Cell) → Covered r a s → Covered r (a ++ b) s
covered_left r s [] b h = absurd h
covered_left r s (c ∷ a) b h = ⊎_elim (λ l. inl l) (λ l. inr (covered_left r s a b l)) h

pub covered_right : (r s : ℕ) (a b : List Cell) → Covered r b s → Covered r (a ++ b) s
covered_right r s [] b h = h
covered_right r s (c ∷ a) b h = inr (covered_right r s a b h)

pub covered_cases : (r s : ℕ) (a b : List Cell) → Covered r (a ++ b) s → Covered r a s ⊎ Covered r b s
covered_cases r s [] b h = inr h
covered_cases r s (c ∷ a) b h = ⊎_elim (λ l. inl (inl l)) (λ l. ⊎_elim (λ j. inl (inr j)) (λ j. inr j) (covered_cases r s a b l)) h

pub below_has : (n s : ℕ) (xs : List ℕ) → all_below n xs ≡ true → has xs s ≡ true → s < n
unfolding all_below has
below_has n s [] e h = absurd (false≢true h)
below_has n s (x ∷ xs) e h =
    let e = both_true (ltb x n) (all_below n xs) e in
    let l : x < n = ltb-true x n e.0 in
    elim (ℕ_discrete x s) [
      | yes q ↦ omega arith
      | no q ↦ below_has n s xs e.1 (rw (ne_eqb x s q) at h)
    ]

-- a whole cell's positions, by their leading digits
pub whole_has : (xs : List ℕ) (k q s : ℕ) → whole xs k q ≡ true → s / 4 ^ k ≡ q → has xs s ≡ true
unfolding whole
whole_has xs k q s w e =
    let f : q * 4 ^ k + s % 4 ^ k ≡ s = rw (← e) (N.div-add-mod' s (4 ^ k)) in
    rw f at (has_at xs (q * 4 ^ k) (4 ^ k) w (s % 4 ^ k) (N.mod-lt s (four_power k)))

pub has_whole : (xs : List ℕ) (k q : ℕ) → ((s : ℕ) → s / 4 ^ k ≡ q → has xs s ≡ true) → whole xs k q ≡ true
unfolding whole
has_whole xs k q f =
    has_all xs (q * 4 ^ k) (4 ^ k) (λ d h. f (q * 4 ^ k + d) (N.mul-add-div_right (four_power k) q d ∙ rw (N.div-eq_of_lt h, N.add-zero)))

pub quarter : (s k : ℕ) → s / 4 ^ suc k ≡ s / 4 ^ k / 4
quarter s k = ap (λ (n : ℕ). s / n) (N.pow-suc 4 k) ∙ sym (N.div-div-eq-div-mul s (4 ^ k) 4)

module _ (r : ℕ) (xs : List ℕ) where
  -- what lies in a cell covers those of its positions that are there
  record Grounded (k m q : ℕ) (cells : List Cell) : Type 0 where
    sound : (s : ℕ) → Covered r cells s → has xs s ≡ true
    complete : (s : ℕ) → has xs s ≡ true → s / 4 ^ k ≡ q → Covered r cells s

  one : (k m q : ℕ) → m + k ≡ r → Loose r xs k q → whole xs k q ≡ true → Grounded k m q (cell m q ∷ [])
  one k m q e f w =
      let j : r - m ≡ k = omega arith in
      record {
        sound = λ s c. ⊎_elim (λ c. whole_has xs k q s w (rw j at c.1)) (λ z. absurd z) c;
        complete = λ s h l. inl (omega arith, rw j l);
      }

  none : (m q : ℕ) → whole xs zero q ≡ false → Grounded zero m q []
  none m q w =
      record {
        sound = λ s c. absurd c;
        complete = λ s h l. absurd (true≢false (sym (has_whole xs zero q (λ t i. (let same : s ≡ t = omega arith in rw same at h))) ∙ w));
      }

  four : (k m q : ℕ) (a b c d : List Cell) → Grounded k (suc m) (4 * q) a → Grounded k (suc m) (4 * q + 1) b → Grounded k (suc m) (4 * q + 2) c
      → Grounded k (suc m) (4 * q + 3) d → Grounded (suc k) m q (a ++ (b ++ (c ++ d)))
  four k m q a b c d fa fb fc fd =
      record {
        sound = λ s h.
            ⊎_elim (fa.sound s)
            (λ h. ⊎_elim (fb.sound s) (λ h. ⊎_elim (fc.sound s) (fd.sound s) (covered_cases r s c d h)) (covered_cases r s b (c ++ d) h))
            (covered_cases r s a (b ++ (c ++ d)) h);
        complete = λ s h l.
            (let p : s / 4 ^ k / 4 ≡ q = rw quarter at l in
            let over : Covered r (b ++ (c ++ d)) s → Covered r (a ++ (b ++ (c ++ d))) s = covered_right r s a (b ++ (c ++ d)) in
            elim (ℕ_discrete (s / 4 ^ k) (4 * q)) [
              | yes e ↦ covered_left r s a (b ++ (c ++ d)) (fa.complete s h e)
              | no x ↦ elim (ℕ_discrete (s / 4 ^ k) (4 * q + 1)) [
                | yes e ↦ over (covered_left r s b (c ++ d) (fb.complete s h e))
                | no y ↦ elim (ℕ_discrete (s / 4 ^ k) (4 * q + 2)) [
                  | yes e ↦ over (covered_right r s b (c ++ d) (covered_left r s c d (fc.complete s h e)))
                  | no z ↦ over (covered_right r s b (c ++ d) (covered_right r s c d (fd.complete s h (omega arith))))
                ]
              ]
            ]);
      }

  pub same_ground : all_below (4 ^ r) xs ≡ true → (s : ℕ) → Covered r (fold_of r xs) s ↔ (has xs s ≡ true)
  same_ground below s =
      let g = fold_all r xs Grounded one none four in
      (g.sound s, λ h. g.complete s h (N.div-eq_of_lt (below_has (4 ^ r) s xs below h)))
