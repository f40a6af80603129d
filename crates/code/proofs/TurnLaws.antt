-- The orientations that are written no more, each by computation; and what a code says in each.
use mathlib.Core.Path.{◌≡◌, refl, sym, ap, ◌∙◌}
use mathlib.Core.Bool.{true, false, not, true≢false}
use Prim.Native.Nat.{ℕ, ◌-◌, ◌*◌, ◌/◌, ◌%◌, ◌^◌, ◌≤◌}
use lib.Dec.{eqb, lit≤}
use borrow.Author.Tests.{eq-eqb, ne_eqb}
use Rattle.triple.specs.Domain.{position_count}
use Rattle.triple.specs.Orientations.{is_backward, place_from, curve_place}
use Rattle.triple.proofs.DomainLaws.{positions_are}
use Rattle.triple.proofs.OrientationLaws.{six}
use Rattle.code.specs.Codes.{code_length, forward_of, reading_of}

-- ---- the forward orientation, off its word
pub forward_read : (o : ℕ) → o ≤ 5 → 185472 / 2 ^ (3 * o) % 8 ≡ forward_of o
unfolding forward_of
forward_read = six (λ o. 185472 / 2 ^ (3 * o) % 8 ≡ forward_of o) refl refl refl refl refl refl

-- it is one that is written
pub forward_written : (o : ℕ) → o ≤ 5 → is_backward (forward_of o) ≡ false
unfolding forward_of is_backward
forward_written = six (λ o. is_backward (forward_of o) ≡ false) refl refl refl refl refl refl

pub forward_good : (o : ℕ) → o ≤ 5 → forward_of o ≤ 5
unfolding forward_of
forward_good = six (λ o. forward_of o ≤ 5) (lit≤ tt) (lit≤ tt) (lit≤ tt) (lit≤ tt) (lit≤ tt) (lit≤ tt)

-- ---- an orientation is backward where its forward one is another
turns : (o : ℕ) → o ≤ 5 → not (eqb (forward_of o) o) ≡ is_backward o
unfolding forward_of is_backward
turns = six (λ o. not (eqb (forward_of o) o) ≡ is_backward o) refl refl refl refl refl refl

module _ (o : ℕ) (good : o ≤ 5) {f : ℕ} (f_is : f ≡ forward_of o) where
  pub retired : (f ≡ o → ⊥) → is_backward o ≡ true
  retired other = sym (turns o good) ∙ ap not (ne_eqb (forward_of o) o (λ e. other (f_is ∙ e)))

  pub current : f ≡ o → is_backward o ≡ false
  current same = sym (turns o good) ∙ ap not (eq-eqb (forward_of o) o (sym f_is ∙ same))

  -- what a code says, with what the reader has worked out
  pub reading_is : (r s : ℕ) → r ≤ 30 → {n : ℕ} → n ≡ position_count r → {p : ℕ} → p ≡ place_from (not (eqb f o)) n s → {used : ℕ} → used ≡ code_length r
      → record { orientation = f; resolution = r; s = p; used = used; old = not (eqb f o) } ≡ reading_of o r s
  unfolding reading_of curve_place
  reading_is r s shallow count place used =
      let old : not (eqb f o) ≡ is_backward o = ap (λ (k : ℕ). not (eqb k o)) f_is ∙ turns o good in
      rw (place, used, old, positions_are r shallow count, f_is)

-- ---- what is said in an orientation that is written is said as it stands
pub current_forward : (o : ℕ) → o ≤ 5 → is_backward o ≡ false → forward_of o ≡ o
unfolding forward_of is_backward
current_forward = six (λ o. is_backward o ≡ false → forward_of o ≡ o) (λ e. refl) (λ e. absurd (true≢false e)) (λ e. refl) (λ e. absurd (true≢false e)) (λ e. absurd (true≢false e)) (λ e. refl)

pub reading_current : (o r s : ℕ) → o ≤ 5 → is_backward o ≡ false → reading_of o r s ≡ record { orientation = o; resolution = r; s = s; used = code_length r; old = false }
unfolding reading_of curve_place place_from
reading_current o r s good e = rw (current_forward o good e, e)

-- and in another as it is turned
pub reading_turned : (o r s : ℕ) → is_backward o ≡ true → reading_of o r s ≡ record { orientation = forward_of o; resolution = r; s = 4 ^ r - 1 - s; used = code_length r; old = true }
unfolding reading_of curve_place place_from
reading_turned o r s e = rw e
