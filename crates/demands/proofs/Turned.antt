-- AN OLD CODE names the cell that it named: an orientation that runs a curve backward, and the one that runs it forward, draw the same letters and
-- move them alike, so the same place counted from the other end hosts the same cell.
use mathlib.Core.Bool.{true}
use mathlib.Core.Path.{◌≡◌, refl, sym, ap, ◌∙◌}
use Prim.Native.Nat.{ℕ, zero, suc, ◌-◌, ◌^◌, ◌≤◌, ◌<◌}
use borrow.Author.Tests.{le-ltb, lt-leb}
use Rattle.triple.specs.Orientations.{axiom_motif, axiom_of, is_backward, is_shifted, place_from, curve_place, shifted}
use Rattle.triple.proofs.OrientationLaws.{six, place_small}
use Rattle.triple.specs.Refusals.{told}
use Rattle.code.specs.Codes.{forward_of, reading_of}
use Rattle.code.proofs.TurnLaws.{forward_good, forward_written, reading_current, reading_turned}
use Rattle.code.proofs.RoundTrip.{read_back}
use Rattle.lsystem.specs.Cells.{drawn_cell, named, cell_at, cell_of}
use Rattle.demands.specs.Demands.{CodeRead}

-- ---- the two orientations of one curve
same_letter : (o : ℕ) → o ≤ 5 → axiom_of (forward_of o) ≡ axiom_of o
unfolding forward_of axiom_motif axiom_of
same_letter = six (λ o. axiom_of (forward_of o) ≡ axiom_of o) refl refl refl refl refl refl

same_shift : (o : ℕ) → o ≤ 5 → is_shifted (forward_of o) ≡ is_shifted o
unfolding forward_of is_shifted
same_shift = six (λ o. is_shifted (forward_of o) ≡ is_shifted o) refl refl refl refl refl refl

module _ (o r s : ℕ) (good : o ≤ 5) where
  same_drawn : drawn_cell (forward_of o) r (curve_place o r s) ≡ drawn_cell o r s
  unfolding drawn_cell curve_place place_from
  same_drawn = rw (same_letter o good, forward_written o good)

  same_at : cell_at (forward_of o) r (curve_place o r s) ≡ cell_at o r s
  unfolding cell_at named shifted
  same_at = by r same_drawn
    where
      by : (r : ℕ) → drawn_cell (forward_of o) r (curve_place o r s) ≡ drawn_cell o r s → cell_at (forward_of o) r (curve_place o r s) ≡ cell_at o r s
      by zero e = refl
      by (suc r) e = rw (e, same_shift o good)

  same_cell : s < 4 ^ r → cell_of (forward_of o) r (curve_place o r s) ≡ cell_of o r s
  unfolding cell_of
  same_cell h = rw (le-ltb 5 o good, le-ltb 5 (forward_of o) (forward_good o good), lt-leb (4 ^ r) s h, lt-leb (4 ^ r) (curve_place o r s) (place_small o r s h), same_at)

-- what a code says names its own cell
pub reading_names : (o r s : ℕ) → o ≤ 5 → s < 4 ^ r → cell_of (reading_of o r s).orientation (reading_of o r s).resolution (reading_of o r s).s ≡ cell_of o r s
unfolding reading_of
reading_names o r s good h = same_cell o r s good h

pub code_read : (o r s : ℕ) → o ≤ 5 → r ≤ 30 → s < 4 ^ r → CodeRead o r s
unfolding curve_place place_from
code_read o r s ho hr hs = record {
  kept = λ b rest. read_back o r s rest ho hr hs ∙ ap told (reading_current o r s ho b);
  turned = λ b rest. read_back o r s rest ho hr hs ∙ ap told (reading_turned o r s b);
  forward = forward_written o ho;
  cell = λ b. ap (cell_of (forward_of o) r) (sym (placed b)) ∙ same_cell o r s ho hs;
}
  where
    placed : is_backward o ≡ true → curve_place o r s ≡ 4 ^ r - 1 - s
    placed b = rw b
