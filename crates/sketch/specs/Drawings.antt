-- A drawing without tables: the cells that its call gives.
use Rattle.std.specs.Prelude.{◌||◌, List, [], ◌∷◌, ◌++◌, ℕ, zero, suc, ◌^◌, ltb, eqb, ℤ}
use Rattle.triple.specs.declared.refusal.Refusal.TheVariants as Is
use Rattle.triple.specs.Refusals.{Told, told, refuse, ◌>>=◌}
use Rattle.triple.specs.Domain.{in_orientation}
use Rattle.triple.specs.Orientations.{axiom_motif, curve_place, shifted}
use Rattle.turtle.specs.Corners.{triple_of}
use Rattle.tables.specs.Descent.{descent_in}
use Rattle.lsystem.specs.Cells.{cell_of, cell_values}

-- the cells that n positions from s on name, one after the other: x y z flavor of each
unfoldable pub cells_from : ℕ → ℕ → ℕ → ℕ → Told (List ℤ)
cells_from o r zero s = told []
cells_from o r (suc n) s = do
  c ← cell_of o r s
  rest ← cells_from o r n (suc s)
  told (cell_values c ++ rest)

-- THE DRAWING with 1 to 6 passes: the cells of all positions in order
unfoldable pub draw_call : ℕ → ℕ → Told (List ℤ)
draw_call o r =
    refuse (eqb r 0 || ltb 6 r) Is.Passes
    (in_orientation o
    (cells_from o r (4 ^ r) 0))

-- ---- the other opinion
-- the cell that a descent in the part of a table that has A5's 28 states gives at s: its triple, moved as the orientation has it, and its flavor
unfoldable pub descended : List ℤ → ℕ → ℕ → ℕ → ℕ → Told (List ℤ)
descended table start o r s = do
  leaf ← descent_in table start 28 r (axiom_motif o) (curve_place o r s)
  t ← triple_of leaf.sum
  let u = shifted o r t in told (u.x ∷ u.y ∷ u.z ∷ leaf.flavor ∷ [])
