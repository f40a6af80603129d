-- How many looks a lookup takes: a triple looked up by A5's table, look by look, in each orientation; and what the lookup of a cell answers.
use Rattle.std.specs.Prelude.{cond, List, [], ◌∷◌, ℕ, zero, suc, ◌*◌, ◌^◌, ℤ, pos, ◌+ℤ◌, ◌-ℤ◌}
use Rattle.triple.specs.declared.Triple.{Triple}
use Rattle.triple.specs.Refusals.{Told, told, ◌>>=◌}
use Rattle.triple.specs.Orientations.{axiom_motif, is_shifted, curve_place}
use Rattle.turtle.specs.declared.AB.{AB}
use Rattle.turtle.specs.Plane.{origin}
use Rattle.turtle.specs.Corners.{corner_sum}
use Rattle.tables.specs.Patterns.{side_threshold}
use Rattle.a5.specs.Lookup.{Looks, lookup, AtPicks}
use Rattle.lsystem.specs.declared.Position.{Position}
use Rattle.lsystem.specs.declared.Located.{Located}
use Rattle.lsystem.specs.Cells.{position_of}

-- ---- look by look
-- (x, y, z) as it was drawn, before the cells of VW and WV are moved: there (x + 2 ^ r, y - 2 ^ r, z)
unfoldable pub unmoved : ℕ → ℕ → Triple → Triple
unmoved o r t =
    cond (is_shifted o) (record { x = t.x +ℤ pos (2 ^ r); y = t.y -ℤ pos (2 ^ r); z = t.z }) t

-- THE LOOKUP, with a threshold for the separators' bits: the position that is found, and the looks that led there. It goes through the axiom's own curve, and the
-- place in it is counted from the other end for VU, WU and VW. The one cell of resolution 0 takes no look.
unfoldable pub looked_up : ℤ → ℕ → ℕ → Triple → Looks
looked_up threshold o zero t = record { place = 0; picks = 0; comparisons = 0 }
looked_up threshold o (suc n) t =
    let l = lookup threshold n (2 * axiom_motif o) origin (corner_sum (unmoved o (suc n) t)) in
    record { place = curve_place o (suc n) l.place; picks = l.picks; comparisons = l.comparisons }

-- what holds at each of its picks
unfoldable pub AtLooks : (ℕ → ℕ → AB → Type 0) → ℤ → ℕ → ℕ → Triple → Type 0
AtLooks Holds threshold o zero t = Unit {0}
AtLooks Holds threshold o (suc n) t = AtPicks Holds threshold n (2 * axiom_motif o) origin (corner_sum (unmoved o (suc n) t))

-- the lookup of this curve, with the threshold of every table, -1
abbrev pub looks_of : ℕ → ℕ → Triple → Looks
looks_of o r t = looked_up side_threshold o r t

-- ---- what is answered
-- a position that is found, with the looks of the triple's lookup
unfoldable pub with_looks : ℕ → ℕ → Triple → Told Position → Told Located
with_looks o r t found = do
  p ← found
  told (record { position = p; picks = (looks_of o r t).picks; comparisons = (looks_of o r t).comparisons })

-- THE ANSWER of the lookup of the triple t at resolution r in orientation o; a refused call tells of no looks
unfoldable pub located_of : ℕ → ℕ → Triple → Told Located
located_of o r t = with_looks o r t (position_of o r t)

-- its values, as they are written to a slice: s flavor picks comparisons
abbrev pub located_values : Located → List ℕ
located_values l = l.position.s ∷ l.position.flavor ∷ l.picks ∷ l.comparisons ∷ []
