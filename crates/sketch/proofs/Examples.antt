-- Document 01's cases 1 and 3 as lists of entries, a reversed orientation, entries past the last cell, and the refusals in their order. By computation.
use mathlib.Core.Path.{◌≡◌, refl}
use mathlib.Core.List.{List, [], ◌∷◌}
use Prim.Native.Nat.{ℕ}
use lib.IntN.{ℤ, pos, negsuc}
use lib.ListN.{replicate}
use Rattle.triple.specs.Refusals.{told, refused, number_of}
use Rattle.triple.specs.Lent.{count_of, after_call}
use Rattle.triple.specs.Orientations.{axiom_motif, axiom_of, is_backward, is_shifted, place_from, curve_place, moved_by, shifted}
use Rattle.triple.specs.Triples.{is_in_bounds}
use Rattle.turtle.specs.Plane.{origin, ◌⊕◌, rot, rots, far}
use Rattle.turtle.specs.Letters.{toggled, letters, stroke_of}
use Rattle.turtle.specs.Walk.{symbol_of, symbols_of, move, corner, turned_flavor, cell, cells}
use Rattle.turtle.specs.Corners.{corner_sum, candidate, has_corner_sum, triple_of}
use Rattle.text.specs.Words.{words_of as fields_of}
use Rattle.grammar.specs.Words.{upper, mirrored, reversed, word_of, expand_once}
use Rattle.grammar.specs.Texts.{rows_of, line_of, lines_of}
use Rattle.grammar.specs.Curves.{passes, strokes, drawing}
use Rattle.a5.specs.A5.{a5_text, a5}
use Rattle.lsystem.specs.Cells.{drawn_cell, named, cell_at, cell_of}
use Rattle.sketch.specs.Drawings.{cells_from, draw_call}

-- x y z and the flavor before what follows
abbrev four : ℤ → ℤ → ℤ → ℕ → List ℤ → List ℤ
four x y z f l = x ∷ y ∷ z ∷ pos f ∷ l

pub draw_examples :
    (draw_call 0 1 ≡ told (four (pos 0) (pos 0) (pos 0) 0 (four (pos 0) (pos 1) (pos 0) 1 (four (negsuc 0) (pos 1) (pos 0) 2 (four (pos 0) (pos 1) (negsuc 0) 2 [])))))
    × (draw_call 1 1 ≡ told (four (pos 0) (pos 1) (negsuc 0) 2 (four (negsuc 0) (pos 1) (pos 0) 2 (four (pos 0) (pos 1) (pos 0) 1 (four (pos 0) (pos 0) (pos 0) 0 [])))))
    × (after_call (draw_call 5 1) (replicate 17 (pos 7)) ≡ four (negsuc 0) (pos 1) (pos 0) 2 (four (pos 0) (pos 1) (pos 0) 1 (four (pos 0) (pos 0) (pos 0) 0 (four (pos 0) (pos 1) (negsuc 0) 2 (pos 7 ∷ [])))))
    × (count_of (draw_call 5 1) (replicate 16 (pos 7)) ≡ told 16)
    × (count_of (draw_call 5 1) (replicate 15 (pos 7)) ≡ refused 10)
    × (after_call (draw_call 5 1) (replicate 15 (pos 7)) ≡ replicate 15 (pos 7))
unfolding number_of count_of after_call is_in_bounds origin ◌⊕◌ rot rots far toggled letters stroke_of symbol_of symbols_of move corner turned_flavor cell cells corner_sum candidate has_corner_sum triple_of upper mirrored reversed word_of expand_once rows_of fields_of line_of lines_of passes strokes drawing a5_text a5 axiom_motif axiom_of is_backward is_shifted place_from curve_place moved_by shifted drawn_cell named cell_at cell_of cells_from draw_call
draw_examples = (refl, refl, refl, refl, refl, refl)

-- the refusals in their order
pub draw_refused : (draw_call 6 0 ≡ refused 23) × (draw_call 6 7 ≡ refused 23) × (draw_call 6 6 ≡ refused 2)
unfolding number_of draw_call
draw_refused = (refl, refl, refl)
