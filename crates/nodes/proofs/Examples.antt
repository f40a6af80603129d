-- Worked examples of child steps and nodes. All by computation.
use Rattle.std.proofs.Common.{◌≡◌, ℕ, true, false, ℤ, pos, negsuc, refl}
use lib.Ieee.{Float, nan, inf, fin, of_int, to_signed}
use Rattle.triple.specs.declared.Triple.{Triple}
use Rattle.triple.specs.Refusals.{Told, told, refused, number_of}
use Rattle.triple.specs.Orientations.{axiom_motif, axiom_of, is_backward, is_shifted, place_from, curve_place, moved_by, shifted}
use Rattle.triple.specs.Triples.{is_in_bounds}
use Rattle.turtle.specs.Plane.{origin, neg, ◌⊕◌, thrice, signed, facing, flipped, rot, rots, far}
use Rattle.turtle.specs.Letters.{toggled, letters, stroke_of}
use Rattle.turtle.specs.Walk.{symbol_of, symbols_of, move, corner, turned_flavor, cell, cells, final}
use Rattle.turtle.specs.Corners.{corner_sum, candidate, has_corner_sum, triple_of}
use Rattle.grammar.specs.Words.{upper, mirrored, reversed, word_of, expand_once}
use Rattle.text.specs.Words.{words_of as fields_of}
use Rattle.grammar.specs.Texts.{rows_of, line_of, lines_of}
use Rattle.grammar.specs.Curves as Curves
use Rattle.grammar.specs.Curves.{passes, strokes, drawing, net, token_bytes, letter_of, token_of, rule_symbols}
use Rattle.tables.specs.Children.{children_along, children, offset_after, offset, leaves}
use Rattle.nodes.specs.declared.Node.{Node}
use Rattle.nodes.specs.declared.ChildStep.{ChildStep}
use Rattle.a5.specs.A5.{a5_text, a5}
use Rattle.lsystem.specs.Cells.{drawn_cell, named, cell_at, cell_of, seek, position_of}
use Rattle.nodes.specs.Nodes.{good_position, good_frame, good_node, can_step, frame_start, frame, axiom_frame, axiom_node, child_cell, below, cell_below_of, step_to, child_step_of, frame_at, node_at, node_of}

abbrev triple : ℤ → ℤ → ℤ → Triple
triple x y z = record { x = x; y = y; z = z }

abbrev node_with : ℕ → ℕ → ℕ → ℕ → Float → Float → Node
node_with o r m f a b = record { orientation = o; resolution = r; frame = record { motif = m; flip = f; pos_a = a; pos_b = b } }

abbrev step : ℤ → ℤ → ℤ → ℕ → Node → Told ChildStep
step x y z f n = told (record { cell = record { triple = triple x y z; flavor = f }; node = n })

-- down to UV's position 6 and VW's position 9 at resolution 2, which name one cell, and what its lookup reaches
pub step_examples :
    (child_step_of (axiom_node 0) 1 ≡ step (pos 0) (pos 1) (pos 0) 1 (node_with 0 1 5 0 (fin false 1 (pos 3)) (fin true 1 (pos 2))))
    × (child_step_of (node_at 0 1 1) 2 ≡ step (negsuc 0) (pos 2) (pos 0) 3 (node_at 0 2 6))
    × (child_step_of (node_at 4 1 2) 1 ≡ step (negsuc 0) (pos 2) (pos 0) 3 (node_with 4 2 1 1 (fin true 1 (pos 4)) (fin false 3 (pos 3))))
    × (node_of 0 2 (triple (negsuc 0) (pos 2) (pos 0)) ≡ told (record { position = record { s = 6; flavor = 3 }; node = node_at 0 2 6 }))
    × (node_of 2 0 (triple (pos 0) (pos 0) (pos 0)) ≡ told (record { position = record { s = 0; flavor = 2 }; node = axiom_node 2 }))
unfolding number_of is_in_bounds origin neg ◌⊕◌ thrice signed facing flipped rot rots far toggled letters stroke_of symbol_of symbols_of move corner turned_flavor cell cells final corner_sum candidate has_corner_sum triple_of upper mirrored reversed word_of expand_once rows_of fields_of line_of lines_of Curves.rule_symbol passes strokes drawing net token_bytes letter_of token_of rule_symbols children_along children offset_after offset leaves a5_text a5 axiom_motif axiom_of is_backward is_shifted place_from curve_place moved_by shifted drawn_cell named cell_at cell_of seek position_of good_position good_frame good_node can_step frame_start frame axiom_frame axiom_node child_cell below cell_below_of step_to child_step_of frame_at node_at node_of of_int to_signed
step_examples = (refl, refl, refl, refl, refl)

abbrev zero_at : Float
zero_at = fin false 0 (pos 0)

-- the refusals in their order
pub refused_steps :
    (child_step_of (node_with 6 0 0 0 zero_at zero_at) 4 ≡ refused 7)
    × (child_step_of (node_with 0 31 0 0 zero_at zero_at) 4 ≡ refused 7)
    × (child_step_of (node_with 0 30 0 0 zero_at zero_at) 0 ≡ refused 7)
    × (child_step_of (node_with 0 0 14 0 zero_at zero_at) 4 ≡ refused 7)
    × (child_step_of (node_with 0 0 0 2 zero_at zero_at) 0 ≡ refused 7)
    × (child_step_of (node_with 0 0 0 0 nan zero_at) 0 ≡ refused 7)
    × (child_step_of (node_with 0 0 0 0 (inf true) zero_at) 0 ≡ refused 7)
    × (child_step_of (node_with 0 0 0 0 (fin true 0 (pos 0)) zero_at) 0 ≡ refused 7)
    × (child_step_of (node_with 0 0 0 0 zero_at (fin false 1 (pos 1))) 0 ≡ refused 7)
    × (child_step_of (node_with 0 0 0 0 zero_at (fin true 1 (pos 37))) 0 ≡ refused 7)
    × (child_step_of (node_with 0 0 0 0 zero_at (fin true 1 (pos 36))) 4 ≡ refused 8)
    × (child_step_of (node_with 0 0 0 0 zero_at (fin true 1 (pos 36))) 0 ≡ refused 5)
    × (child_step_of (node_with 0 0 0 0 zero_at (fin true 1 (pos 2))) 0 ≡ refused 5)
unfolding number_of is_in_bounds origin neg ◌⊕◌ thrice signed facing flipped rot rots far toggled letters stroke_of symbol_of symbols_of move corner turned_flavor cell cells final corner_sum candidate has_corner_sum triple_of upper mirrored reversed word_of expand_once rows_of fields_of line_of lines_of Curves.rule_symbol passes strokes drawing net token_bytes letter_of token_of rule_symbols children_along children offset_after offset leaves a5_text a5 axiom_motif axiom_of is_backward is_shifted place_from curve_place moved_by shifted named good_position good_frame good_node can_step frame_start frame child_cell below cell_below_of step_to child_step_of of_int to_signed
refused_steps = (refl, refl, refl, refl, refl, refl, refl, refl, refl, refl, refl, refl, refl)
