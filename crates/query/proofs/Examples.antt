-- The example lines of document 01's program, and lines that are refused, by computation.
use mathlib.Core.Path.{◌≡◌, refl}
use mathlib.Core.List.{List, [], ◌∷◌}
use Prim.Native.Nat.{ℕ}
use lib.Ieee.{add, sub, le, of_int, of_bits}
use Rattle.triple.specs.Refusals.{number_of}
use Rattle.triple.specs.Orientations.{axiom_motif, axiom_of, is_backward, is_shifted, place_from, curve_place, moved_by, shifted}
use Rattle.triple.specs.Triples.{is_in_bounds}
use Rattle.turtle.specs.Plane.{origin, ◌⊕◌, rot, rots, far}
use Rattle.turtle.specs.Letters.{toggled, letters, stroke_of}
use Rattle.turtle.specs.Walk.{symbol_of, symbols_of, move, corner, turned_flavor, cell, cells}
use Rattle.turtle.specs.Corners.{corner_sum, candidate, has_corner_sum, triple_of}
use Rattle.grammar.specs.Words.{upper, mirrored, reversed, word_of, expand_once}
use Rattle.text.specs.Words.{words_of, spaced}
use Rattle.text.specs.Digits.{digit_of}
use Rattle.text.specs.Decimals.{is_decimal, up_to, signed, digits, natural, integer}
use Rattle.text.specs.Patterns.{f64}
use Rattle.grammar.specs.Texts.{rows_of, line_of, lines_of}
use Rattle.grammar.specs.Curves.{passes, strokes, drawing}
use Rattle.a5.specs.A5.{a5_text, a5}
use Rattle.lsystem.specs.Cells.{drawn_cell, named, cell_at, cell_of, seek, position_of}
use Rattle.curve.specs.Points.{near, floor, fraction, parity, settled, is_moved, mark_of, point_of}
use Rattle.query.specs.Queries.{answer_of}
use Rattle.query.specs.Lines.{headed, starts, query_of, found_words, answer_line}

-- the seven of the program
pub line_examples :
    -- P 0 1 2 prints -1 1 0 2
    (answer_line (80 ∷ 32 ∷ 48 ∷ 32 ∷ 49 ∷ 32 ∷ 50 ∷ []) ≡ 45 ∷ 49 ∷ 32 ∷ 49 ∷ 32 ∷ 48 ∷ 32 ∷ 50 ∷ [])
    -- P 5 1 0 prints -1 1 0 2
    × (answer_line (80 ∷ 32 ∷ 53 ∷ 32 ∷ 49 ∷ 32 ∷ 48 ∷ []) ≡ 45 ∷ 49 ∷ 32 ∷ 49 ∷ 32 ∷ 48 ∷ 32 ∷ 50 ∷ [])
    -- C 0 2 -1 2 0 prints 6 3
    × (answer_line (67 ∷ 32 ∷ 48 ∷ 32 ∷ 50 ∷ 32 ∷ 45 ∷ 49 ∷ 32 ∷ 50 ∷ 32 ∷ 48 ∷ []) ≡ 54 ∷ 32 ∷ 51 ∷ [])
    -- C 1 2 0 3 -3 prints 0 2
    × (answer_line (67 ∷ 32 ∷ 49 ∷ 32 ∷ 50 ∷ 32 ∷ 48 ∷ 32 ∷ 51 ∷ 32 ∷ 45 ∷ 51 ∷ []) ≡ 48 ∷ 32 ∷ 50 ∷ [])
    -- R 0 1 3FE0000000000000 3FE0000000000000 prints 0 1 0 1 1 0
    × (answer_line (82 ∷ 32 ∷ 48 ∷ 32 ∷ 49 ∷ 32 ∷ 51 ∷ 70 ∷ 69 ∷ 48 ∷ 48 ∷ 48 ∷ 48 ∷ 48 ∷ 48 ∷ 48 ∷ 48 ∷ 48 ∷ 48 ∷ 48 ∷ 48 ∷ 48 ∷ 32 ∷ 51 ∷ 70 ∷ 69 ∷ 48 ∷ 48 ∷ 48 ∷ 48 ∷ 48 ∷ 48 ∷ 48 ∷ 48 ∷ 48 ∷ 48 ∷ 48 ∷ 48 ∷ 48 ∷ []) ≡ 48 ∷ 32 ∷ 49 ∷ 32 ∷ 48 ∷ 32 ∷ 49 ∷ 32 ∷ 49 ∷ 32 ∷ 48 ∷ [])
    -- P 0 1 4 prints ! 3
    × (answer_line (80 ∷ 32 ∷ 48 ∷ 32 ∷ 49 ∷ 32 ∷ 52 ∷ []) ≡ 33 ∷ 32 ∷ 51 ∷ [])
    -- C 0 1 0 2 -2 prints ! 5
    × (answer_line (67 ∷ 32 ∷ 48 ∷ 32 ∷ 49 ∷ 32 ∷ 48 ∷ 32 ∷ 50 ∷ 32 ∷ 45 ∷ 50 ∷ []) ≡ 33 ∷ 32 ∷ 53 ∷ [])
unfolding number_of is_in_bounds origin ◌⊕◌ rot rots far toggled letters stroke_of symbol_of symbols_of move corner turned_flavor cell cells corner_sum candidate has_corner_sum triple_of upper mirrored reversed word_of expand_once rows_of words_of line_of lines_of passes strokes drawing a5_text a5 axiom_motif axiom_of is_backward is_shifted place_from curve_place moved_by shifted drawn_cell named cell_at cell_of seek position_of near floor fraction parity settled is_moved mark_of point_of add sub le of_int of_bits digit_of is_decimal up_to signed f64 digits natural integer answer_of headed starts query_of found_words spaced answer_line
line_examples = (refl, refl, refl, refl, refl, refl, refl)

-- the refusals in their order
pub refused_lines :
    -- P 6 31 0 prints ! 1
    (answer_line (80 ∷ 32 ∷ 54 ∷ 32 ∷ 51 ∷ 49 ∷ 32 ∷ 48 ∷ []) ≡ 33 ∷ 32 ∷ 49 ∷ [])
    -- C 6 30 9 9 9 prints ! 2
    × (answer_line (67 ∷ 32 ∷ 54 ∷ 32 ∷ 51 ∷ 48 ∷ 32 ∷ 57 ∷ 32 ∷ 57 ∷ 32 ∷ 57 ∷ []) ≡ 33 ∷ 32 ∷ 50 ∷ [])
    -- R 6 31 7FF8000000000000 0000000000000000 prints ! 1
    × (answer_line (82 ∷ 32 ∷ 54 ∷ 32 ∷ 51 ∷ 49 ∷ 32 ∷ 55 ∷ 70 ∷ 70 ∷ 56 ∷ 48 ∷ 48 ∷ 48 ∷ 48 ∷ 48 ∷ 48 ∷ 48 ∷ 48 ∷ 48 ∷ 48 ∷ 48 ∷ 48 ∷ 32 ∷ 48 ∷ 48 ∷ 48 ∷ 48 ∷ 48 ∷ 48 ∷ 48 ∷ 48 ∷ 48 ∷ 48 ∷ 48 ∷ 48 ∷ 48 ∷ 48 ∷ 48 ∷ 48 ∷ []) ≡ 33 ∷ 32 ∷ 49 ∷ [])
    -- R 6 30 7FF8000000000000 0000000000000000 prints ! 2
    × (answer_line (82 ∷ 32 ∷ 54 ∷ 32 ∷ 51 ∷ 48 ∷ 32 ∷ 55 ∷ 70 ∷ 70 ∷ 56 ∷ 48 ∷ 48 ∷ 48 ∷ 48 ∷ 48 ∷ 48 ∷ 48 ∷ 48 ∷ 48 ∷ 48 ∷ 48 ∷ 48 ∷ 32 ∷ 48 ∷ 48 ∷ 48 ∷ 48 ∷ 48 ∷ 48 ∷ 48 ∷ 48 ∷ 48 ∷ 48 ∷ 48 ∷ 48 ∷ 48 ∷ 48 ∷ 48 ∷ 48 ∷ []) ≡ 33 ∷ 32 ∷ 50 ∷ [])
    -- R 5 30 7FF8000000000000 0000000000000000 prints ! 9
    × (answer_line (82 ∷ 32 ∷ 53 ∷ 32 ∷ 51 ∷ 48 ∷ 32 ∷ 55 ∷ 70 ∷ 70 ∷ 56 ∷ 48 ∷ 48 ∷ 48 ∷ 48 ∷ 48 ∷ 48 ∷ 48 ∷ 48 ∷ 48 ∷ 48 ∷ 48 ∷ 48 ∷ 32 ∷ 48 ∷ 48 ∷ 48 ∷ 48 ∷ 48 ∷ 48 ∷ 48 ∷ 48 ∷ 48 ∷ 48 ∷ 48 ∷ 48 ∷ 48 ∷ 48 ∷ 48 ∷ 48 ∷ []) ≡ 33 ∷ 32 ∷ 57 ∷ [])
    -- C 5 30 2147483647 0 -2147483648 prints ! 4
    × (answer_line (67 ∷ 32 ∷ 53 ∷ 32 ∷ 51 ∷ 48 ∷ 32 ∷ 50 ∷ 49 ∷ 52 ∷ 55 ∷ 52 ∷ 56 ∷ 51 ∷ 54 ∷ 52 ∷ 55 ∷ 32 ∷ 48 ∷ 32 ∷ 45 ∷ 50 ∷ 49 ∷ 52 ∷ 55 ∷ 52 ∷ 56 ∷ 51 ∷ 54 ∷ 52 ∷ 56 ∷ []) ≡ 33 ∷ 32 ∷ 52 ∷ [])
    -- P 0 0 18446744073709551615 prints ! 3
    × (answer_line (80 ∷ 32 ∷ 48 ∷ 32 ∷ 48 ∷ 32 ∷ 49 ∷ 56 ∷ 52 ∷ 52 ∷ 54 ∷ 55 ∷ 52 ∷ 52 ∷ 48 ∷ 55 ∷ 51 ∷ 55 ∷ 48 ∷ 57 ∷ 53 ∷ 53 ∷ 49 ∷ 54 ∷ 49 ∷ 53 ∷ []) ≡ 33 ∷ 32 ∷ 51 ∷ [])
unfolding number_of words_of digit_of is_decimal up_to signed f64 digits natural of_bits integer near cell_of position_of point_of answer_of headed starts query_of found_words spaced answer_line
refused_lines = (refl, refl, refl, refl, refl, refl, refl)

abbrev unread : List ℕ
unread = 33 ∷ 32 ∷ 50 ∷ 49 ∷ []

-- lines that do not parse
pub unread_lines :
    -- the empty line
    (answer_line ([]) ≡ unread)
    -- P
    × (answer_line (80 ∷ []) ≡ unread)
    -- P 0 1
    × (answer_line (80 ∷ 32 ∷ 48 ∷ 32 ∷ 49 ∷ []) ≡ unread)
    -- P 0 1 2
    × (answer_line (80 ∷ 32 ∷ 48 ∷ 32 ∷ 49 ∷ 32 ∷ 50 ∷ 32 ∷ []) ≡ unread)
    -- P 0 1  2
    × (answer_line (80 ∷ 32 ∷ 48 ∷ 32 ∷ 49 ∷ 32 ∷ 32 ∷ 50 ∷ []) ≡ unread)
    --  P 0 1 2
    × (answer_line (32 ∷ 80 ∷ 32 ∷ 48 ∷ 32 ∷ 49 ∷ 32 ∷ 50 ∷ []) ≡ unread)
    -- P 0 1 02
    × (answer_line (80 ∷ 32 ∷ 48 ∷ 32 ∷ 49 ∷ 32 ∷ 48 ∷ 50 ∷ []) ≡ unread)
    -- P 256 1 2
    × (answer_line (80 ∷ 32 ∷ 50 ∷ 53 ∷ 54 ∷ 32 ∷ 49 ∷ 32 ∷ 50 ∷ []) ≡ unread)
    -- P 0 1 18446744073709551616
    × (answer_line (80 ∷ 32 ∷ 48 ∷ 32 ∷ 49 ∷ 32 ∷ 49 ∷ 56 ∷ 52 ∷ 52 ∷ 54 ∷ 55 ∷ 52 ∷ 52 ∷ 48 ∷ 55 ∷ 51 ∷ 55 ∷ 48 ∷ 57 ∷ 53 ∷ 53 ∷ 49 ∷ 54 ∷ 49 ∷ 54 ∷ []) ≡ unread)
    -- C 0 1 -0 0 0
    × (answer_line (67 ∷ 32 ∷ 48 ∷ 32 ∷ 49 ∷ 32 ∷ 45 ∷ 48 ∷ 32 ∷ 48 ∷ 32 ∷ 48 ∷ []) ≡ unread)
    -- C 0 1 0 0 2147483648
    × (answer_line (67 ∷ 32 ∷ 48 ∷ 32 ∷ 49 ∷ 32 ∷ 48 ∷ 32 ∷ 48 ∷ 32 ∷ 50 ∷ 49 ∷ 52 ∷ 55 ∷ 52 ∷ 56 ∷ 51 ∷ 54 ∷ 52 ∷ 56 ∷ []) ≡ unread)
    -- C 0 1 - 0 0
    × (answer_line (67 ∷ 32 ∷ 48 ∷ 32 ∷ 49 ∷ 32 ∷ 45 ∷ 32 ∷ 48 ∷ 32 ∷ 48 ∷ []) ≡ unread)
    -- R 0 1 3fe0000000000000 3FE0000000000000
    × (answer_line (82 ∷ 32 ∷ 48 ∷ 32 ∷ 49 ∷ 32 ∷ 51 ∷ 102 ∷ 101 ∷ 48 ∷ 48 ∷ 48 ∷ 48 ∷ 48 ∷ 48 ∷ 48 ∷ 48 ∷ 48 ∷ 48 ∷ 48 ∷ 48 ∷ 48 ∷ 32 ∷ 51 ∷ 70 ∷ 69 ∷ 48 ∷ 48 ∷ 48 ∷ 48 ∷ 48 ∷ 48 ∷ 48 ∷ 48 ∷ 48 ∷ 48 ∷ 48 ∷ 48 ∷ 48 ∷ []) ≡ unread)
    -- R 0 1 3FE000000000000 3FE0000000000000
    × (answer_line (82 ∷ 32 ∷ 48 ∷ 32 ∷ 49 ∷ 32 ∷ 51 ∷ 70 ∷ 69 ∷ 48 ∷ 48 ∷ 48 ∷ 48 ∷ 48 ∷ 48 ∷ 48 ∷ 48 ∷ 48 ∷ 48 ∷ 48 ∷ 48 ∷ 32 ∷ 51 ∷ 70 ∷ 69 ∷ 48 ∷ 48 ∷ 48 ∷ 48 ∷ 48 ∷ 48 ∷ 48 ∷ 48 ∷ 48 ∷ 48 ∷ 48 ∷ 48 ∷ 48 ∷ []) ≡ unread)
    -- Q 0 1 2
    × (answer_line (81 ∷ 32 ∷ 48 ∷ 32 ∷ 49 ∷ 32 ∷ 50 ∷ []) ≡ unread)
    -- PP 0 1 2
    × (answer_line (80 ∷ 80 ∷ 32 ∷ 48 ∷ 32 ∷ 49 ∷ 32 ∷ 50 ∷ []) ≡ unread)
    -- P +0 1 2
    × (answer_line (80 ∷ 32 ∷ 43 ∷ 48 ∷ 32 ∷ 49 ∷ 32 ∷ 50 ∷ []) ≡ unread)
unfolding number_of words_of digit_of is_decimal up_to signed f64 digits natural of_bits integer near cell_of position_of point_of answer_of headed starts query_of found_words spaced answer_line
unread_lines = (refl, refl, refl, refl, refl, refl, refl, refl, refl, refl, refl, refl, refl, refl, refl, refl, refl)
