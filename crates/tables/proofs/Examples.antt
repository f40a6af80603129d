-- Texts at fault, by computation: each number with its line, and the worked example of number 20.
use mathlib.Core.Path.{◌≡◌, refl}
use mathlib.Core.List.{[], ◌∷◌}
use Rattle.turtle.specs.Plane.{origin, ◌⊕◌, neg, rot, rots, signed, thrice, facing, flipped}
use Rattle.turtle.specs.Letters.{toggled, letters, stroke_of}
use Rattle.turtle.specs.Walk.{symbol_of, symbols_of, move, corner, turned_flavor, cell, cells, final}
use Rattle.classifier.specs.Hulls.{insert, sorted, cross, popped, chained, hull}
use Rattle.classifier.specs.Splits.{line_through, value, polygons_on, tree_of, whole, collected, separators, choice}
use Rattle.classifier.specs.Shapes.{classifier_of}
use Rattle.grammar.specs.Words.{upper, mirrored, reversed, word_of, expand_once}
use Rattle.text.specs.Words.{words_of as fields_of}
use Rattle.grammar.specs.Texts.{rows_of, shaped, line_of, lines_of}
use Rattle.grammar.specs.Curves.{passes, strokes, drawing, net, token_bytes, letter_of, token_of, rule_symbol, rule_symbols, turned, letter_count, upright}
use Rattle.grammar.specs.Tests.{fault, bad_shape, bad_motif, bad_rule, bad_count, bad_heading, bad_draw, bad_turns, bad_net, line_tests, text_tests}
use Rattle.tables.specs.Children.{children_along, children, offset_after, offset, leaves}
use Rattle.tables.specs.Classifier.{footprint, hull_of, placed_hull, polygon, classes}
use Rattle.tables.specs.Verdicts.{bad_split, split_tests, verdict}

pub faults :
    (verdict ([]) ≡ fault 12 0)
    × (verdict (65 ∷ 10 ∷ []) ≡ fault 12 1)
    × (verdict (65 ∷ 32 ∷ 65 ∷ 65 ∷ 65 ∷ 65 ∷ 32 ∷ 69 ∷ 10 ∷ 66 ∷ 32 ∷ 66 ∷ 66 ∷ 66 ∷ 66 ∷ []) ≡ fault 12 2)
    × (verdict (69 ∷ 32 ∷ 65 ∷ 65 ∷ 65 ∷ 65 ∷ 32 ∷ 69 ∷ 10 ∷ []) ≡ fault 13 1)
    × (verdict (65 ∷ 32 ∷ 65 ∷ 65 ∷ 65 ∷ 65 ∷ 32 ∷ 69 ∷ 10 ∷ 65 ∷ 32 ∷ 65 ∷ 65 ∷ 65 ∷ 65 ∷ 32 ∷ 69 ∷ 10 ∷ []) ≡ fault 13 2)
    × (verdict (65 ∷ 32 ∷ 65 ∷ 65 ∷ 66 ∷ 65 ∷ 32 ∷ 69 ∷ 10 ∷ []) ≡ fault 14 1)
    × (verdict (65 ∷ 32 ∷ 65 ∷ 65 ∷ 65 ∷ 32 ∷ 69 ∷ 10 ∷ []) ≡ fault 15 1)
    × (verdict (65 ∷ 32 ∷ 65 ∷ 43 ∷ 65 ∷ 45 ∷ 65 ∷ 65 ∷ 32 ∷ 69 ∷ 10 ∷ []) ≡ fault 16 1)
    × (verdict (65 ∷ 32 ∷ 65 ∷ 65 ∷ 65 ∷ 65 ∷ 32 ∷ 85 ∷ 10 ∷ []) ≡ fault 17 1)
    × (verdict (65 ∷ 32 ∷ 65 ∷ 65 ∷ 65 ∷ 65 ∷ 32 ∷ 69 ∷ 69 ∷ 10 ∷ []) ≡ fault 17 1)
    × (verdict (65 ∷ 32 ∷ 65 ∷ 65 ∷ 65 ∷ 65 ∷ 43 ∷ 43 ∷ 43 ∷ 32 ∷ 69 ∷ 10 ∷ []) ≡ fault 18 1)
    × (verdict (65 ∷ 32 ∷ 65 ∷ 65 ∷ 65 ∷ 65 ∷ 32 ∷ 69 ∷ 10 ∷ []) ≡ fault 19 1)
unfolding origin ◌⊕◌ neg rot rots signed thrice facing flipped toggled letters stroke_of symbol_of symbols_of move corner turned_flavor cell cells final upper mirrored reversed word_of expand_once rows_of fields_of shaped line_of lines_of passes strokes drawing net token_bytes letter_of token_of rule_symbol rule_symbols turned letter_count upright bad_shape bad_motif bad_rule bad_count bad_heading bad_draw bad_turns bad_net line_tests text_tests children_along children offset_after offset leaves footprint insert sorted cross popped chained hull hull_of placed_hull polygon line_through value polygons_on tree_of classifier_of classes whole collected separators choice bad_split split_tests verdict
faults = (refl, refl, refl, refl, refl, refl, refl, refl, refl, refl, refl, refl)

-- A A+++A---AA E
pub no_split : verdict (65 ∷ 32 ∷ 65 ∷ 43 ∷ 43 ∷ 43 ∷ 65 ∷ 45 ∷ 45 ∷ 45 ∷ 65 ∷ 65 ∷ 32 ∷ 69 ∷ 10 ∷ []) ≡ fault 20 1
unfolding origin ◌⊕◌ neg rot rots signed thrice facing flipped toggled letters stroke_of symbol_of symbols_of move corner turned_flavor cell cells final upper mirrored reversed word_of expand_once rows_of fields_of shaped line_of lines_of passes strokes drawing net token_bytes letter_of token_of rule_symbol rule_symbols turned letter_count upright bad_shape bad_motif bad_rule bad_count bad_heading bad_draw bad_turns bad_net line_tests text_tests children_along children offset_after offset leaves footprint insert sorted cross popped chained hull hull_of placed_hull polygon line_through value polygons_on tree_of classifier_of classes whole collected separators choice bad_split split_tests verdict
no_split = refl
