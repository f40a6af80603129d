-- A5's text is accepted, and the compiler's table of it is the one that the code has: both definitions are computed.
use mathlib.Core.Path.{◌≡◌, refl, ap, ◌∙◌}
use mathlib.Core.List.{List}
use Prim.Native.Nat.{ℕ, ◌+◌, ◌*◌, ◌≤◌}
use native.Mathlib.Omega.{arith}
use lib.IntN.{ℤ}
use lib.ListN.{length}
use Rattle.turtle.specs.Plane.{origin, ◌⊕◌, neg, rot, rots, signed, thrice, facing, flipped}
use Rattle.turtle.specs.Letters.{toggled, letters, stroke_of}
use Rattle.turtle.specs.Walk.{symbol_of, symbols_of, move, corner, turned_flavor, cell, cells, final}
use Rattle.classifier.specs.Hulls.{insert, sorted, cross, popped, chained, hull}
use Rattle.classifier.specs.Splits.{line_through, value, polygons_on, tree_of, whole, collected, separators, choice}
use Rattle.classifier.specs.Shapes.{classifier_of}
use Rattle.grammar.specs.Words.{upper, mirrored, reversed, word_of, expand_once}
use Rattle.text.specs.Words.{words_of as fields_of}
use Rattle.grammar.specs.Texts.{rows_of, shaped, line_of, lines_of}
use Rattle.grammar.specs.Curves.{passes, strokes, drawing, net, token_bytes, letter_of, token_of, rule_symbol, rule_symbols, turned, letter_count, upright}
use Rattle.grammar.specs.Tests.{fine, bad_shape, bad_motif, bad_rule, bad_count, bad_heading, bad_draw, bad_turns, bad_net, line_tests, text_tests}
use Rattle.tables.specs.Children.{children_along, children, offset_after, offset, leaves}
use Rattle.tables.specs.Classifier.{footprint, hull_of, placed_hull, polygon, classes}
use Rattle.tables.specs.Table.{state_of, state_row, table_of}
use Rattle.tables.specs.Verdicts.{bad_split, split_tests, verdict}
use Rattle.tables.specs.Compiler.{states, state_count, compiled_to, after_compile}
use Rattle.tables.specs.Parts.{with_part}
use Rattle.tables.proofs.Entries.{length_table}
use Rattle.tables.proofs.CompileDetermined.{compiled_states, compiled_table}
use Rattle.a5.specs.A5.{a5_text}
use Rattle.a5.specs.A5Table.{a5_table}

computed : (verdict a5_text ≡ fine) × (table_of (lines_of a5_text) ≡ a5_table)
unfolding origin ◌⊕◌ neg rot rots signed thrice facing flipped toggled letters stroke_of symbol_of symbols_of move corner turned_flavor cell cells final upper mirrored reversed word_of expand_once rows_of fields_of shaped line_of lines_of passes strokes drawing net token_bytes letter_of token_of rule_symbol rule_symbols turned letter_count upright bad_shape bad_motif bad_rule bad_count bad_heading bad_draw bad_turns bad_net line_tests text_tests children_along children offset_after offset leaves footprint insert sorted cross popped chained hull hull_of placed_hull polygon line_through value polygons_on tree_of classifier_of classes whole collected separators choice state_of state_row table_of bad_split split_tests verdict a5_text a5_table
computed = (refl, refl)

pub a5_accepted : verdict a5_text ≡ fine
a5_accepted = computed.0

pub a5_table_is : table_of (lines_of a5_text) ≡ a5_table
a5_table_is = computed.1

-- ---- so the compiler, on A5's text, writes A5's table from any entry on: 28 states, and outside them what was there
module _ (table : List ℤ) (start : ℕ) (room : start + 1148 ≤ length table) where
  long : length a5_table ≡ 1148
  unfolding a5_table
  long = refl

  count : state_count a5_text ≡ 28
  count = omega (arith, length_table (lines_of a5_text), ap length a5_table_is, long)

  fits : start + 41 * state_count a5_text ≤ length table
  fits = omega (arith, count)

  pub a5_states : compiled_to a5_text table start ≡ states 28
  a5_states = compiled_states a5_text a5_accepted table start fits ∙ ap states count

  pub a5_compiled : after_compile a5_text table start ≡ with_part table start a5_table
  a5_compiled = compiled_table a5_text a5_accepted table start fits ∙ ap (with_part table start) a5_table_is
