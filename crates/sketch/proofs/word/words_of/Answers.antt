-- `word::words_of`: each arm has A5's rule and draw for its letter, and no other byte has one.
use Rattle.std.proofs.Common.{refl, rules}
use Rattle.text.specs.Words.{words_of as fields_of}
use Rattle.grammar.specs.Texts.{rows_of, line_of, lines_of}
use Rattle.a5.specs.A5.{a5_text, a5}
use Rattle.sketch.specs.Inside.Marks.{rule_word, draw_word}
use Rattle.sketch.proofs.MarkLaws.{words_arm, words_rest}
use Rattle.sketch.proofs.word.words_of.Goals as goal

pub returns-in-65 : goal.returns-in-65
unfolding rule_word draw_word a5 a5_text lines_of rows_of fields_of line_of
returns-in-65 c = words_arm c.in-65.is refl refl

pub returns-in-66 : goal.returns-in-66
unfolding rule_word draw_word a5 a5_text lines_of rows_of fields_of line_of
returns-in-66 c = words_arm c.in-66.is refl refl

pub returns-in-67 : goal.returns-in-67
unfolding rule_word draw_word a5 a5_text lines_of rows_of fields_of line_of
returns-in-67 c = words_arm c.in-67.is refl refl

pub returns-in-77 : goal.returns-in-77
unfolding rule_word draw_word a5 a5_text lines_of rows_of fields_of line_of
returns-in-77 c = words_arm c.in-77.is refl refl

pub returns-in-80 : goal.returns-in-80
unfolding rule_word draw_word a5 a5_text lines_of rows_of fields_of line_of
returns-in-80 c = words_arm c.in-80.is refl refl

pub returns-in-81 : goal.returns-in-81
unfolding rule_word draw_word a5 a5_text lines_of rows_of fields_of line_of
returns-in-81 c = words_arm c.in-81.is refl refl

pub returns-in-82 : goal.returns-in-82
unfolding rule_word draw_word a5 a5_text lines_of rows_of fields_of line_of
returns-in-82 c = words_arm c.in-82.is refl refl

pub returns-in_default : goal.returns-in_default
unfolding rule_word draw_word a5 a5_text lines_of rows_of fields_of line_of
returns-in_default c = search (rules, words_rest)
