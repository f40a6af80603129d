-- `Sheet::bad_turns` is test 18: the rule, and then the draw.
use Rattle.grammar.specs.Inside.Sheets.{lines_in, line_in}
use Rattle.grammar.proofs.VerdictLaws.{turns_rule, turns_draw}
use Rattle.grammar.proofs.sheet.Sheet.bad_turns.Goals as goal

pub returns-then-rule_word-ne0 : goal.returns-then-rule_word-ne0
returns-then-rule_word-ne0 c = turns_rule (lines_in c.args.self.now) (line_in c.args.self.now c.args.i) c.rule.ensures (c.rule_word.ensures c.args.self.now.text.now) c.if-rule_word-ne0.true

pub returns-else-rule_word-ne0 : goal.returns-else-rule_word-ne0
returns-else-rule_word-ne0 c = turns_draw (lines_in c.args.self.now) (line_in c.args.self.now c.args.i) c.rule.ensures (c.rule_word.ensures c.args.self.now.text.now) c.if-rule_word-ne0.false c.draw.ensures c.draw_word.ensures
