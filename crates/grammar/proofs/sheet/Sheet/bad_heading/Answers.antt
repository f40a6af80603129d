-- `Sheet::bad_heading` is test 16: the rule, and then its reverse.
use borrow.Author.Tests.{not-true, not-false}
use Rattle.grammar.specs.Inside.Sheets.{lines_in, line_in}
use Rattle.grammar.proofs.WordByteLaws.{reversed_cut}
use Rattle.grammar.proofs.VerdictLaws.{heading_along, heading_back}
use Rattle.grammar.proofs.sheet.Sheet.bad_heading.Goals as goal

pub returns-then-not-rule_word : goal.returns-then-not-rule_word
returns-then-not-rule_word c = heading_along (lines_in c.args.self.now) (line_in c.args.self.now c.args.i) c.rule-rule.ensures (c.rule_word.ensures c.args.self.now.text.now) (not-true _ c.if-not-rule_word.true)

pub returns-else-not-rule_word : goal.returns-else-not-rule_word
returns-else-not-rule_word c =
    heading_back (lines_in c.args.self.now) (line_in c.args.self.now c.args.i) c.rule-rule.ensures (c.rule_word.ensures c.args.self.now.text.now) (not-false _ c.if-not-rule_word.false)
    (reversed_cut c.rule-rule.result.now _ c.write_back.ensures c.word_at-back.ensures) (c.rule_word-else-not-rule_word.ensures c.args.self.now.text.now)
