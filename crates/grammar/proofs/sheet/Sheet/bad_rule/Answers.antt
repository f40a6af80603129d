-- `Sheet::bad_rule` is test 14.
use Rattle.grammar.specs.Inside.Sheets.{lines_in, line_in}
use Rattle.grammar.proofs.VerdictLaws.{rule_verdict}
use Rattle.grammar.proofs.sheet.Sheet.bad_rule.Goals as goal

pub returns : goal.returns
returns c = rule_verdict (lines_in c.args.self.now) (line_in c.args.self.now c.args.i) c.rule.ensures (c.rule_word.ensures c.args.self.now.text.now)
