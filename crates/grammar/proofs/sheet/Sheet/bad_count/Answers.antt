-- `Sheet::bad_count` is test 15.
use Rattle.grammar.specs.Inside.Sheets.{lines_in, line_in}
use Rattle.grammar.proofs.VerdictLaws.{count_verdict}
use Rattle.grammar.proofs.sheet.Sheet.bad_count.Goals as goal

pub returns : goal.returns
returns c = count_verdict (lines_in c.args.self.now) (line_in c.args.self.now c.args.i) c.rule.ensures (c.rule_word.ensures c.args.self.now.text.now)
