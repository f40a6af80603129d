-- `Sheet::is_bad` is the test that is asked for.
use Rattle.grammar.proofs.TestOrderLaws.{lines_before}
use Rattle.grammar.proofs.sheet.Sheet.is_bad.Goals as goal

pub returns-in-Motif : goal.returns-in-Motif
returns-in-Motif c = rw (c.in-Motif.is, lines_before c.args.self.now.text.now c.args.self.now.lines c.args.i c.requires) c.bad_motif.ensures
