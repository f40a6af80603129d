-- `Sheet::first_bad` finds the first line at fault by a test: those before it are not.
use mathlib.Core.Path.{◌≡◌}
use mathlib.Core.Bool.{true, false}
use lib.ListN.{take}
use borrow.Author.Rules.{rules}
use Rattle.std.proofs.lemmas.Iterator.{first_from_Range}
use Rattle.grammar.specs.Inside.Sheets.{lines_in, line_in}
use Rattle.grammar.specs.Inside.LineTests.{test_of}
use Rattle.grammar.proofs.TestOrderLaws.{first_found}
use Rattle.grammar.proofs.sheet.Sheet.first_bad.Goals as goal

pub returns : goal.returns
returns c =
    let s = c.args.self.now in
    let bad = λ (i : _). test_of (lines_in s) c.args.test (take i (lines_in s)) (line_in s i) in
    let found = first_from_Range _ _ _ _ (λ i. bad i ≡ true) (λ i. bad i ≡ false) c.find.ensures.ran (λ i q k. search rules) (λ i q k. search rules) in
    first_found s.text.now s.lines c.args.test c.min.ensures _ found
