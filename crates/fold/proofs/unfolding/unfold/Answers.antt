-- `unfold`: each way out is a law of its answers, by what the tests and calls before it told.
use Rattle.std.proofs.Common.{rules, ◌∙◌}
use Rattle.triple.proofs.RefusalLaws.{handed_on}
use Rattle.fold.proofs.UnfoldAnswerLaws.{unfolding_tests, unfolds, faulty_count, faulty_left, read_err, read_ok}
use Rattle.fold.proofs.unfolding.unfold.Goals as goal

pub returns-in_err-cells : goal.returns-in_err-cells
returns-in_err-cells c =
    let at = read_err c.args.orientation c.read.result (search (rules)) c.in_err-cells.was in
    let e = rw at.1 at c.read.ensures.passed in
    (handed_on c.in_err-cells.field-0.0 _ c.from_residual.ensures.1 ∙ faulty_count _ _ _ _ at.0 e at.2, faulty_left _ _ _ _ at.0 e at.2)

pub returns-then-orientation-gt-GREATEST_ORIENTATION : goal.returns-then-orientation-gt-GREATEST_ORIENTATION
returns-then-orientation-gt-GREATEST_ORIENTATION c =
    let at = read_ok c.args.orientation c.read.result (search (rules)) c.in_ok-cells.was in
    let e = rw at at c.read.ensures.passed in search (rules, unfolding_tests)

pub returns : goal.returns
returns c =
    let at = read_ok c.args.orientation c.read.result (search (rules)) c.in_ok-cells.was in
    unfolds _ _ _ _ (rw at at c.read.ensures.passed) c.if-orientation-gt-GREATEST_ORIENTATION.false (rw at at c.read.ensures.cells) c.unfold.ensures
