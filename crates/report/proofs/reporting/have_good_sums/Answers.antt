-- `have_good_sums`: all of them pass.
use mathlib.Core.Path.{◌∙◌}
use borrow.Author.Rules.{rules}
use borrow.Author.Tests.{tests}
use Rattle.std.proofs.lemmas.Iterator.{YieldsList-from_slice}
use Rattle.std.proofs.lemmas.Iterator.Search.{all_from_yields_List}
use Rattle.triple.specs.Triples.{good_sum}
use Rattle.report.specs.Inside.Triples.{triple_of}
use Rattle.report.proofs.TripleLaws.{all_pass}
use Rattle.report.proofs.reporting.have_good_sums.Goals as goal

pub returns : goal.returns
returns c =
    all_from_yields_List (λ t. good_sum (triple_of t)) _ _ _ c.all.ensures.ran (YieldsList-from_slice c.given.result.now cc) (λ x b q k. search (rules, tests))
    ∙ all_pass good_sum c.given.result.now c.given.ensures
