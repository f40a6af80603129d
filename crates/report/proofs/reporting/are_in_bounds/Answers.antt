-- `are_in_bounds`: all of them pass.
use mathlib.Core.Path.{◌∙◌}
use borrow.Author.Rules.{rules}
use borrow.Author.Tests.{tests}
use Rattle.std.proofs.lemmas.Iterator.{YieldsList-from_slice}
use Rattle.std.proofs.lemmas.Iterator.Search.{all_from_yields_List}
use Rattle.triple.specs.Triples.{is_in_bounds}
use Rattle.report.specs.Inside.Triples.{triple_of}
use Rattle.report.proofs.TripleLaws.{all_pass, bounds_told}
use Rattle.report.proofs.reporting.are_in_bounds.Goals as goal

pub returns : goal.returns
returns c =
    all_from_yields_List (λ t. is_in_bounds c.args.resolution (triple_of t)) _ _ _ c.all.ensures.ran (YieldsList-from_slice c.given.result.now cc) (λ x b q k. search (rules, tests, bounds_told))
    ∙ all_pass (is_in_bounds c.args.resolution) c.given.result.now c.given.ensures
