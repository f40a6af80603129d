-- `all_below`: what `all` answers is what the definition does.
use Rattle.std.proofs.Common.{ltb, rules, tests, ◌∙◌}
use Rattle.std.proofs.lemmas.Iterator.{YieldsList-from_slice}
use Rattle.std.proofs.lemmas.Iterator.Search.{all_from_yields_List}
use Rattle.fold.proofs.ListLaws.{all_are_below}
use Rattle.fold.proofs.folding.all_below.Goals as goal

pub returns : goal.returns
returns c =
    let n = c.args.limit in
    let xs = c.args.positions.now in
    all_from_yields_List (λ s. ltb s n) _ _ _ c.all.ensures.ran (YieldsList-from_slice xs cc) (λ x b q k. search (rules, tests)) ∙ all_are_below n xs
