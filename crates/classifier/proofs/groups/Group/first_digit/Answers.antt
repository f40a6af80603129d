-- `Group::first_digit` is the place of the first digit that it has.
use Rattle.std.proofs.Common.{rules, tests, Bool}
use Rattle.std.proofs.lemmas.Iterator.{YieldsList-from_slice}
use Rattle.std.proofs.lemmas.Iterator.Search.{position_from_yields_List}
use Rattle.classifier.proofs.SetLaws.{digit_is}
use Rattle.classifier.proofs.groups.Group.first_digit.Goals as goal

pub returns : goal.returns
returns c =
    let g = c.args.self.now in
    let at = position_from_yields_List (λ (b : Bool). b) _ _ c.position.result c.position.ensures.ran (YieldsList-from_slice g.has cc) (λ x b q k. search (rules, tests)) in
    digit_is g.children.now g.has (search rules) _ c.position.result at (search rules)
