-- `Group::all_under` asks of each child what the definition does of those of the set.
use Rattle.std.proofs.Common.{rules, tests}
use Rattle.std.proofs.lemmas.Iterator.{YieldsList-from_slice, YieldsList-from_zip}
use Rattle.std.proofs.lemmas.Iterator.Search.{all_from_yields_List}
use Rattle.classifier.proofs.SetLaws.{off, under_is}
use Rattle.classifier.proofs.groups.Group.all_under.Goals as goal

pub returns : goal.returns
returns c =
    let g = c.args.self.now in
    under_is c.args.s g.children.now g.has (search rules) (search rules)
    (all_from_yields_List (off c.args.s) c.all.new.self _ c.all.result c.all.ensures.ran (YieldsList-from_zip (YieldsList-from_slice g.has cc) (YieldsList-from_slice g.children.now cc)) (λ x b q k. search (rules, tests)))
