-- `Group::clean_edge` goes along the edges as the definition does.
use Rattle.std.proofs.Common.{arith, rules, tests}
use Rattle.std.proofs.lemmas.Iterator.{YieldsList-from_range, YieldsList-from_map}
use Rattle.std.proofs.lemmas.Iterator.Search.{find_from_yields_List}
use Rattle.classifier.specs.Splits.{clean}
use Rattle.classifier.specs.Shapes.{placed_corners}
use Rattle.classifier.specs.Inside.Sets.{members, edge_at}
use Rattle.classifier.proofs.EdgeLaws.{first_is}
use Rattle.classifier.proofs.groups.Group.clean_edge.Goals as goal

pub returns : goal.returns
returns c =
    let gs = members c.args.self.now in
    let ps = placed_corners c.args.g.now in
    let n = c.corner_count.result in
    first_is gs ps c.corner_count.ensures
    (find_from_yields_List (clean gs) c.find.new.self _ c.find.result c.find.ensures.ran
    (YieldsList-from_map _ (edge_at ps) (YieldsList-from_range 0 n n (cc) (omega arith)) c.map.ensures.closure (λ x r q k. search (rules, tests)))
    (λ x b q k. search (rules, tests)))
