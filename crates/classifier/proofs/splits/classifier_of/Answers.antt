-- `splits::classifier_of` goes through the tree of all four children, and asks for each pattern of sides.
use Rattle.std.proofs.Common.{ap, subst, refl, length, rules, tests, arith}
use Rattle.classifier.specs.Shapes.{polygons_of}
use Rattle.classifier.specs.Inside.Sets.{Lines, members_from, Through, Led}
use Rattle.classifier.proofs.SearchLaws.{made_at}
use Rattle.classifier.proofs.GatherLaws.{classifier_is}
use Rattle.classifier.proofs.splits.classifier_of.Goals as goal

pub gather-requires : goal.gather-requires
unfolding members_from
gather-requires c = let none = ap (λ (l : Lines). length l.lines) c.new-found.ensures in omega arith

pub returns : goal.returns
unfolding members_from
returns c =
    let ps = polygons_of c.args.children in
    let through = subst (λ (l : Lines). Through ps l c.gather.new.found) c.new-found.ensures c.gather.ensures in
    classifier_is ps refl through c.lines.result c.from_fn.result c.lines.ensures c.is_whole.ensures c.from_fn.ensures.items.long
    (λ i h. made_at _ _ (λ i y. Led ps c.gather.new.found.lines i y) (λ i y q k. search (rules, tests)) _ c.from_fn.ensures.items i 0 h)
