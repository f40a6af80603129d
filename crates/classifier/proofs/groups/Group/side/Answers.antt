-- `Group::side` keeps each of the four children by itself.
use Rattle.std.proofs.Common.{◌≡◌, rules, tests, false}
use Rattle.classifier.specs.Inside.Sets.{stays}
use Rattle.classifier.proofs.SearchLaws.{made_at}
use Rattle.classifier.proofs.SetLaws.{side_is}
use Rattle.classifier.proofs.groups.Group.side.Goals as goal

pub returns : goal.returns
returns c =
    let g = c.args.self.now in
    side_is c.args.above c.args.s g.children.now g.has _ c.from_fn.ensures.items.long
    (λ d h. made_at _ _ (λ i y. y ≡ stays c.args.above c.args.s g.children.now g.has i) (λ i y q k. search (rules, tests)) _ c.from_fn.ensures.items d false h)
