-- `Gathered::index_of` is the place of the first line that is the one asked for.
use Rattle.std.proofs.Common.{◌≡◌, rules, tests, ap, take}
use Rattle.std.proofs.lemmas.Iterator.{YieldsList-from_slice}
use Rattle.std.proofs.lemmas.Iterator.Search.{position_from_yields_List}
use Rattle.classifier.specs.Inside.Sets.{Lines}
use Rattle.classifier.specs.Inside.Gathered.{gathered_lines}
use Rattle.classifier.proofs.SearchLaws.{place_or}
use Rattle.classifier.proofs.GatherLaws.{held_count, is_line, index_is}
use Rattle.classifier.proofs.splits.Gathered.index_of.Goals as goal

pub returns-clause-place : goal.returns-clause-place
unfolding gathered_lines
returns-clause-place c =
    let first : take c.self.inside.count c.self.inside.lines ≡ c.args.self.now.lines = ap (λ (l : Lines). l.lines) c.self.view_is in
    let at = position_from_yields_List (is_line c.args.s) c.position.new.self _ c.position.result c.position.ensures.ran (YieldsList-from_slice c.args.self.now.lines cc) (λ x b q k. search (rules, tests)) in
    index_is c.args.self.now.lines c.args.s (place_or (is_line c.args.s) c.args.self.now.lines c.position.result at (held_count c.self.invariant c.self.view_is) c.unwrap_or.ensures)
