-- The triple's own polygon is spelled aside, and compared.
use Rattle.polygon.proofs.ReadLaws.{own_polygon}
use borrow.Author.Rules.{rules}
use Rattle.polygon.proofs.reading.is_polygon.Goals as goal

pub slice_bounds-own-end : goal.slice_bounds-own-end
slice_bounds-own-end c = search (rules, own_polygon)

pub slice_bounds-eq-end : goal.slice_bounds-eq-end
slice_bounds-eq-end c = search (rules, own_polygon)

pub returns : goal.returns
returns c = search (rules, own_polygon)
