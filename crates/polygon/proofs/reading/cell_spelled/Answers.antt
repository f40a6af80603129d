-- Each way out is a law of the reader, by what the calls before it answered.
use Rattle.polygon.proofs.ReadLaws.{cells, second_fits}
use borrow.Author.Rules.{rules}
use Rattle.polygon.proofs.reading.cell_spelled.Goals as goal

pub returns-then-text-lt10 : goal.returns-then-text-lt10
returns-then-text-lt10 c = search (rules, cells)

pub returns-in_err-p : goal.returns-in_err-p
returns-in_err-p c = rw c.from_residual.ensures (search (rules, cells, c.in_err-p.was))

pub overflow_add-next : goal.overflow_add-next
overflow_add-next c = second_fits c.in_ok-p.was _ _ c.corner_at.ensures (search rules)

pub returns-in_err-q : goal.returns-in_err-q
returns-in_err-q c = rw c.from_residual-in_err-q.ensures (search (rules, cells, c.in_ok-p.was, c.in_err-q.was))

pub starting_at-requires : goal.starting_at-requires
starting_at-requires c = search (rules, cells, c.in_ok-p.was, c.in_ok-q.was)

pub returns-in_err-t : goal.returns-in_err-t
returns-in_err-t c = rw c.from_residual-in_err-t.ensures (search (rules, cells, c.in_ok-p.was, c.in_ok-q.was, c.in_err-t.was))

pub is_polygon-requires : goal.is_polygon-requires
is_polygon-requires c = search (rules, cells, c.in_ok-p.was, c.in_ok-q.was, c.in_ok-t.was)

pub returns-then-not-is_polygon : goal.returns-then-not-is_polygon
returns-then-not-is_polygon c = search (rules, cells, c.in_ok-p.was, c.in_ok-q.was, c.in_ok-t.was)

pub returns : goal.returns
returns c = search (rules, cells, c.in_ok-p.was, c.in_ok-q.was, c.in_ok-t.was)
