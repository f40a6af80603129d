-- `CellWalk::along` goes along the strokes: after i turns, the first i bytes.
use Rattle.tables.proofs.LeafLaws.{walked_start, walked_room, walked_next, walked_four, walked_end}
use Rattle.turtle.specs.Walk.{turtle}
use Rattle.turtle.specs.Plane.{origin, facing}
use Rattle.tables.proofs.leaves.CellWalk.along.Goals as goal

pub loop-b-init : goal.loop-b-init
loop-b-init c = walked_start c.args.w.now (turtle origin (facing c.args.flip)) c.started-k.ensures

pub with_byte-k-requires : goal.with_byte-k-requires
with_byte-k-requires c = walked_room c.args.w.now (turtle origin (facing c.args.flip)) c.loop-b.invariant c.loop-b-test.true c.requires

pub loop-b-preserved : goal.loop-b-preserved
loop-b-preserved c = walked_next c.args.w.now (turtle origin (facing c.args.flip)) c.loop-b.invariant c.loop-b-test.true c.with_byte-k.ensures

pub drawn-requires : goal.drawn-requires
drawn-requires c = walked_four c.args.w.now (turtle origin (facing c.args.flip)) c.loop-b.invariant c.requires c.loop-b-test.false

pub returns : goal.returns
returns c = walked_end c.args.w.now (turtle origin (facing c.args.flip)) c.loop-b.invariant c.requires c.loop-b-test.false c.drawn.ensures
