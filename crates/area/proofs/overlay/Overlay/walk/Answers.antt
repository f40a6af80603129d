-- `Overlay::walk`: at each turn a cell is cut off, or the next piece is taken.
use borrow.Author.Rules.{rules}
use Rattle.area.proofs.WalkLaws.{walking, cut_less, going_cut, piece_less, going_on}
use Rattle.area.proofs.overlay.Overlay.walk.Goals as goal

pub piece_after-x-requires : goal.piece_after-x-requires
piece_after-x-requires c = search (rules, walking)

pub loop-out-init : goal.loop-out-init
loop-out-init c = search (rules, walking)

pub cut-lo-requires : goal.cut-lo-requires
cut-lo-requires c = search (rules, walking)

pub overflow_add-lo : goal.overflow_add-lo
overflow_add-lo c = search (rules, walking)

pub overflow_add-n : goal.overflow_add-n
overflow_add-n c = search (rules, walking)

pub loop-out-smaller-then-is_closed : goal.loop-out-smaller-then-is_closed
loop-out-smaller-then-is_closed c = search (rules, cut_less)

pub loop-out-preserved-then-is_closed : goal.loop-out-preserved-then-is_closed
loop-out-preserved-then-is_closed c = going_cut _ _ _ _ _ c.loop-out.invariant c.is_closed.ensures c.if-is_closed.true c.cut-lo.ensures

pub returns-then-hi-ge-END : goal.returns-then-hi-ge-END
returns-then-hi-ge-END c = search (rules, walking)

pub piece_after-x-requires-in-loop-out : goal.piece_after-x-requires-in-loop-out
piece_after-x-requires-in-loop-out c = search (rules, walking)

pub loop-out-smaller : goal.loop-out-smaller
loop-out-smaller c = search (rules, piece_less)

pub loop-out-preserved : goal.loop-out-preserved
loop-out-preserved c = search (rules, going_on)
