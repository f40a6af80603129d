-- `walk::walk_to`: what is left from where the loop is, is what was to do from the first row.
use Rattle.std.proofs.Common.{◌∙◌, arith}
use Rattle.lsystem.proofs.RoomLaws.{walking_start, walking_room, walking_on, walking_end}
use Rattle.lsystem.proofs.walk.walk_to.Goals as goal

pub loop-k-init : goal.loop-k-init
loop-k-init c = let r = c.args.curve in walking_start _ _ _ (r.one_of_three, (r.some, r.most))

pub step-w-requires : goal.step-w-requires
step-w-requires c = walking_room _ _ _ _ c.loop-k.invariant

pub loop-k-preserved : goal.loop-k-preserved
loop-k-preserved c = walking_on _ _ _ _ c.loop-k.invariant (omega arith) _ c.last.ensures _ c.step-w.ensures

pub end-requires : goal.end-requires
end-requires c = walking_room _ _ _ _ c.loop-k.invariant

pub returns : goal.returns
returns c = rw c.last-2.ensures at c.end.ensures ∙ walking_end _ _ _ _ c.loop-k.invariant (omega arith)
