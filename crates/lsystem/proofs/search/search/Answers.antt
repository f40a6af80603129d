-- `search::search`: what is left from where the loop is, is what was to do from the first tile.
use Rattle.std.proofs.Common.{ap, ◌∙◌, arith}
use Rattle.strides.specs.Searches.{digits_below}
use Rattle.lsystem.proofs.RoomLaws.{searching_start, searching_room, searching_on, searching_end}
use Rattle.lsystem.proofs.search.search.Goals as goal

pub loop-k-init : goal.loop-k-init
loop-k-init c = let r = c.args.curve in (searching_start _ _ _ (r.one_of_three, (r.some, r.most)), c.turns-turns.ensures)

pub step-q-requires : goal.step-q-requires
step-q-requires c = searching_room _ _ _ _ c.loop-k.invariant.0

pub loop-k-preserved : goal.loop-k-preserved
loop-k-preserved c = (searching_on _ _ _ _ c.loop-k.invariant.0 (omega arith) _ c.loop-k.invariant.1 _ c.step-q.ensures, c.turns-turns-in-loop-k.ensures)

pub end-requires : goal.end-requires
end-requires c = searching_room _ _ _ _ c.loop-k.invariant.0

pub returns : goal.returns
returns c = c.end.ensures ∙ ap (digits_below c.loop-k.q) c.loop-k.invariant.1 ∙ searching_end _ _ _ _ c.loop-k.invariant.0 (omega arith)
