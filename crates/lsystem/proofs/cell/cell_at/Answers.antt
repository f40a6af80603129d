-- `cell::cell_at`: the walk ends at the cell.
use Rattle.lsystem.proofs.EndLaws.{end_x, end_y, cell_at_is}
use Rattle.std.proofs.Common.{◌<◌, ◌≤◌, rules}
use Rattle.lsystem.proofs.cell.cell_at.Goals as goal

pub triple_at-requires : goal.triple_at-requires
triple_at-requires c =
    let r = c.args.curve in
    let p : (r.letter < 3) × ((0 < r.resolution) × (r.resolution ≤ 30)) = (r.one_of_three, (r.some, r.most)) in
    let x = end_x _ _ _ p _ c.walk_to-e.ensures in
    let y = end_y _ _ _ p _ c.walk_to-e.ensures in
    search rules

pub returns : goal.returns
returns c =
    let r = c.args.curve in
    let p : (r.letter < 3) × ((0 < r.resolution) × (r.resolution ≤ 30)) = (r.one_of_three, (r.some, r.most)) in
    search (rules, cell_at_is)
