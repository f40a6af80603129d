-- `is_ample`: by the operation.
use Rattle.std.proofs.Common.{rules}
use Rattle.area.proofs.RoomLaws.{amples}
use Rattle.area.proofs.combining.is_ample.Goals as goal

pub returns-then-a-room : goal.returns-then-a-room
returns-then-a-room c = search (rules, amples)

pub returns-else-a-room : goal.returns-else-a-room
returns-else-a-room c = search (rules, amples)

pub returns-in-Difference : goal.returns-in-Difference
returns-in-Difference c = search (rules, amples)
