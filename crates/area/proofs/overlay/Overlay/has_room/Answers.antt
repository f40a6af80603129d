-- `Overlay::has_room`: by the room of any two areas so long, or by the count.
use Rattle.std.proofs.Common.{rules}
use Rattle.area.proofs.AnswerLaws.{room_ample}
use Rattle.area.proofs.overlay.Overlay.has_room.Goals as goal

pub returns-then-is_ample : goal.returns-then-is_ample
returns-then-is_ample c = search (rules, room_ample)
