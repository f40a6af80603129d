-- `Listing::has_room`: there are no more cells than entries.
use Rattle.std.proofs.Common.{rules}
use Rattle.fold.proofs.WalkLaws.{room_enough}
use Rattle.fold.proofs.folding.Listing.has_room.Goals as goal

pub returns-then-self-room : goal.returns-then-self-room
returns-then-self-room c = search (rules, room_enough)
