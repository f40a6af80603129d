-- `hb_draw`: the status is that of the drawing's own count, and the slice is as the drawing leaves it.
use mathlib.Core.Path.{ap}
use Rattle.capi.proofs.CountedLaws.{told_status, refused_status}
use Rattle.capi.proofs.cells.hb_draw.Goals as goal
use Rattle.triple.specs.Refusals.{said}

pub returns-in-Ok : goal.returns-in-Ok
returns-in-Ok c =
    let drawn = c.draw-answer.ensures in
    (told_status _ _ drawn.0 (ap said c.in-Ok.is), drawn.1)

pub returns-in-Err : goal.returns-in-Err
returns-in-Err c =
    let drawn = c.draw-answer.ensures in
    (refused_status _ _ drawn.0 (ap said c.in-Err.is) c.number.ensures, drawn.1)
