-- By whether the parity is answered.
use Rattle.std.proofs.lemmas.Result.{err_from_is_err_and}
use Rattle.turtle.proofs.CornerLaws.{corner_told, corner_refused}
use Rattle.turtle.proofs.corner.corner_sum.Goals as goal

pub returns-in_err-parity : goal.returns-in_err-parity
returns-in_err-parity c =
    let p = err_from_is_err_and c.from_residual.result c.from_residual.ensures.1 in
    rw (p.1, p.2) (corner_refused _ _ c.in_err-parity.ensures)

pub returns : goal.returns
returns c = corner_told _ _ c.in_ok-parity.ensures _ c.sum_of_corners.ensures
