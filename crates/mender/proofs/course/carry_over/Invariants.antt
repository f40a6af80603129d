-- Less than a code is left of a piece.
use Rattle.std.proofs.Common.{◌<◌}
use Rattle.mend.specs.Mends.{longest_code}
use Rattle.mender.proofs.course.carry_over.Given as goal

abbrev pub invariant-loop : goal.invariant-loop
invariant-loop g l = l.kept < longest_code
