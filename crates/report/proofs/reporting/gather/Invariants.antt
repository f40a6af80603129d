-- `gather`: the positions of the triples so far stand in front.
use mathlib.Core.Path.{◌≡◌}
use Rattle.whole.proofs.Fill.{poured}
use Rattle.report.specs.Reports.{triples_in, places_of}
use Rattle.report.proofs.reporting.gather.Given as goal

abbrev pub invariant-loop-k : goal.invariant-loop-k
invariant-loop-k l = l.work ≡ poured (places_of l.orientation l.resolution (triples_in l.triples)) l.k l.initial.work
