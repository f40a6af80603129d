-- `tally::tallied` counts the bytes one by one: after i turns, the first i of them.
use lib.ListN.{take}
use Rattle.grammar.specs.Inside.Tallies.{no_tally, Counts}
use Rattle.grammar.proofs.TallyLaws.{Modest}
use Rattle.grammar.proofs.tally.tallied.Given as goal

abbrev pub invariant-loop-b : goal.invariant-loop-b
invariant-loop-b g l = Counts (goal.F-post g l.kind_of) no_tally (take l.b-index l.w) l.t × Modest l.t l.b-index
