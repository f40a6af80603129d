-- `scan::scan_text` cuts the text into its lines: after i turns the first i rows are lines, and their parts are kept.
use Prim.Native.Nat.{◌-◌}
use lib.ListN.{length}
use Rattle.grammar.proofs.ScanLaws.{Scanning}
use Rattle.grammar.proofs.scan.scan_text.Given as goal

abbrev pub invariant-loop-so_far : goal.invariant-loop-so_far
invariant-loop-so_far l = Scanning l.text l.so_far

abbrev pub decreases-loop-so_far : goal.decreases-loop-so_far
decreases-loop-so_far l = length l.text - l.so_far.at
