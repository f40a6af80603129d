-- `Grammar::write_states` writes state after state.
use Rattle.tables.proofs.StateWriteLaws.{Writing}
use Rattle.grammar.specs.Texts.{lines_of}
use Prim.Native.Nat.{◌*◌}
use Rattle.tables.proofs.accepted.Grammar.write_states.Given as goal

abbrev pub invariant-loop-state : goal.invariant-loop-state
invariant-loop-state l = Writing (lines_of l.self.text.now) (2 * l.self.source.count) l.initial.table l.table l.state
