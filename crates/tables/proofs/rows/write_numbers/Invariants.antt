-- `rows::write_numbers` writes number after number.
use Rattle.tables.proofs.StateNumberLaws.{Pouring}
use Rattle.tables.proofs.rows.write_numbers.Given as goal

abbrev pub invariant-loop-j : goal.invariant-loop-j
invariant-loop-j l = Pouring l.parts l.initial.out l.out l.j
