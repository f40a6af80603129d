-- `hb_compile`: where the number of states has no place nothing is compiled; else the compiler writes the table and the number goes to `out`, or neither.
use mathlib.Core.Path.{ap, ◌∙◌}
use Rattle.std.specs.Prelude.{Err}
use Rattle.capi.proofs.CompileLaws.{compiling}
use borrow.Author.Rules.{rules}
use Rattle.capi.proofs.grammars.hb_compile.Goals as goal

pub returns-then-out-lt1 : goal.returns-then-out-lt1
returns-then-out-lt1 c = search (rules, compiling)

pub status_at-requires : goal.status_at-requires
status_at-requires c = search (rules, compiling, c.in-Err.is ∙ ap Err c.in-Fault.is)

pub returns-in-Ok : goal.returns-in-Ok
returns-in-Ok c = search (rules, compiling)

pub returns-in-Fault : goal.returns-in-Fault
returns-in-Fault c = search (rules, compiling, c.in-Err.is ∙ ap Err c.in-Fault.is)

pub returns-in-Refused : goal.returns-in-Refused
returns-in-Refused c = search (rules, compiling, c.in-Err.is ∙ ap Err c.in-Refused.is)
