-- `status_without_place`: what the compiler would refuse is refused, and what it would write has no room.
use mathlib.Core.Path.{ap, ◌∙◌}
use Rattle.std.specs.Prelude.{Err}
use Rattle.capi.proofs.CompileLaws.{compiling}
use borrow.Author.Rules.{rules}
use Rattle.capi.proofs.grammars.status_without_place.Goals as goal

pub status_at-requires : goal.status_at-requires
status_at-requires c = search (rules, compiling, c.in-Err.is ∙ ap Err c.in-Fault.is)

pub returns-in-Ok : goal.returns-in-Ok
returns-in-Ok c = search (rules, compiling)

pub returns-in-Fault : goal.returns-in-Fault
returns-in-Fault c = search (rules, compiling, c.in-Err.is ∙ ap Err c.in-Fault.is)

pub returns-in-Refused : goal.returns-in-Refused
returns-in-Refused c = search (rules, compiling, c.in-Err.is ∙ ap Err c.in-Refused.is)
