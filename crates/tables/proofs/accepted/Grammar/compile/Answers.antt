-- `Grammar::compile` judges the source, and writes where the answer is a number of states.
use Rattle.tables.proofs.CompilerLaws.{by_answer}
use mathlib.Core.Path.{ap, ◌∙◌}
use borrow.Author.Rules.{rules}
use Rattle.triple.proofs.RefusalLaws.{err_is}
use Rattle.tables.specs.Compiler.{said_compiled}
use Rattle.tables.proofs.accepted.Grammar.compile.Goals as goal

pub offset_bounds-table-start : goal.offset_bounds-table-start
offset_bounds-table-start c = search (rules, by_answer, c.in_ok-states.was)

pub slice_bounds-write_states-count : goal.slice_bounds-write_states-count
slice_bounds-write_states-count c = search (rules, by_answer, c.in_ok-states.was)

pub slice_bounds-write_states-start : goal.slice_bounds-write_states-start
slice_bounds-write_states-start c = search (rules, by_answer, c.in_ok-states.was)

pub write_states-requires : goal.write_states-requires
write_states-requires c = search (rules, by_answer, c.in_ok-states.was)

pub returns : goal.returns
returns c = search (rules, by_answer, c.in_ok-states.was)

pub returns-in_err-states : goal.returns-in_err-states
returns-in_err-states c =
    (ap said_compiled (err_is c.in_err-states.field-0.0 _ c.from_residual.ensures.1) ∙ search (rules, by_answer, c.in_err-states.was), search (rules, by_answer, c.in_err-states.was))
