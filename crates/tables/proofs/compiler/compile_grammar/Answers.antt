-- `compiler::compile_grammar` tests the text, and compiles what the tests find no fault with.
use Rattle.tables.proofs.CompilerLaws.{by_text}
use mathlib.Core.Path.{ap, ◌∙◌}
use borrow.Author.Rules.{rules}
use Rattle.triple.proofs.RefusalLaws.{err_is}
use Rattle.tables.specs.declared.compiler.CompileError.{CompileError}
use Rattle.tables.specs.Compiler.{said_compiled}
use Rattle.tables.proofs.compiler.compile_grammar.Goals as goal

pub returns-in_err-read : goal.returns-in_err-read
returns-in_err-read c = (ap said_compiled (err_is (CompileError.Fault c.in_err-read.field-0.0) _ c.from_residual.ensures.1) ∙ search (rules, by_text, c.in_err-read.was), search (rules, by_text, c.in_err-read.was))

pub invariant_of-grammar : goal.invariant_of-grammar
invariant_of-grammar c = search (rules, by_text, c.in_ok-read.was)
