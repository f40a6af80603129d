-- The compiler: the number of states of a text that is accepted, and its table in a part of what is lent; or a fault, or a part that is past the table.
use Rattle.std.specs.Prelude.{Result, Ok, Err, cond, List, ℕ, ◌*◌, ℤ, length}
use Rattle.triple.specs.declared.refusal.Refusal.TheVariants.{Part}
use Rattle.triple.specs.Refusals.{number_of}
use Rattle.grammar.specs.Texts.{lines_of}
use Rattle.grammar.specs.Curves.{token_bytes}
use Rattle.grammar.specs.Tests.{Verdict, fine, fault}
use Rattle.tables.specs.declared.compiler.CompileError.{CompileError}
use Rattle.tables.specs.Parts.{is_past, with_part}
use Rattle.tables.specs.Table.{table_of}
use Rattle.tables.specs.Verdicts.{verdict}

-- what the compiler gives: a number of states, a refusal from 12 to 20 with the line at fault, or one without
pub data Compiled : Type 0 where
  states : ℕ → Compiled
  faulty : ℕ → ℕ → Compiled
  refused : ℕ → Compiled

abbrev pub said_compiled : Result ℕ CompileError → Compiled
said_compiled (Ok n) = states n
said_compiled (Err (CompileError.Fault f)) = faulty (number_of f.refusal) f.line
said_compiled (Err (CompileError.Refused e)) = refused (number_of e)

abbrev pub table_for : List ℕ → List ℤ
table_for text = table_of (lines_of text)

-- two for each token
abbrev pub state_count : List ℕ → ℕ
state_count text = 2 * length (token_bytes (lines_of text))

-- 12 to 20, and then what comes after them
abbrev pub unless : Verdict → Compiled → Compiled
unless fine next = next
unless (fault n line) next = faulty n line

-- in a table of so many entries, from an entry on: 12 to 20, and then 26
unfoldable pub compiled_in : List ℕ → ℕ → ℕ → Compiled
compiled_in text size start = unless (verdict text) (cond (is_past size start (state_count text)) (refused (number_of Part)) (states (state_count text)))

abbrev pub compiled_to : List ℕ → List ℤ → ℕ → Compiled
compiled_to text table start = compiled_in text (length table) start

-- a table that is written where a number of states is answered, and stays as it was where a refusal is
abbrev pub written : Compiled → List ℤ → List ℤ → List ℤ
written (states n) after before = after
written (faulty n line) after before = before
written (refused n) after before = before

-- the text's table from the entry on; all other entries as they were
unfoldable pub after_compile : List ℕ → List ℤ → ℕ → List ℤ
after_compile text table start = written (compiled_to text table start) (with_part table start (table_for text)) table
