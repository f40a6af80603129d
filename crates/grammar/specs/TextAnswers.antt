-- What the answer of the test of a grammar text says.
use Rattle.std.specs.Prelude.{Result, Ok, Err}
use Rattle.triple.specs.Refusals.{number_of}
use Rattle.grammar.specs.declared.tests.Fault.{Fault}
use Rattle.grammar.specs.Tests.{Verdict, fine, fault}

abbrev pub said_text : Result (Unit {0}) Fault → Verdict
said_text (Ok tt) = fine
said_text (Err f) = fault (number_of f.refusal) f.line
