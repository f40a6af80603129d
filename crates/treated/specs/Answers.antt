-- What the answer of this crate says: a verdict, or its refusal's number.
use Rattle.std.specs.Prelude.{ℕ, Result, Ok, Err}
use Rattle.triple.specs.Refusals.{Told, told, refused, number_of}
use Rattle.treated.specs.declared.CheckError.{CheckError}
use Rattle.treated.specs.Treated.{Verdict, good, faulty}

abbrev pub said_check : Result ℕ CheckError → Told Verdict
said_check (Ok n) = told (good n)
said_check (Err (CheckError.Faulty f n)) = told (faulty f n)
said_check (Err (CheckError.Refused e)) = refused (number_of e)
