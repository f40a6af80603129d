-- The call that checks a treated list, as the values that it writes.
use Rattle.std.specs.Prelude.{List, [], ◌∷◌, ℕ}
use Rattle.triple.specs.Refusals.{Told}
use Rattle.triple.specs.Lent.{valued}
use Rattle.treated.specs.declared.Fault.{Fault}
use Rattle.treated.specs.Treated.{Verdict, good, faulty, check_of}

-- a fault by its number; 0 is none
unfoldable pub fault_number : Fault → ℕ
fault_number Fault.Unsound = 1
fault_number Fault.Marked = 2
fault_number Fault.Orientation = 3
fault_number Fault.Overlap = 4

-- fault number
abbrev pub verdict_numbers : ℕ → ℕ → List ℕ
verdict_numbers fault number = fault ∷ number ∷ []

abbrev pub verdict_values : Verdict → List ℕ
verdict_values (good n) = verdict_numbers 0 n
verdict_values (faulty f n) = verdict_numbers (fault_number f) n

-- the verdict on a treated list
abbrev pub check_call : List ℕ → Told (List ℕ)
check_call list = valued verdict_values (check_of list)
