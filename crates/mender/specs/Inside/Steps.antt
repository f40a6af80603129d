-- The parts of a walk along a piece: its limit, and one step.
use Rattle.std.specs.Prelude.{◌≡◌, ℕ, ◌-◌, Bool, true, false, List, length}
use Rattle.triple.specs.Refusals.{Told, told}
use Rattle.mend.specs.declared.Stepped.{Stepped}
use Rattle.mend.specs.Mends.{longest_code, piece_of}

-- of the last piece all is mended; of another, what has as many bytes behind it as a code may have
abbrev pub limit_of : Bool → ℕ → ℕ
limit_of true n = n
limit_of false n = n - (longest_code - 1)

-- the step that a call gives, where it gives one
abbrev pub Given : Told Stepped → Stepped → Type 0
Given t x = (y : Stepped) → t ≡ told y → x ≡ y

-- the step that the piece at the front is
abbrev pub whole_step : List ℕ → Stepped
whole_step rest = record { taken = (piece_of rest).taken; written = length (piece_of rest).bytes; change = (piece_of rest).change }
