-- A plan: the piece that it stands for, what a step by it takes and writes, and what is sure of it.
use Rattle.std.specs.Prelude.{◌≡◌, List, ℕ, ◌≤◌, length}
use Rattle.triple.specs.Refusals.{told}
use Rattle.code.specs.Codes.{code_length, code_bytes, code_of}
use Rattle.mend.specs.declared.Change.TheVariants.{Kept, Dropped}
use Rattle.mend.specs.declared.Stepped.{Stepped}
use Rattle.mend.specs.declared.Plan.{Plan}
use Rattle.mend.specs.Mends.{Piece, copied, anew, lost}

abbrev pub piece_for : List ℕ → Plan → Piece
piece_for rest (Plan.Copy n) = copied rest n
piece_for rest (Plan.Anew x c) = anew c x
piece_for rest Plan.Drop = lost

unfoldable pub plan_step : Plan → Stepped
plan_step (Plan.Copy n) = record { taken = n; written = n; change = Kept }
plan_step (Plan.Anew x c) = record { taken = x.used; written = x.used; change = c }
plan_step Plan.Drop = record { taken = 1; written = 0; change = Dropped }

-- what is copied is there, and what is written anew is taken by the writer
abbrev pub Sure : List ℕ → Plan → Type 0
Sure rest (Plan.Copy n) = n ≤ length rest
Sure rest (Plan.Anew x c) = (code_of x.orientation x.resolution x.s ≡ told (code_bytes x.orientation x.resolution x.s)) × (x.used ≡ code_length x.resolution)
Sure rest Plan.Drop = Unit
