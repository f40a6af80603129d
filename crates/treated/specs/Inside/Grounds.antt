-- Grounds: where a cell starts and ends on the curve at resolution 30, and the judgement on a code by the grounds of those before it.
use Rattle.std.specs.Prelude.{Bool, false, not, cond, ◌&&◌, List, ℕ, suc, ◌-◌, ◌*◌, ◌^◌, ltb, eqb, Option, Some, None, Result, Ok, Err}
use Rattle.std.specs.List.{list_any}
use Rattle.triple.specs.Refusals.{Told, told, refused}
use Rattle.triple.specs.Domain.{greatest_resolution}
use Rattle.code.specs.declared.Reading.{Reading}
use Rattle.treated.specs.declared.Fault.{Fault}
use Rattle.treated.specs.declared.Fault.TheVariants.{Unsound, Marked, Orientation, Overlap}
use Rattle.treated.specs.declared.Ground.{Ground}

unfoldable pub beginning : ℕ → ℕ → ℕ
beginning r s = s * 4 ^ (greatest_resolution - r)

abbrev pub start_of : Reading → ℕ
start_of x = beginning x.resolution x.s

abbrev pub end_of : Reading → ℕ
end_of x = beginning x.resolution (suc x.s)

abbrev pub ground_of : Reading → Ground
ground_of x = record { start = start_of x; end = end_of x }

-- each of two grounds starts before the other's end
abbrev pub meets : Ground → Ground → Bool
meets a b = ltb a.start b.end && ltb b.start a.end

-- there is a code before, and the first is of another orientation
abbrev pub differs : ℕ → Option ℕ → Bool
differs own None = false
differs own (Some first) = not (eqb own first)

unfoldable pub judge_reading : Option ℕ → List Ground → Reading → Result Reading Fault
judge_reading first grounds x =
    cond x.old (Err Marked)
    (cond (differs x.orientation first) (Err Orientation)
    (cond (list_any (λ g. meets g (ground_of x)) grounds) (Err Overlap)
    (Ok x)))

unfoldable pub judge_by : Option ℕ → List Ground → Told Reading → Result Reading Fault
judge_by first grounds (refused n) = Err Unsound
judge_by first grounds (told x) = judge_reading first grounds x
