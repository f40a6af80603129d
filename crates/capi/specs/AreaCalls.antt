-- The calls on areas: their values, in the order in which each writes them.
use Rattle.std.specs.Prelude.{Bool, cond, List, ◌≡◌, ℕ, ◌/◌, ℤ}
use Rattle.triple.specs.Refusals.{Told}
use Rattle.triple.specs.Lent.{valued, status_of, after_call, counting, first_of, second_of}
use Rattle.area.specs.declared.operation.Operation.{Operation}
use Rattle.area.specs.Areas.{made_call, size_call, contains_call}
use Rattle.report.specs.Reports.{triples_in, places_of, settled, report_to}
use Rattle.capi.specs.Calls.{count_values}

-- the pairs of what an operation makes, and how many they are
abbrev pub combined_call : Operation → List ℕ → List ℕ → Told (List ℕ × List ℕ)
combined_call o a b = counting (λ n. n / 2) (made_call o a b)

-- 0 or 1
abbrev pub flag_values : Bool → List ℕ
flag_values b = count_values (cond b 1 0)

abbrev pub area_contains_call : List ℕ → ℕ → ℕ → Told (List ℕ)
area_contains_call a m p = valued flag_values (contains_call a m p)

abbrev pub area_size_call : List ℕ → ℕ → Told (List ℕ)
area_size_call a r = valued count_values (size_call a r)

-- ---- reports
-- the pairs of what is reported, where work and pairs have the room; and how many they are
abbrev pub reported_call : ℕ → ℕ → List ℤ → List ℕ → List ℕ → Told (List ℕ × List ℕ)
reported_call o r xs work pairs = counting (λ n. n / 2) (report_to o r xs work pairs)

-- what is left at the front of work, where count has its place too: the positions, ascending and each once, and zeros behind them up to one for each triple
abbrev pub reported_work : ℕ → ℕ → List ℤ → List ℕ → List ℕ → List ℕ → Told (List ℕ)
reported_work o r xs work pairs count = valued (λ area. settled r (places_of o r (triples_in xs))) (first_of (reported_call o r xs work pairs) count)

-- the status, and pairs, count and work afterwards
abbrev pub ReportCalled : ℕ → ℕ → List ℤ → List ℕ → List ℕ → List ℕ → ℕ → List ℕ → List ℕ → List ℕ → Type 0
ReportCalled o r xs work pairs count status x y w =
    (status ≡ status_of (first_of (reported_call o r xs work pairs) count) pairs)
    × (x ≡ after_call (first_of (reported_call o r xs work pairs) count) pairs)
    × (y ≡ after_call (second_of (reported_call o r xs work pairs) pairs) count)
    × (w ≡ after_call (reported_work o r xs work pairs count) work)
