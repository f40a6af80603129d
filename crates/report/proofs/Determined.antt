-- The contract allows one result alone: one answer, and one content of both slices.
use mathlib.Core.Path.{◌≡◌, sym, ◌∙◌}
use mathlib.Core.List.{List}
use Prim.Native.Nat.{ℕ, ◌/◌}
use lib.IntN.{ℤ}
use Rattle.std.specs.Prelude.{Result}
use Rattle.triple.specs.Lent.{valued, count_of, after_call}
use Rattle.triple.proofs.Determined.{determined, said_one_to_one}
use Rattle.report.specs.Reports.{report_to, work_to}
use Rattle.triple.specs.Refusals.{said}
use Rattle.triple.specs.declared.refusal.Refusal.{Refusal}

module _ (o r : ℕ) (xs : List ℤ) (work out : List ℕ) where
  abbrev pub Answered : Result ℕ Refusal → List ℕ → List ℕ → Type 0
  Answered a v w =
      (said a ≡ valued (λ n. n / 2) (count_of (report_to o r xs work out) out)) × (v ≡ after_call (report_to o r xs work out) out) × (w ≡ after_call (work_to o r xs work out) work)

pub report_determined : (o r : ℕ) (xs : List ℤ) (work out : List ℕ) (a b : Result ℕ Refusal) (v x w y : List ℕ)
    → Answered o r xs work out a v w → Answered o r xs work out b x y → (a ≡ b) × (v ≡ x) × (w ≡ y)
report_determined o r xs work out a b v x w y p q = (determined said said_one_to_one a b p.0 q.0, p.1 ∙ sym q.1, p.2 ∙ sym q.2)
