-- A REFUSED CALL changes no lent buffer: by what each definition has where the call is refused.
use mathlib.Core.Path.{◌≡◌, refl, sym, ◌∙◌}
use mathlib.Core.Bool.{Bool, true, false, cond}
use mathlib.Core.List.{List, [], ◌∷◌, ◌++◌}
use Prim.Native.Nat.{ℕ, ◌+◌, ◌*◌, ◌/◌}
use native.Mathlib.Omega.{arith}
use lib.Dec.{ltb}
use lib.IntN.{ℤ}
use lib.ListN.{length, drop}
use borrow.Author.Tests.{le-ltb}
use Rattle.triple.specs.declared.refusal.Refusal.TheVariants.{Room}
use Rattle.triple.specs.Refusals.{Told, told, refused, refuse, number_of}
use Rattle.triple.specs.Lent.{valued, count_of, status_of, after_call, Called, first_of, second_of, CalledBoth}
use Rattle.triple.proofs.LentLaws.{counted_refused, counted_kept, valued_refused}
use Rattle.tables.specs.Compiler.{Compiled, states, faulty, compiled_to, after_compile, table_for, written}
use Rattle.tables.specs.Compiler as Compiler
use Rattle.tables.specs.Parts.{with_part}
use Rattle.tables.proofs.PartsAlone.{compile_kept}
use Rattle.fold.specs.Folds.{fold_call}
use Rattle.area.specs.declared.operation.Operation.{Operation}
use Rattle.area.specs.Areas.{made_call}
use Rattle.report.specs.Reports.{triples_in, places_of, settled, report_to, work_to}
use Rattle.report.proofs.RoomLaws.{report_fits}
use Rattle.capi.specs.Calls.{compiled_values, fault_line, compile_status, table_after, count_after, CompileCalled}
use Rattle.capi.specs.AreaCalls.{reported_call, ReportCalled}
use Rattle.demands.specs.Demands.{LentBuffers}

folds : (o r : ℕ) (positions slice : List ℕ) (n : ℕ) → valued (λ n. n / 2) (count_of (fold_call o r positions) slice) ≡ refused n → after_call (fold_call o r positions) slice ≡ slice
folds o r positions slice n e = counted_kept (fold_call o r positions) slice (valued_refused (λ n. n / 2) (count_of (fold_call o r positions) slice) (sym e))

areas : (operation : Operation) (a b slice : List ℕ) (n : ℕ) → valued (λ n. n / 2) (count_of (made_call operation a b) slice) ≡ refused n → after_call (made_call operation a b) slice ≡ slice
areas operation a b slice n e = counted_kept (made_call operation a b) slice (valued_refused (λ n. n / 2) (count_of (made_call operation a b) slice) (sym e))

-- a report is refused by its own tests alone: what it writes has its room
reports : (o r : ℕ) (triples : List ℤ) (work slice : List ℕ) (n : ℕ) → valued (λ n. n / 2) (count_of (report_to o r triples work slice) slice) ≡ refused n
    → (after_call (report_to o r triples work slice) slice ≡ slice) × (after_call (work_to o r triples work slice) work ≡ work)
unfolding work_to after_call
reports o r triples work slice n e = by (report_to o r triples work slice) refl (valued_refused (λ n. n / 2) (count_of (report_to o r triples work slice) slice) (sym e))
  where
    by : (call : Told (List ℕ)) → report_to o r triples work slice ≡ call → count_of call slice ≡ refused n
        → (after_call call slice ≡ slice) × (after_call (valued (λ area. settled r (places_of o r (triples_in triples))) call) work ≡ work)
    by (told area) is e =
        let short = (counted_refused area slice (sym e)).0 in
        let none : ⊥ = omega (arith, short, report_fits o r triples work slice is) in
        absurd none
    by (refused m) is e = (refl, refl)

-- ---- calls from C
module _ {A : Type 0} where
  slice : (call : Told (List A)) (slice after : List A) (status : ℕ) → Called call slice status after → (status ≡ 0 → ⊥) → after ≡ slice
  unfolding status_of after_call
  slice (told values) before after status c some = go (ltb (length before) (length values)) c.0 c.1
    where
      go : (short : Bool) → status ≡ cond short (number_of Room) 0 → after ≡ cond short before (values ++ drop (length values) before) → after ≡ before
      go true e f = f
      go false e f = absurd (some e)
  slice (refused n) before after status c some = c.1

slices : {A B : Type 0} (call : Told (List A × List B)) (first x : List A) (second y : List B) (status : ℕ) → CalledBoth call first second status x y → (status ≡ 0 → ⊥) → (x ≡ first) × (y ≡ second)
unfolding status_of after_call first_of second_of
slices (told (values, others)) first x second y status c some = go (ltb (length first) (length values)) (ltb (length second) (length others)) refl refl
  where
    go : (a b : Bool) → ltb (length first) (length values) ≡ a → ltb (length second) (length others) ≡ b → (x ≡ first) × (y ≡ second)
    go true true ea eb = (c.1 ∙ rw (eb), c.2 ∙ rw (ea))
    go true false ea eb = (c.1 ∙ rw (eb, ea), c.2 ∙ rw ea)
    go false true ea eb = (c.1 ∙ rw eb, c.2 ∙ rw (ea, eb))
    go false false ea eb = absurd (some (c.0 ∙ rw (eb, ea)))
slices (refused n) first x second y status c some = (c.1, c.2)

compiled : (text : List ℕ) (table x : List ℤ) (start : ℕ) (out y : List ℕ) (status : ℕ) → CompileCalled text table start out status x y → (status ≡ 0 → ⊥) → (x ≡ table) × (y ≡ out)
unfolding compile_status table_after count_after after_compile status_of after_call
compiled text table x start out y status c some = by_answer (compiled_to text table start) c
  where
    same : (b : Bool) → cond b table table ≡ table
    same true = refl
    same false = refl

    by_answer : (a : Compiled)
        → (status ≡ 256 * fault_line a + status_of (compiled_values a) out)
        × (x ≡ cond (ltb (length out) 1) table (written a (with_part table start (table_for text)) table))
        × (y ≡ after_call (compiled_values a) out)
        → (x ≡ table) × (y ≡ out)
    by_answer (states n) d = by_place (ltb (length out) 1) refl
      where
        by_place : (b : Bool) → ltb (length out) 1 ≡ b → (x ≡ table) × (y ≡ out)
        by_place true e = (d.1 ∙ rw e refl, d.2 ∙ rw e refl)
        by_place false e = absurd (some (d.0 ∙ rw e refl))
    by_answer (faulty n line) d = (d.1 ∙ same (ltb (length out) 1), d.2)
    by_answer (Compiler.refused n) d = (d.1 ∙ same (ltb (length out) 1), d.2)

reported : (o r : ℕ) (triples : List ℤ) (work w pairs x count y : List ℕ) (status : ℕ) → ReportCalled o r triples work pairs count status x y w → (status ≡ 0 → ⊥)
    → (x ≡ pairs) × (y ≡ count) × (w ≡ work)
unfolding first_of status_of after_call
reported o r triples work w pairs x count y status c some =
    let both = slices (reported_call o r triples work pairs) pairs x count y status (c.0, c.1, c.2) some in
    (both.0, both.1, c.3 ∙ by_call (report_to o r triples work pairs) refl c.0)
  where
    by_call : (call : Told (List ℕ)) → report_to o r triples work pairs ≡ call → status ≡ status_of (first_of (valued (λ values. (values, length values / 2 ∷ [])) call) count) pairs
        → after_call (valued (λ area. settled r (places_of o r (triples_in triples))) (first_of (valued (λ values. (values, length values / 2 ∷ [])) call) count)) work ≡ work
    by_call (told area) is e = by_place (ltb (length count) 1) e
      where
        by_place : (none : Bool) → status ≡ status_of (refuse none Room (told area)) pairs → after_call (valued (λ area. settled r (places_of o r (triples_in triples))) (refuse none Room (told area))) work ≡ work
        by_place true e = refl
        by_place false e = absurd (some (e ∙ rw (le-ltb (length pairs) (length area) (report_fits o r triples work pairs is)) refl))
    by_call (refused n) is e = refl

pub lent_buffers : LentBuffers
lent_buffers = record { buffer = λ call buffer n. counted_kept call buffer; folds = folds; areas = areas; reports = reports; table = compile_kept; slice = slice; slices = slices; compiled = compiled; reported = reported }
