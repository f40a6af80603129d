-- AREAS: `area`'s laws of the calls, over lists that pass the three tests.
use mathlib.Core.Path.{◌≡◌, sym, ap, ◌∙◌}
use mathlib.Core.Logic.{◌↔◌}
use mathlib.Core.List.{List}
use Prim.Native.Nat.{ℕ}
use Rattle.triple.specs.Refusals.{told}
use Rattle.area.specs.declared.operation.Operation.{Operation}
use Rattle.area.specs.Areas.{made_call}
use Rattle.area.proofs.Accepted.{area_passes, passes_area, made_given, made_told}
use Rattle.area.proofs.CallLaws.{union_ground, intersection_ground, difference_ground, contains_ground, out_shortest, union_again, union_turned, intersection_turned, union_joined, union_twice, sizes_sum, parted_whole, parted_clear}
use Rattle.report.proofs.CallLaws.{report_ground, report_lone, report_area, report_same}
use Rattle.demands.specs.Areas.{IsArea, union, Made, AreaDemands, ReportDemands}

taken : (o : Operation) (a b : List ℕ) → ((out : List ℕ) × (made_call o a b ≡ told out)) ↔ (IsArea a × IsArea b)
taken o a b = (
  (λ t. let g = made_given o a b t.1 in (area_passes a g.first, area_passes b g.second)),
  λ t. (_, made_told o a b (passes_area a t.0) (passes_area b t.1)),
)

made : (o : Operation) (a b out : List ℕ) → made_call o a b ≡ told out → Made o a b out
made o a b out e = let g = made_given o a b e in record { area = area_passes out g.area; folded = g.lone; shortest = out_shortest a b o e }

pub areas : AreaDemands
areas = record {
  taken = taken;
  made = made;
  union_covers = λ a b out. union_ground a b;
  intersection_covers = λ a b out. intersection_ground a b;
  difference_covers = λ a b out. difference_ground a b;
  contains_covers = λ a m p x. contains_ground a m p;
  idempotent = λ a x. union_again a (passes_area a x);
  commutative = union_turned;
  associative = λ a b c x y z. union_joined a b c (passes_area a x) (passes_area b y) (passes_area c z);
  again = λ a b u. union_twice a b;
  turned = intersection_turned;
  sizes = λ a b u i eu ei r v w. sizes_sum a b eu ei r;
  parted = λ a b d i ed ei. (parted_whole a b ed ei, parted_clear a b ed ei);
}

-- ---- reports
pub reports : ReportDemands
reports = record {
  covers = λ o r xs out. report_ground o r xs;
  folded = λ o r xs out. report_lone o r xs;
  area = λ o r xs out e. area_passes out (report_area o r xs e);
  unordered = λ o r xs ys a b. report_same o r xs ys;
  again = λ o r xs ys a b total once ea eb same e.
      (let one : union total b ≡ told once = ap (union total) (sym (report_same o r xs ys ea eb same)) ∙ e in union_twice total b one);
}
