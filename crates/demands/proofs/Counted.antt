-- A LOOKUP finds the drawing's position by the looks that it reports: `lsystem`'s laws.
use mathlib.Core.Path.{◌≡◌, refl, sym, ap, ◌∙◌}
use mathlib.Core.Logic.{◌↔◌}
use Prim.Native.Nat.{ℕ, zero, suc, ◌+◌, ◌-◌, ◌%◌, ◌≤◌}
use native.Mathlib.Omega.{arith}
use Rattle.triple.specs.declared.Triple.{Triple}
use Rattle.triple.specs.Refusals.{Told, told, refused}
use Rattle.triple.specs.Orientations.{curve_place}
use Rattle.tables.specs.Patterns.{side_threshold}
use Rattle.a5.specs.Lookup.{separator_value, side, choice, chosen}
use Rattle.a5.proofs.A5Compiled.{a5_table_is}
use Rattle.lsystem.specs.declared.Position.{Position}
use Rattle.lsystem.specs.declared.Located.{Located}
use Rattle.lsystem.specs.Cells.{position_of}
use Rattle.lsystem.specs.Looks.{looks_of, with_looks, located_of}
use Rattle.lsystem.proofs.Numbering.{told_in}
use Rattle.lsystem.proofs.LookLaws.{own_safe, looks_position, looks_names, looks_picks, looks_comparisons, no_looks, located_told}
use Rattle.demands.specs.Lookups.{Lookup, Lookups}
use Rattle.triple.proofs.RefusalLaws.{told_same}
use Rattle.demands.proofs.ToldLaws.{told_refused}

together : (r p c d : ℕ) → p ≡ r - 1 → (1 ≤ r → c ≡ d % 4 + 1) → (r ≡ 0 → c ≡ 0) → p + c ≤ r + 3
together zero p c d e f g = omega (arith, g refl)
together (suc n) p c d e f g = omega (arith, f (omega arith))

looks : (o r : ℕ) (t : Triple) (l : Located) → located_of o r t ≡ told l → Lookup o r t l
looks o r t l e =
    let a = located_told o r t l e in
    let i = told_in o r t l.position a.0 in
    let h = i.0 in
    let k = i.1 in
    let b = i.2 in
    let same : l.position.s ≡ (looks_of o r t).place = ap (λ (p : Position). p.s) (told_same (sym a.0 ∙ looks_position o h t side_threshold own_safe r k b)) in
    let levels : l.picks ≡ r - 1 = a.1 ∙ looks_picks o h t side_threshold own_safe r b in
    let last : 1 ≤ r → l.comparisons ≡ curve_place o r l.position.s % 4 + 1 = λ z. a.2 ∙ looks_comparisons o h t side_threshold own_safe r z b ∙ ap (λ s. curve_place o r s % 4 + 1) (sym same) in
    let none : r ≡ 0 → (l.picks ≡ 0) × (l.comparisons ≡ 0) = λ z. (a.1 ∙ ap (λ r. (looks_of o r t).picks) z ∙ ap (λ l. l.picks) (no_looks side_threshold o t), a.2 ∙ ap (λ r. (looks_of o r t).comparisons) z ∙ ap (λ l. l.comparisons) (no_looks side_threshold o t)) in
    record {
      names = rw (looks_names o h t side_threshold own_safe r k b);
      found = same;
      picks = a.1;
      comparisons = a.2;
      none = none;
      levels = λ z. levels;
      last = last;
      most = together r l.picks l.comparisons (curve_place o r l.position.s) levels last (λ z. (none z).1);
    }

refused_alike : (o r : ℕ) (t : Triple) (n : ℕ) (found : Told Position) → (with_looks o r t found ≡ refused n) ↔ (found ≡ refused n)
unfolding with_looks
refused_alike o r t n (told p) = (λ e. absurd (told_refused refl e), λ e. absurd (told_refused refl e))
refused_alike o r t n (refused m) = (λ e. cc, λ e. cc)

pub lookups : Lookups
unfolding chosen side separator_value choice located_of
lookups = record {
  table = a5_table_is;
  pick = λ n k p. refl;
  looks = looks;
  none = λ o r t n. refused_alike o r t n (position_of o r t);
}
