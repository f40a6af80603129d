-- The domain: what its two tests tell, in the form of what the code has in hand, and how many rows and positions there are.
use mathlib.Core.Path.{◌≡◌, refl, sym, ap, ◌∙◌}
use mathlib.Core.Bool.{Bool, true, false}
use Prim.Native.Nat.{ℕ, ◌*◌, ◌%◌, ◌^◌, ◌<◌, ◌≤◌}
use native.Mathlib.Nat.{one-mul, mod-eq_of_lt}
use native.Mathlib.Omega.{arith}
use borrow.Author.Tests.{lt-ltb, le-ltb, le-leb, lt-leb, ltb-false}
use lib.Dec.{ltb, lit<}
use lib.IntN.{ℤ, pos}
use lib.Pow.{pow_mono, pow-lt, shl_exact}
use mir.Syntax.{w64}
use mir.Val.{SFits, to_z}
use mir.ValLaws.{to_z_pos}
use Rattle.std.specs.Prelude.{Result, Ok, Err}
use Rattle.whole.proofs.Powers.{four_by_shift}
use Rattle.whole.proofs.View.{View, v_upto, v_same, fits}
use Rattle.triple.specs.declared.refusal.Refusal.{Refusal}
use Rattle.triple.specs.declared.refusal.Refusal.TheVariants as Is
use Rattle.triple.specs.Refusals.{Told, told, refused, refuse, number_of, said}
use Rattle.triple.specs.Domain.{in_domain, domain_of, row_count, position_count}

-- ---- the two tests, one after the other
module _ {A : Type 0} (o r : ℕ) (next : Told A) where
  pub domain_deep : 30 < r → refused (number_of Is.Resolution) ≡ in_domain o r next
  domain_deep h = simp (lt-ltb 30 r h)

  pub domain_unoriented : r ≤ 30 → 5 < o → refused (number_of Is.Orientation) ≡ in_domain o r next
  domain_unoriented h k = simp (le-ltb 30 r h, lt-ltb 5 o k)

  pub domain_in : r ≤ 30 → o ≤ 5 → next ≡ in_domain o r next
  domain_in h k = simp (le-ltb 30 r h, le-ltb 5 o k)

pub ruleset domains = (domain_deep, domain_unoriented, domain_in)

-- ---- what an operation that made them knows
by_tests : {A : Type 0} (deep unoriented : Bool) (next : Told A) (a : Result Unit Refusal) → said a ≡ refuse deep Is.Resolution (refuse unoriented Is.Orientation (told tt))
    → {e : Refusal} → a ≡ Err e → refused (number_of e) ≡ refuse deep Is.Resolution (refuse unoriented Is.Orientation next)
by_tests true unoriented next a ea m = let e = sym (ap said m) ∙ ea in cc
by_tests false true next a ea m = let e = sym (ap said m) ∙ ea in cc
by_tests false false next a ea m = let e = sym (ap said m) ∙ ea in cc

neither : (deep unoriented : Bool) (a : Result Unit Refusal) → said a ≡ refuse deep Is.Resolution (refuse unoriented Is.Orientation (told tt)) → a ≡ (Ok tt) → (deep ≡ false) × (unoriented ≡ false)
neither true unoriented a ea m = let e = sym (ap said m) ∙ ea in (cc, cc)
neither false true a ea m = let e = sym (ap said m) ∙ ea in (cc, cc)
neither false false a ea m = (refl, refl)

module _ (o r : ℕ) (a : Result Unit Refusal) (ea : said a ≡ domain_of o r) where
  pub out_of_domain : {A : Type 0} (next : Told A) {e : Refusal} → a ≡ Err e → refused (number_of e) ≡ in_domain o r next
  out_of_domain next m = by_tests (ltb 30 r) (ltb 5 o) next a ea m

  module _ (m : a ≡ (Ok tt)) where
    pub shallow : r ≤ 30
    shallow = ltb-false 30 r (neither (ltb 30 r) (ltb 5 o) a ea m).0

    pub oriented : o ≤ 5
    oriented = ltb-false 5 o (neither (ltb 30 r) (ltb 5 o) a ea m).1

    pub in_domain_lem : {A : Type 0} (next : Told A) → next ≡ in_domain o r next
    in_domain_lem next = domain_in o r next shallow oriented

-- ---- rows
pub rows_shifted : (r : ℕ) → r ≤ 30 → 1 * 2 ^ r % 2 ^ 64 ≡ 2 ^ r
rows_shifted r h = shl_exact {a = 1} 1 r 64 (lit< tt) (omega arith) ∙ one-mul (2 ^ r)

pub rows_most : (r : ℕ) → r ≤ 30 → 2 ^ r ≤ 2 ^ 30
rows_most r h = pow_mono h

pub rows_fit : (r : ℕ) → r ≤ 30 → SFits w64 (pos (1 * 2 ^ r % 2 ^ 64))
rows_fit r h = rw (rows_shifted r h) (fits (v_upto (2 ^ r) (2 ^ 30) (rows_most r h)) tt)

pub rows_none : (r : ℕ) → 30 < r → pos 0 ≡ pos (row_count r)
unfolding row_count
rows_none r h = simp (lt-leb r 30 h)

pub rows_counted : (r : ℕ) → r ≤ 30 → to_z w64 (1 * 2 ^ r % 2 ^ 64) ≡ pos (row_count r)
unfolding row_count
rows_counted r h = simp (le-leb r 30 h) (rw (rows_shifted r h) (to_z_pos w64 (2 ^ r) (omega (arith, rows_most r h))))

pub ruleset rows = (rows_fit, rows_none, rows_counted)

-- of the count that a call gives
pub rows_are : (r : ℕ) → r ≤ 30 → {n : ℤ} → n ≡ pos (row_count r) → n ≡ pos (2 ^ r)
unfolding row_count
rows_are r h e = e ∙ simp (le-leb r 30 h)

abbrev pub v_power : (r : ℕ) → r ≤ 30 → View (pos (2 ^ r))
v_power r h = v_upto (2 ^ r) (2 ^ 30) (rows_most r h)

abbrev pub v_rows : (r : ℕ) → r ≤ 30 → {n : ℤ} → n ≡ pos (row_count r) → View n
v_rows r h e = v_same (rows_are r h e) (v_power r h)

-- ---- positions
pub positions_none : (r : ℕ) → 30 < r → 0 ≡ position_count r
unfolding position_count
positions_none r h = simp (lt-leb r 30 h)

pub positions_counted : (r : ℕ) → r ≤ 30 → 1 * 2 ^ (2 * r) % 2 ^ 64 ≡ position_count r
unfolding position_count
positions_counted r h =
    let p : 2 ^ (2 * r) < 2 ^ 64 = pow-lt {i = 2 * r} {j = 64} (omega arith) in
    simp (le-leb r 30 h) (rw one-mul (mod-eq_of_lt p ∙ four_by_shift r))

pub ruleset positions = (positions_none, positions_counted)

-- of the count that a call gives
pub positions_are : (r : ℕ) → r ≤ 30 → {n : ℕ} → n ≡ position_count r → n ≡ 4 ^ r
unfolding position_count
positions_are r h e = e ∙ simp (le-leb r 30 h)
