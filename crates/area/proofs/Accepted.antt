-- What the calls are told: two areas; what is made of them is one too, which every call takes.
use mathlib.Core.Bool.{Bool, true, false, not, cond, ◌&&◌, and_comm}
use mathlib.Core.Path.{◌≡◌, refl, sym, ap, ap₂, ◌∙◌}
use mathlib.Core.List.{List}
use Prim.Native.Nat.{ℕ, ◌%◌}
use native.Mathlib.Omega.{arith}
use lib.Dec.{eqb}
use lib.ListN.{length}
use borrow.Author.Tests.{eq-eqb, eqb-true, not-false}
use Rattle.triple.specs.declared.refusal.Refusal.TheVariants as Is
use Rattle.triple.specs.Refusals.{Told, told}
use Rattle.triple.proofs.RefusalLaws.{passed}
use Rattle.fold.specs.Cells.{Cell, pairs, cells_in}
use Rattle.fold.specs.Foldings.{Lone}
use Rattle.fold.specs.Unfolds.{shallow, inside, apart, ordered, passes}
use Rattle.fold.specs.Inside.Pairs.{Laid}
use Rattle.whole.proofs.Bools.{both_true}
use Rattle.fold.proofs.PairLaws.{length_pairs, cells_of_pairs, pairs_of_cells}
use Rattle.fold.proofs.PairTestLaws.{laid_shallow, laid_inside, laid_apart, ordered_laid}
use Rattle.area.specs.declared.operation.Operation.{Operation}
use Rattle.area.specs.Areas.{tested, made_of, made, made_call}
use Rattle.area.proofs.Made.{made_laid, made_lone}

-- ---- a list that passes its tests
pub record Area (xs : List ℕ) : Type 0 where
  pub even : length xs % 2 ≡ 0
  pub laid : Laid 30 0 (cells_in xs)

module _ (a b : List ℕ) where
  pub tested_told : {A : Type 0} (says : Told A) {x : A} → tested a b says ≡ told x → Area a × Area b × (says ≡ told x)
  unfolding tested ordered
  tested_told says e =
      let deep = passed (not (shallow 30 (cells_in a) && shallow 30 (cells_in b))) Is.Resolution e in
      let past = passed (not (inside (cells_in a) && inside (cells_in b))) Is.Position deep.1 in
      let order = passed (not (ordered 30 a && ordered 30 b)) Is.Order past.1 in
      let d = both_true (shallow 30 (cells_in a)) (shallow 30 (cells_in b)) (not-false (shallow 30 (cells_in a) && shallow 30 (cells_in b)) deep.0) in
      let p = both_true (inside (cells_in a)) (inside (cells_in b)) (not-false (inside (cells_in a) && inside (cells_in b)) past.0) in
      let o = both_true (ordered 30 a) (ordered 30 b) (not-false (ordered 30 a && ordered 30 b) order.0) in
      let even : (xs : List ℕ) → ordered 30 xs ≡ true → length xs % 2 ≡ 0 =
      λ xs f. eqb-true (length xs % 2) 0 (both_true (eqb (length xs % 2) 0) (apart 30 0 (cells_in xs)) f).0 in (
        record { even = even a o.0; laid = ordered_laid 30 a d.0 p.0 o.0 },
        record { even = even b o.1; laid = ordered_laid 30 b d.1 p.1 o.1 },
        order.1,
      )

  pub tested_taken : {A : Type 0} (says : Told A) → Area a → Area b → tested a b says ≡ says
  unfolding tested ordered
  tested_taken says x y =
      let tidy : (xs : List ℕ) → Area xs → ordered 30 xs ≡ true =
      λ xs z. ap₂ (λ (u v : Bool). u && v) (eq-eqb (length xs % 2) 0 z.even) (laid_apart 30 0 (cells_in xs) z.laid) in
      simp (
        laid_shallow 30 0 (cells_in a) x.laid,
        laid_shallow 30 0 (cells_in b) y.laid,
        laid_inside 30 0 (cells_in a) x.laid,
        laid_inside 30 0 (cells_in b) y.laid,
        tidy a x,
        tidy b y,
      )

  pub tested_turned : {A : Type 0} (says : Told A) → tested a b says ≡ tested b a says
  unfolding tested
  tested_turned says =
      rw (
        and_comm (shallow 30 (cells_in a)) (shallow 30 (cells_in b)),
        and_comm (inside (cells_in a)) (inside (cells_in b)),
        and_comm (ordered 30 a) (ordered 30 b),
      )

-- ---- what a call is told of
pub record Given (o : Operation) (a b out : List ℕ) : Type 0 where
  pub first : Area a
  pub second : Area b
  pub cells : cells_in out ≡ made 30 o (cells_in a) (cells_in b)
  pub as_pairs : out ≡ pairs (made 30 o (cells_in a) (cells_in b))
  pub area : Area out
  pub lone : Lone (cells_in out)

pub pairs_area : (cells : List Cell) → Laid 30 0 cells → Area (pairs cells)
pairs_area cells l = record { even = omega (arith, length_pairs cells); laid = rw (cells_of_pairs cells) l }

told_same : {A : Type 0} {x y : A} → told x ≡ told y → x ≡ y
told_same e = cc

pub made_given : (o : Operation) (a b : List ℕ) {out : List ℕ} → made_call o a b ≡ told out → Given o a b out
unfolding made_call made_of
made_given o a b {out} e =
    let t = tested_told a b (told (pairs (made 30 o (cells_in a) (cells_in b)))) e in
    let x = t.0.laid in
    let y = t.1.laid in
    let cells = made 30 o (cells_in a) (cells_in b) in
    let is : out ≡ pairs cells = sym (told_same t.2) in
    let same : cells_in out ≡ cells = ap cells_in is ∙ cells_of_pairs cells in
    record {
      first = t.0;
      second = t.1;
      cells = same;
      as_pairs = is;
      area = rw is (pairs_area cells (made_laid 30 o (cells_in a) (cells_in b) x y));
      lone = rw same (made_lone 30 o (cells_in a) (cells_in b));
    }

pub made_told : (o : Operation) (a b : List ℕ) → Area a → Area b → made_call o a b ≡ told (pairs (made 30 o (cells_in a) (cells_in b)))
unfolding made_call made_of
made_told o a b x y = tested_taken a b _ x y

pub area_pairs : (a : List ℕ) → Area a → pairs (cells_in a) ≡ a
area_pairs a x = pairs_of_cells a x.even

-- ---- by the count of the tests
pub area_passes : (a : List ℕ) → Area a → passes 30 a ≡ 3
unfolding passes ordered
area_passes a x =
    simp (
      laid_shallow 30 0 (cells_in a) x.laid,
      laid_inside 30 0 (cells_in a) x.laid,
      laid_apart 30 0 (cells_in a) x.laid,
      eq-eqb (length a % 2) 0 x.even,
    )

all_three : (s i o : Bool) → ◌≡◌ {A = ℕ} (cond s (cond i (cond o 3 2) 1) 0) 3 → (s ≡ true) × (i ≡ true) × (o ≡ true)
all_three true true true e = (refl, refl, refl)
all_three true true false e = let z : ⊥ = omega arith in absurd z
all_three true false o e = let z : ⊥ = omega arith in absurd z
all_three false i o e = let z : ⊥ = omega arith in absurd z

pub passes_area : (a : List ℕ) → passes 30 a ≡ 3 → Area a
unfolding passes ordered
passes_area a e =
    let t = all_three (shallow 30 (cells_in a)) (inside (cells_in a)) (ordered 30 a) e in
    record {
      even = eqb-true (length a % 2) 0 (both_true (eqb (length a % 2) 0) (apart 30 0 (cells_in a)) t.2).0;
      laid = ordered_laid 30 a t.0 t.1 t.2;
    }
