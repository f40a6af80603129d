-- The judgement on a code by the grounds of those before it is the one together with those codes.
use mathlib.Core.Path.{◌≡◌, refl, sym, ap, ap₂, ◌∙◌}
use mathlib.Core.Bool.{Bool, true, false, cond, ◌||◌}
use mathlib.Core.List.{List, [], ◌∷◌, ◌++◌, map, map-append}
use Prim.Native.Nat.{ℕ, ◌^◌, ◌<◌, ◌≤◌}
use native.Mathlib.Omega.{arith}
use lib.Dec.{eqb}
use lib.ListN.{length, get_or}
use mir.Syntax.{w8}
use mir.Val.{Fits}
use borrow.Author.Tests.{eqb-true, not-false}
use Rattle.triple.specs.declared.refusal.Refusal.{Refusal}
use Rattle.triple.specs.Refusals.{Told, told, refused, said}
use Rattle.triple.specs.Orientations.{curve_place}
use Rattle.triple.proofs.OrientationLaws.{place_small}
use Rattle.code.specs.declared.Reading.{Reading}
use Rattle.code.specs.Codes.{code_length, reading_of, read_of}
use Rattle.code.proofs.Canonical.{own_orientation, own_position, loose_spelled, read_loosely}
use Rattle.code.proofs.SpareLaws.{loose_sized}
use Rattle.treated.specs.declared.Fault.{Fault}
use Rattle.treated.specs.declared.Fault.TheVariants.{Unsound, Marked, Orientation, Overlap}
use Rattle.treated.specs.Treated.{overlaps, strays, judge_of}
use Rattle.treated.specs.Inside.Grounds.{ground_of, meets, differs, judge_reading, judge_by}
use Rattle.treated.specs.declared.Ground.{Ground}
use Rattle.std.specs.Prelude.{Option, Some, None, Ok, Err, Result}
use Rattle.std.specs.List.{list_any}
use Rattle.treated.proofs.GroundLaws.{overlap_tested}

-- ---- a code that reads, by each test
module _ (first : Option ℕ) (grounds : List Ground) (x : Reading) where
  pub judged_marked : x.old ≡ true → Err Marked ≡ judge_reading first grounds x
  unfolding judge_reading
  judged_marked m = rw m

  module _ (new : x.old ≡ false) {d : Bool} (d_is : d ≡ differs x.orientation first) where
    pub judged_strayed : d ≡ true → Err Orientation ≡ judge_reading first grounds x
    unfolding judge_reading
    judged_strayed t = rw (new, ← d_is, t)

    module _ (same : d ≡ false) {own : Ground} (own_is : own ≡ ground_of x) {m : Bool} (m_is : m ≡ list_any (λ g. meets g own) grounds) where
      met : list_any (λ g. meets g (ground_of x)) grounds ≡ m
      met = sym (m_is ∙ ap (λ (o : Ground). list_any (λ g. meets g o) grounds) own_is)

      pub judged_overlap : m ≡ true → Err Overlap ≡ judge_reading first grounds x
      unfolding judge_reading
      judged_overlap t = rw (new, ← d_is, same, met, t)

      pub judged_right : m ≡ false → Ok x ≡ judge_reading first grounds x
      unfolding judge_reading
      judged_right t = rw (new, ← d_is, same, met, t)

pub ruleset judging = (judged_marked, judged_strayed, judged_overlap, judged_right)

-- ---- what the reader says of a rest
pub record Stands (rest : List ℕ) (x : Reading) : Type 0 where
  pub shallow : x.resolution ≤ 30
  pub below : x.s < 4 ^ x.resolution
  pub some : 0 < x.used
  pub there : x.used ≤ length rest

pub read_stands : (rest : List ℕ) → ((i : ℕ) → Fits w8 (get_or rest i 0)) → {x : Reading} → read_of rest ≡ told x → Stands rest x
unfolding code_length reading_of
read_stands rest small {x} e =
    let l = (read_loosely rest e).0 in
    let z = loose_sized rest l in
    let s = loose_spelled rest (λ i. (small i).fits) l in
    let is : x.s ≡ curve_place (own_orientation rest) x.resolution (own_position rest) = ap (λ (y : Reading). y.s) s.says in
    record {
      shallow = s.shallow;
      below = rw is (place_small (own_orientation rest) x.resolution (own_position rest) s.below);
      some = omega (arith, z.count);
      there = omega (arith, z.count, z.whole);
    }

module _ (rest : List ℕ) (first : Option ℕ) (grounds : List Ground) {a : Result Reading Refusal} (ea : said a ≡ read_of rest) where
  pub judged_unsound : {e : Refusal} → a ≡ Err e → Err Unsound ≡ judge_by first grounds (read_of rest)
  unfolding judge_by
  judged_unsound m = rw (← ea, m)

  module _ (small : (i : ℕ) → Fits w8 (get_or rest i 0)) (x : Reading) (m : a ≡ Ok x) where
    stands : Stands rest x
    stands = read_stands rest small (sym ea ∙ ap said m)

    pub read_shallow : x.resolution ≤ 30
    read_shallow = stands.shallow

    pub read_below : x.s < 4 ^ x.resolution
    read_below = stands.below

  pub judged_reading : (x : Reading) → a ≡ Ok x → {j : Result Reading Fault} → j ≡ judge_reading first grounds x → j ≡ judge_by first grounds (read_of rest)
  unfolding judge_by
  judged_reading x m e = rw (← ea, m) e

pub ruleset reading = (judged_unsound, read_shallow, read_below, judged_reading)

-- ---- together with the codes before it
abbrev pub Shallow : List Reading → Type 0
Shallow [] = Unit
Shallow (y ∷ before) = (y.resolution ≤ 30) × Shallow before

-- the orientation of the first of some codes, if there is one
abbrev pub first_of : List Reading → Option ℕ
first_of [] = None
first_of (y ∷ before) = Some y.orientation

-- what is kept of them: of the last orientation, which is the first one's too
pub record Kept (before : List Reading) (first : Option ℕ) (grounds : List Ground) : Type 0 where
  pub grounds_are : grounds ≡ map ground_of before
  pub shallow : Shallow before
  pub first_is : first ≡ first_of before

strays_differs : (before : List Reading) (x : Reading) → differs x.orientation (first_of before) ≡ strays before x
unfolding strays
strays_differs [] x = refl
strays_differs (y ∷ before) x = refl

overlaps_meets : (before : List Reading) (x : Reading) → Shallow before → x.resolution ≤ 30 → overlaps before x ≡ list_any (λ g. meets g (ground_of x)) (map ground_of before)
unfolding overlaps
overlaps_meets [] x s h = refl
overlaps_meets (y ∷ before) x s h = ap₂ (λ (a b : Bool). a || b) (overlap_tested x y h s.0) (overlaps_meets before x s.1 h)

module _ (before : List Reading) (first : Option ℕ) (grounds : List Ground) (kept : Kept before first grounds) where
  pub judged_same : (t : Told Reading) → ((x : Reading) → t ≡ told x → x.resolution ≤ 30) → judge_by first grounds t ≡ judge_of before t
  unfolding judge_by judge_of judge_reading
  judged_same (refused n) shallow = refl
  judged_same (told x) shallow =
      let d : differs x.orientation first ≡ strays before x = ap (differs x.orientation) kept.first_is ∙ strays_differs before x in
      let m : list_any (λ g. meets g (ground_of x)) grounds ≡ overlaps before x =
      ap (list_any (λ g. meets g (ground_of x))) kept.grounds_are ∙ sym (overlaps_meets before x kept.shallow (shallow x refl)) in
      rw (d, m)

-- ---- what is known of a code that is good together with those before it
pub record Fine (before : List Reading) (t : Told Reading) (x : Reading) : Type 0 where
  pub sound : t ≡ told x
  pub unmarked : x.old ≡ false
  pub oriented : strays before x ≡ false
  pub apart : overlaps before x ≡ false

not_right : {f : Fault} {x : Reading} {A : Type 0} → Err f ≡ Ok x → A
not_right e = let z : ◌≡◌ {A = ℕ} 0 1 = cc in let none : ⊥ = omega arith in absurd none

pub right_fine : (before : List Reading) (t : Told Reading) {x : Reading} → judge_of before t ≡ Ok x → Fine before t x
unfolding judge_of
right_fine before (refused n) e = not_right e
right_fine before (told y) {x} e = go y.old (strays before y) (overlaps before y) refl refl refl e
  where
    go : (a b c : Bool) → y.old ≡ a → strays before y ≡ b → overlaps before y ≡ c
        → cond a (Err Marked) (cond b (Err Orientation) (cond c (Err Overlap) (Ok y))) ≡ Ok x → Fine before (told y) x
    go true b c p q r e = not_right e
    go false true c p q r e = not_right e
    go false false true p q r e = not_right e
    go false false false p q r e =
        let same : y ≡ x = cc e in
        rw (← same) record { sound = refl; unmarked = p; oriented = q; apart = r }

-- and it is kept with them
first_next : (before : List Reading) (x : Reading) → strays before x ≡ false → Some x.orientation ≡ first_of (before ++ (x ∷ []))
unfolding strays
first_next [] x e = refl
first_next (y ∷ before) x e = ap (λ (o : ℕ). Some o) (eqb-true _ _ (not-false (eqb x.orientation y.orientation) e))

pub shallow_next : (before : List Reading) (x : Reading) → Shallow before → x.resolution ≤ 30 → Shallow (before ++ (x ∷ []))
shallow_next [] x s h = (h, tt)
shallow_next (y ∷ before) x s h = (s.0, shallow_next before x s.1 h)

pub kept_next : (before : List Reading) (x : Reading) {first : Option ℕ} {grounds : List Ground} → Kept before first grounds → x.resolution ≤ 30 → strays before x ≡ false
    → Kept (before ++ (x ∷ [])) (Some x.orientation) (grounds ++ (ground_of x ∷ []))
kept_next before x kept shallow oriented =
    record {
      grounds_are = ap (λ (l : List Ground). l ++ (ground_of x ∷ [])) kept.grounds_are ∙ sym (map-append ground_of before (x ∷ []));
      shallow = shallow_next before x kept.shallow shallow;
      first_is = first_next before x oriented;
    }
