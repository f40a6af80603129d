-- Sets of children, and the loops over their four digits.
use mathlib.Core.Path.{◌≡◌, refl, sym, ap, ◌∙◌}
use mathlib.Core.Bool.{Bool, true, false, not, ◌&&◌, ◌||◌, cond, beq}
use mathlib.Core.List.{List, [], ◌∷◌}
use Prim.Native.Nat.{ℕ, zero, suc, ◌+◌, ◌-◌, ◌<◌, ◌≤◌}
use Prim.Native.Nat.compare
use native.Mathlib.Numerals.{add-one}
use native.Mathlib.Omega.{arith}
use lib.Dec.{ltb}
use borrow.Author.Tests.{lt-ltb}
use lib.ListN.{length, get_or, drop, drop_of_length-le}
use lib.Seq.{drop-cons}
use Rattle.std.proofs.lemmas.List.Sums.{sum_by-cons}
use Rattle.std.specs.Option.{MatchOption}
use Rattle.std.proofs.Common.{Option, Some, None}
use Rattle.std.specs.List.{count_by, list_all, position_or_len, zip}
use Rattle.classifier.specs.declared.Placed.{Placed}
use Rattle.classifier.specs.declared.Separator.{Separator}
use Rattle.classifier.specs.Splits.{Polygon, over, under, polygons_on, all_under}
use Rattle.classifier.specs.Shapes.{placed_corners, no_placed, polygon_of}
use Rattle.classifier.specs.Inside.Sets.{kept, members_from, on_side, stays, first_digit}

-- ---- one digit more
pub next_digit : (gs : List Placed) (has : List Bool) {d : ℕ} → d < 4
    → members_from gs has (4 - d) d ≡ kept (get_or has d false) (polygon_of gs d) (members_from gs has (4 - (d + 1)) (d + 1))
unfolding members_from
next_digit gs has {d} h = let e : 4 - d ≡ suc (4 - (d + 1)) = omega arith in rw (e, add-one) refl

pub no_digit : (gs : List Placed) (has : List Bool) {d : ℕ} → 4 ≤ d → members_from gs has (4 - d) d ≡ []
unfolding members_from
no_digit gs has {d} h = let e : 4 - d ≡ 0 = omega arith in rw e refl

-- ---- counting
abbrev flags : List Bool → ℕ
flags has = count_by (λ (b : Bool). b) has

length_kept : (b : Bool) (g : Polygon) (gs : List Polygon) → length (kept b g gs) ≡ cond b 1 0 + length gs
length_kept true g gs = omega arith
length_kept false g gs = omega arith

size_from : (gs : List Placed) (has : List Bool) (n d : ℕ) → length has ≡ d + n → flags (drop d has) ≡ length (members_from gs has n d)
unfolding members_from
size_from gs has zero d h = ap flags (drop_of_length-le has {i = d} (omega arith))
size_from gs has (suc n) d h =
    ap flags (drop-cons has d false (omega arith))
    ∙ sum_by-cons (λ (b : Bool). cond b 1 0) (get_or has d false) (drop (suc d) has)
    ∙ ap (λ k. cond (get_or has d false) 1 0 + k) (size_from gs has n (suc d) (omega arith))
    ∙ sym (length_kept (get_or has d false) (polygon_of gs d) (members_from gs has n (suc d)))

pub size_is : (gs : List Placed) (has : List Bool) {n : ℕ} → length has ≡ 4 → n ≡ flags has → n ≡ length (members_from gs has 4 0)
size_is gs has long e = e ∙ size_from gs has 4 0 long

-- ---- the side of a line
pub on_side_lem : (b above : Bool) → beq b above ≡ on_side above b
on_side_lem true true = refl
on_side_lem true false = refl
on_side_lem false true = refl
on_side_lem false false = refl

side_kept : (above : Bool) (s : Separator) (b : Bool) (g : Polygon) (gs : List Polygon)
    → kept (b && on_side above (over s g.corners)) g (polygons_on above s gs) ≡ polygons_on above s (kept b g gs)
unfolding polygons_on
side_kept true s false g gs = refl
side_kept false s false g gs = refl
side_kept true s true g gs = go (over s g.corners)
  where
    go : (t : Bool) → kept t g (polygons_on true s gs) ≡ cond t (g ∷ polygons_on true s gs) (polygons_on true s gs)
    go true = refl
    go false = refl
side_kept false s true g gs = go (over s g.corners)
  where
    go : (t : Bool) → kept (not t) g (polygons_on false s gs) ≡ cond t (polygons_on false s gs) (g ∷ polygons_on false s gs)
    go true = refl
    go false = refl

side_none : (above : Bool) (s : Separator) → polygons_on above s [] ≡ []
unfolding polygons_on
side_none true s = refl
side_none false s = refl

module _ (above : Bool) (s : Separator) where
  abbrev stay : Bool → Polygon → List Polygon → List Polygon
  stay b g gs = kept (b && on_side above (over s g.corners)) g gs

  side_four : (a b c d : Bool) (g h i j : Polygon) → stay a g (stay b h (stay c i (stay d j []))) ≡ polygons_on above s (kept a g (kept b h (kept c i (kept d j []))))
  side_four a b c d g h i j =
      let one : stay d j [] ≡ polygons_on above s (kept d j []) = ap (stay d j) (sym (side_none above s)) ∙ side_kept above s d j [] in
      let two : stay c i (stay d j []) ≡ polygons_on above s (kept c i (kept d j [])) = ap (stay c i) one ∙ side_kept above s c i (kept d j []) in
      let three : stay b h (stay c i (stay d j [])) ≡ polygons_on above s (kept b h (kept c i (kept d j []))) = ap (stay b h) two ∙ side_kept above s b h (kept c i (kept d j [])) in
      ap (stay a g) three ∙ side_kept above s a g (kept b h (kept c i (kept d j [])))

  pub side_is : (gs : List Placed) (has now : List Bool) → length now ≡ 4 → ((d : ℕ) → d < 4 → get_or now d false ≡ stays above s gs has d) → members_from gs now 4 0 ≡ polygons_on above s (members_from gs has 4 0)
  unfolding members_from
  side_is gs has now long each =
      rw (each 0 (omega arith), each 1 (omega arith), each 2 (omega arith), each 3 (omega arith)) (side_four (get_or has 0 false) (get_or has 1 false) (get_or has 2 false) (get_or has 3 false) (polygon_of gs 0) (polygon_of gs 1) (polygon_of gs 2) (polygon_of gs 3))

-- ---- the first digit
abbrev pub first_flag : List Bool → ℕ
first_flag has = position_or_len (λ (b : Bool). b) has

first_from : (gs : List Placed) (has : List Bool) (n d : ℕ) → length has ≡ d + n → cond (ltb (first_flag (drop d has)) n) (d + first_flag (drop d has)) 0 ≡ first_digit (members_from gs has n d)
unfolding members_from
first_from gs has zero d h = rw (drop_of_length-le has {i = d} (omega arith)) refl
first_from gs has (suc n) d h = rw (drop-cons has d false (omega arith)) (go (get_or has d false) (first_from gs has n (suc d) (omega arith)))
  where
    go : (b : Bool) → cond (ltb (first_flag (drop (suc d) has)) n) (suc d + first_flag (drop (suc d) has)) 0 ≡ first_digit (members_from gs has n (suc d))
        → cond (ltb (first_flag (b ∷ drop (suc d) has)) (suc n)) (d + first_flag (b ∷ drop (suc d) has)) 0 ≡ first_digit (kept b (polygon_of gs d) (members_from gs has n (suc d)))
    go true e = let z : d + 0 ≡ d = omega arith in rw (lt-ltb 0 (suc n) (omega arith)) z
    go false e =
        let k = first_flag (drop (suc d) has) in
        let next : 1 + k ≡ suc k = omega arith in
        let place : d + suc k ≡ suc d + k = omega arith in
        rw (next, place, compare.suc-suc) e

module _ (gs : List Placed) (has : List Bool) (long : length has ≡ 4) (r : ℕ) where
  at_first : r ≡ cond (ltb (first_flag has) 4) (first_flag has) 0 → r ≡ first_digit (members_from gs has 4 0)
  at_first e = let start : 0 + first_flag has ≡ first_flag has = omega arith in e ∙ rw start at (first_from gs has 4 0 long)

  pub digit_is : (o : Option ℕ) → o ≡ cond (ltb (first_flag has) (length has)) (Some (first_flag has)) None → MatchOption o (r ≡ 0) (λ d. r ≡ d) → r ≡ first_digit (members_from gs has 4 0)
  digit_is o e m = at_first (go (ltb (first_flag has) 4) o (rw long at e) m)
    where
      go : (b : Bool) (o : Option ℕ) → o ≡ cond b (Some (first_flag has)) None → MatchOption o (r ≡ 0) (λ d. r ≡ d) → r ≡ cond b (first_flag has) 0
      go true None e m = cc
      go true (Some d) e m = cc
      go false None e m = m
      go false (Some d) e m = cc

-- ---- all under a line
module _ (s : Separator) where
  abbrev pub off : Bool × Placed → Bool
  off p = not p.0 || under s (placed_corners p.1)

  under_from : (gs : List Placed) (has : List Bool) (n d : ℕ) → length gs ≡ d + n → length has ≡ d + n → list_all off (zip (drop d has) (drop d gs)) ≡ all_under s (members_from gs has n d)
  unfolding members_from
  under_from gs has zero d g h = rw (drop_of_length-le has {i = d} (omega arith)) refl
  under_from gs has (suc n) d g h =
      rw (drop-cons has d false (omega arith), drop-cons gs d no_placed (omega arith)) (go (get_or has d false) (under_from gs has n (suc d) (omega arith) (omega arith)))
    where
      go : (b : Bool) → list_all off (zip (drop (suc d) has) (drop (suc d) gs)) ≡ all_under s (members_from gs has n (suc d))
          → list_all off ((b, get_or gs d no_placed) ∷ zip (drop (suc d) has) (drop (suc d) gs)) ≡ all_under s (kept b (polygon_of gs d) (members_from gs has n (suc d)))
      go true e = ap (λ (t : Bool). under s (placed_corners (get_or gs d no_placed)) && t) e
      go false e = e

  pub under_is : (gs : List Placed) (has : List Bool) {r : Bool} → length gs ≡ 4 → length has ≡ 4 → r ≡ list_all off (zip has gs) → r ≡ all_under s (members_from gs has 4 0)
  under_is gs has gs_long has_long e = e ∙ under_from gs has 4 0 gs_long has_long

-- ---- a function of the members, digit by digit
pub record Passed {A : Type 0} (f : List Polygon → A) (gs : List Placed) (has : List Bool) (d : ℕ) : Type 0 where
  pub same : f (members_from gs has (4 - d) d) ≡ f (members_from gs has 4 0)
  pub most : d ≤ 4

pub pass_end : {A : Type 0} (f : List Polygon → A) {gs : List Placed} {has : List Bool} {d : ℕ} → Passed f gs has d → 4 ≤ d → f [] ≡ f (members_from gs has 4 0)
pass_end f {gs} {has} s h = ap f (sym (no_digit gs has h)) ∙ s.same
