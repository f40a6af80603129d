-- The answer of `triple_to_s`: the flavor's answer says whether the triple is in bounds, and its spot is the position's.
use mathlib.Core.Path.{◌≡◌, refl, sym, ap, ◌∙◌, subst}
use mathlib.Core.Bool.{Bool, true, false, not}
use Prim.Native.Nat.{ℕ, zero, suc, ◌+◌, ◌-◌, ◌/◌, ◌%◌, ◌^◌, ◌<◌, ◌≤◌}
use native.Mathlib.Omega.{arith}
use native.Mathlib.Nat as N
use borrow.Author.Tests.{le-ltb}
use lib.Dec.{T}
use lib.IntN.{ℤ, pos, neg_ℤ, nat_abs, ◌+ℤ◌, ◌-ℤ◌}
use lib.Signed.{non_neg}
use mir.Syntax.{w32, w64}
use mir.Val.{Fits, to_z, of_z}
use Rattle.std.specs.Prelude.{Result, Ok, Err}
use Rattle.whole.proofs.View.{view, v_upto, v_same, v_add, v_neg, eq_by, kept}
use Rattle.whole.proofs.Digits.{twice_power}
use Rattle.triple.specs.declared.Triple.{Triple}
use Rattle.triple.specs.declared.orientation.Recipe.{Recipe}
use Rattle.triple.specs.declared.refusal.Refusal.{Refusal}
use Rattle.triple.specs.declared.refusal.Refusal.TheVariants as Is
use Rattle.triple.specs.Refusals.{Told, told, refused, number_of, refuse, said}
use Rattle.triple.specs.Domain.{domain_of, row_count, position_count}
use Rattle.triple.specs.Orientations.{recipe_of, place_from, curve_place}
use Rattle.triple.specs.Triples.{good_sum, is_in_bounds, closed_flavor, flavor_of}
use Rattle.triple.proofs.DomainLaws.{out_of_domain, in_domain_lem, shallow, oriented, rows_most, v_rows}
use Rattle.triple.proofs.OrientationLaws.{place_is}
use Rattle.a5.specs.Inside.Spots.{Spot, spot, triple_at, spot_at}
use Rattle.a5.proofs.FootprintLaws.{spot_is}
use Rattle.a5.proofs.Axioms.{bounds_wedge, triple_spot}
use Rattle.a5.proofs.Once.{position}
use Rattle.strides.specs.Searches.{on_tile, digits_after}
use Rattle.strides.proofs.TileLaws.{digits_position}
use Rattle.tables.specs.Patterns.{side_threshold}
use Rattle.lsystem.specs.declared.Position.{Position}
use Rattle.lsystem.specs.declared.Located.{Located}
use Rattle.lsystem.specs.Cells.{seek, position_of}
use Rattle.lsystem.specs.Looks.{looked_up, with_looks, located_of}
use Rattle.lsystem.proofs.CellLaws.{axiom_in}
use Rattle.lsystem.proofs.EndLaws.{axiom_order}
use Rattle.lsystem.proofs.Numbering.{only_finds, seek_placed}
use Rattle.lsystem.proofs.LookLaws.{own_safe, looked_up_lem}

-- ---- a triple in bounds by its spot
module _ (n : ℕ) (t : Triple) (b : is_in_bounds (suc n) t ≡ true) where
  column : t.x ≡ pos ((spot_at n t).x + 1) -ℤ pos (2 ^ suc n)
  unfolding triple_at
  column = sym (ap (λ t. t.x) (triple_spot n t b)) ∙ ap (λ m. pos ((spot_at n t).x + 1) -ℤ pos m) (sym (twice_power n))

  row : t.y ≡ pos (spot_at n t).y
  unfolding triple_at
  row = sym (ap (λ t. t.y) (triple_spot n t b))

  slant : t.z ≡ neg_ℤ (pos (spot_at n t).g)
  unfolding triple_at
  slant = sym (ap (λ t. t.z) (triple_spot n t b))

  small : n ≤ 29 → ((spot_at n t).x < 2 ^ 30) × (((spot_at n t).y < 2 ^ 30) × ((spot_at n t).g < 2 ^ 30))
  small l =
      let w = bounds_wedge n t b in
      let p : 2 ^ n ≤ 2 ^ 29 = N.pow-le-pow_right {n = 2} (omega arith) l in
      (omega (arith, w.wedge_x, p), (omega (arith, w.wedge_y, p), omega (arith, w.wedge_g, p)))

pub record Spotted (r : ℕ) (t : Triple) : Type 0 where
  pub spot_x : t.x ≡ pos ((spot_at (r - 1) t).x + 1) -ℤ pos (2 ^ r)
  pub spot_y : t.y ≡ pos (spot_at (r - 1) t).y
  pub spot_z : t.z ≡ neg_ℤ (pos (spot_at (r - 1) t).g)
  pub small : ((spot_at (r - 1) t).x < 2 ^ 30) × (((spot_at (r - 1) t).y < 2 ^ 30) × ((spot_at (r - 1) t).g < 2 ^ 30))

pub spotted : (r : ℕ) (t : Triple) → (0 < r) × ((r ≤ 30) × (is_in_bounds r t ≡ true)) → Spotted r t
spotted zero t h = absurd (N.not-suc-le-zero h.0)
spotted (suc n) t h =
    let e : suc n - 1 ≡ n = omega arith in
    let b = h.1.1 in
    record { spot_x = rw e (column n t b); spot_y = rw e (row n t b); spot_z = rw e (slant n t b); small = rw e (small n t b (omega (arith, h.1.0))) }

-- what the code works out of a triple
abbrev read : ℤ → ℤ
read z = to_z w64 (of_z w64 z)

module _ (r : ℕ) (t : Triple) (h : (0 < r) × ((r ≤ 30) × (is_in_bounds r t ≡ true))) where
  pub column_is : (rows : ℤ) → rows ≡ pos (row_count r) → read (read (read rows -ℤ pos 1) +ℤ read (to_z w32 (of_z w32 t.x))) ≡ pos (spot_at (r - 1) t).x
  column_is rows e =
      let s = spotted r t h in
      let vr = v_rows r h.1.0 e in
      let vx = v_same s.spot_x (v_add (v_upto ((spot_at (r - 1) t).x + 1) (2 ^ 30) (omega (arith, s.small.0))) (v_neg (v_upto (2 ^ r) (2 ^ 30) (rows_most r h.1.0)))) in
      eq_by (search view depth 14) (v_upto _ (2 ^ 30) (omega (arith, s.small.0))) tt (omega arith)

  pub row_is : to_z w32 (of_z w32 t.y) ≡ pos (spot_at (r - 1) t).y
  row_is =
      let s = spotted r t h in
      kept w32 s.spot_y (v_upto _ (2 ^ 30) (omega (arith, s.small.1.0))) tt

  pub slant_is : read (pos 0 -ℤ read (to_z w32 (of_z w32 t.z))) ≡ pos (spot_at (r - 1) t).g
  slant_is =
      let s = spotted r t h in
      let vz = v_same s.spot_z (v_neg (v_upto (spot_at (r - 1) t).g (2 ^ 30) (omega (arith, s.small.1.1)))) in
      eq_by (search view depth 14) (v_upto _ (2 ^ 30) (omega (arith, s.small.1.1))) tt (omega arith)

-- a number from 0 up, as a cast asks
pub cast_of : {z : ℤ} (k : ℕ) → z ≡ pos k → k < 2 ^ 30 → T (non_neg z) × Fits w64 (nat_abs z)
cast_of k e h = subst (λ z. T (non_neg z) × Fits w64 (nat_abs z)) (sym e) (tt, record { fits = omega arith })

pub cast_is : {x y g : ℤ} (p : Spot) → x ≡ pos p.x → y ≡ pos p.y → g ≡ pos p.g → spot (nat_abs x) (nat_abs y) (nat_abs g) ≡ p
cast_is p a b c = spot_is (ap nat_abs a) (ap nat_abs b) (ap nat_abs c)

-- ---- the search
abbrev located : ℕ → ℕ → ℕ → ℕ → Located
located s f picks comparisons = record { position = record { s = s; flavor = f }; picks = picks; comparisons = comparisons }

located_is : {s f p c s' f' p' c' : ℕ} → s ≡ s' → f ≡ f' → p ≡ p' → c ≡ c' → told (located s f p c) ≡ told (located s' f' p' c')
located_is a b c d = λ i. told (located (a i) (b i) (c i) (d i))

module _ (o n : ℕ) (t : Triple) (h : o ≤ 5) (k : n ≤ 29) (b : is_in_bounds (suc n) t ≡ true) (u : Spot) (e : u ≡ spot_at n t) (p : ℕ) (ep : p ≡ digits_after (suc n) u (on_tile (32 + o / 2))) where
  place_found : p ≡ position (axiom_in o) n t
  place_found = ep ∙ (λ i. digits_after (suc n) (e i) (on_tile (32 + axiom_order o h i))) ∙ digits_position (axiom_in o) n t b

  looked_up_at : {w : Recipe} → w ≡ recipe_of o → {m : ℕ} → m ≡ position_count (suc n) → {s : ℕ} → s ≡ place_from w.backward m p → {f : ℕ} → f ≡ closed_flavor (suc n) t
      → told (located s f (suc n - 1) (p % 4 + 1)) ≡ with_looks o (suc n) t (seek o (suc n) t (4 ^ suc n) 0)
  unfolding with_looks
  looked_up_at ew em es ef =
      let l = looked_up_lem o n h t b side_threshold own_safe in
      located_is (place_is o ew (suc n) p (omega arith) em es ∙ ap (curve_place o (suc n)) place_found) ef (omega arith ∙ sym (ap (λ l. l.picks) l)) (ap (λ p. p % 4 + 1) place_found ∙ sym (ap (λ l. l.comparisons) l))
      ∙ ap (with_looks o (suc n) t) (sym (seek_placed o n h k t b))

-- the same, as the code has the resolution
module _ (o : ℕ) (t : Triple) (u : Spot) (p : ℕ) where
  pub found_at : (r : ℕ) {f : ℕ} → (o ≤ 5) × ((0 < r) × ((r ≤ 30) × ((is_in_bounds r t ≡ true) × (f ≡ closed_flavor r t)))) → u ≡ spot_at (r - 1) t → p ≡ digits_after r u (on_tile (32 + o / 2))
      → {w : Recipe} → w ≡ recipe_of o → {m : ℕ} → m ≡ position_count r → {s : ℕ} → s ≡ place_from w.backward m p → told (located s f (r - 1) (p % 4 + 1)) ≡ with_looks o r t (seek o r t (4 ^ r) 0)
  found_at zero h e ep ew em es = absurd (N.not-suc-le-zero h.1.0)
  found_at (suc n) h e ep ew em es =
      let m : suc n - 1 ≡ n = omega arith in
      looked_up_at o n t h.0 (omega (arith, h.1.1.0)) h.1.1.1.0 u (e ∙ ap (λ n. spot_at n t) m) p ep ew em es h.1.1.1.1

-- ---- the answer, by the tests in their order
abbrev answered : {A : Type 0} → Bool → Bool → Told A → Told A
answered good within next = refuse (not good) Is.Sum (refuse (not within) Is.Bounds next)

refused_alike : (x : ℕ) (y : Told Position) (n : ℕ) (good within : Bool) → refused n ≡ answered good within (told x) → refused n ≡ answered good within y
refused_alike x y n true true e = let z : ◌≡◌ {A = ℕ} 0 1 = cc in absurd (omega arith)
refused_alike x y n true false e = let z : n ≡ number_of Is.Bounds = cc in ap refused z
refused_alike x y n false within e = let z : n ≡ number_of Is.Sum = cc in ap refused z

told_within : {x y : ℕ} (good within : Bool) → told x ≡ answered good within (told y) → (good ≡ true) × ((within ≡ true) × (x ≡ y))
told_within true true e = (refl, (refl, (cc)))
told_within true false e = let z : ◌≡◌ {A = ℕ} 0 1 = cc in absurd (omega arith)
told_within false within e = let z : ◌≡◌ {A = ℕ} 0 1 = cc in absurd (omega arith)

refused_located : (o r : ℕ) (t : Triple) {n : ℕ} → refused n ≡ position_of o r t → refused n ≡ located_of o r t
unfolding located_of with_looks
refused_located o r t e = rw (sym e)

module _ (o r : ℕ) (t : Triple) {a : Result Unit Refusal} (ea : said a ≡ domain_of o r) where
  pub position_outside : {e : Refusal} → a ≡ Err e → refused (number_of e) ≡ located_of o r t
  unfolding position_of
  position_outside m = refused_located o r t (out_of_domain o r a ea _ m)

  module _ (m : a ≡ (Ok tt)) (b : Result ℕ Refusal) (eb : said b ≡ flavor_of r t) where
    known : said b ≡ answered (good_sum t) (is_in_bounds r t) (told (closed_flavor r t))
    unfolding flavor_of
    known = eb ∙ simp (le-ltb 30 r (shallow o r a ea m))

    searched : answered (good_sum t) (is_in_bounds r t) (seek o r t (4 ^ r) 0) ≡ position_of o r t
    unfolding position_of
    searched = in_domain_lem o r a ea m _

    pub position_refused : {e : Refusal} → b ≡ Err e → refused (number_of e) ≡ located_of o r t
    position_refused {e} k = refused_located o r t (refused_alike _ _ (number_of e) (good_sum t) (is_in_bounds r t) (ap said (sym k) ∙ known) ∙ searched)

    module _ {f : ℕ} (k : b ≡ Ok f) where
      within : (good_sum t ≡ true) × ((is_in_bounds r t ≡ true) × (f ≡ closed_flavor r t))
      within = told_within (good_sum t) (is_in_bounds r t) (ap said (sym k) ∙ known)

      pub within_bounds : is_in_bounds r t ≡ true
      within_bounds = within.1.0

      pub within_flavor : f ≡ closed_flavor r t
      within_flavor = within.1.1

      pub position_found : {l : Located} → told l ≡ with_looks o r t (seek o r t (4 ^ r) 0) → told l ≡ located_of o r t
      unfolding located_of
      position_found e = e ∙ ap (with_looks o r t) ((λ i. answered (sym within.0 i) (sym within.1.0 i) (seek o r t (4 ^ r) 0)) ∙ searched)

      pub position_only : r ≤ 0 → told (located 0 f 0 0) ≡ located_of o r t
      unfolding with_looks looked_up
      position_only z = position_found (only r within.1.0 z within.1.1)
        where
          only : (r : ℕ) → is_in_bounds r t ≡ true → r ≤ 0 → f ≡ closed_flavor r t → told (located 0 f 0 0) ≡ with_looks o r t (seek o r t (4 ^ r) 0)
          only zero b z e = ap (λ f. told (located 0 f 0 0)) e ∙ ap (with_looks o 0 t) (sym (only_finds o t b))
          only (suc n) b z e = let y : ⊥ = omega arith in absurd y

pub ruleset positions = (shallow, oriented, within_bounds, within_flavor, position_outside, position_refused, position_found, position_only)
