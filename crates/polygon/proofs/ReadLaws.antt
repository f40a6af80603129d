-- The reader's parts at each of their tests, in the form of what the code has in hand.
use native.Mathlib.Omega.{arith}
use mathlib.Core.Path.{◌≡◌, refl, sym, ap, ◌∙◌}
use mathlib.Core.Bool.{Bool, true, false, not, cond, ◌&&◌}
use mathlib.Core.List.{List, [], ◌∷◌}
use Prim.Native.Nat.{ℕ, suc, ◌+◌, ◌≤◌, ◌<◌, ◌^◌}
use borrow.Author.Tests.{not-true, not-false, lt-ltb, le-ltb, le-leb}
use lib.Dec.{leb, eqb}
use lib.Pointwise.{pointwise}
use lib.IntN.{ℤ, pos, negsuc}
use lib.Signed.{mag, quot_z}
use lib.ListN.{length, take, drop, length-append, length-drop}
use lib.Seq.{length-take-le}
use mir.Syntax.{w64}
use mir.Val.{Fits}
use Rattle.std.specs.Prelude.{Some, None, Option}
use Rattle.whole.specs.Tests.{equal, pass}
use Rattle.whole.proofs.Bools.{is_true, is_false}
use Rattle.whole.proofs.Equals.{equal_sound, is_equal}
use Rattle.whole.proofs.View.{view, v_var, fits, eq_by}
use Rattle.triple.specs.declared.Triple.{Triple}
use Rattle.triple.specs.declared.refusal.Refusal.TheVariants as Is
use Rattle.triple.specs.Refusals.{Told, told, refused, refuse, number_of}
use Rattle.triple.specs.Triples.{good_sum, is_in_bounds}
use Rattle.triple.specs.Domain.{greatest_resolution}
use Rattle.triple.proofs.RefusalLaws.{never, passed, told_same, stepped}
use Rattle.text.specs.Decimals.{integer, decimal_at}
use Rattle.text.specs.Puts.{Put}
use Rattle.text.proofs.DecimalLaws.{some_digit}
use Rattle.text.proofs.PlaceLaws.{past_unread}
use Rattle.text.proofs.ReadBack.{decimal_read_only}
use Rattle.turtle.specs.declared.AB.{AB}
use Rattle.turtle.specs.Plane.{ab}
use Rattle.turtle.specs.Corners.{fits32, narrowed, ThreeI32}
use Rattle.turtle.proofs.CornerLaws.{sum_good, narrow_of}
use Rattle.polygon.specs.Polygons.{polygon_text, readable, corner_at, parity_from, starting_at, narrow, same_text, spelled_cell, cell_of_wkt}
use Rattle.polygon.proofs.SpellLaws.{spelled_most, spelled_is}

-- ---- a corner at a place
integer_some : (z : ℤ) → 1 ≤ length (integer z)
unfolding integer
integer_some (pos n) = some_digit n
integer_some (negsuc n) = omega (arith, some_digit (suc n))

-- the place after a number is within the text
place_within : (s : List ℕ) (at : ℕ) (z : ℤ) (next : ℕ) → decimal_at s at ≡ Some (z, next) → next ≤ length s
place_within s at z next e =
    let r = decimal_read_only s at z next e in
    omega (arith, r.0, ap length r.1, length-drop at s, length-drop next s, length-append (integer z) (drop next s), integer_some z)

pub corner_past : (s : List ℕ) (at : ℕ) → length s < at → refused (number_of Is.Polygon) ≡ corner_at s at
unfolding corner_at
corner_past s at h = rw (sym (past_unread s at h))

module _ (s : List ℕ) (at : ℕ) (first : Option (ℤ × ℕ)) (ef : first ≡ decimal_at s at) where
  pub first_unread : first ≡ None → refused (number_of Is.Polygon) ≡ corner_at s at
  unfolding corner_at
  first_unread m = rw (sym ef, m)

  module _ {a : ℤ} {next : ℕ} (m : first ≡ Some (a, next)) where
    here : decimal_at s at ≡ Some (a, next)
    here = sym ef ∙ m

    module _ (second : Option (ℤ × ℕ)) (es : second ≡ decimal_at s (next + 1)) where
      pub second_unread : second ≡ None → refused (number_of Is.Polygon) ≡ corner_at s at
      unfolding corner_at
      second_unread n = rw (here, sym es, n)

      pub corner_read : {b : ℤ} {end : ℕ} → second ≡ Some (b, end) → {p : AB} → p ≡ ab a b → told (p, end) ≡ corner_at s at
      unfolding corner_at
      corner_read n e = rw (here, sym es, n, e)

pub next_fits : {a : ℤ} {next : ℕ} {first : Option (ℤ × ℕ)} → first ≡ Some (a, next) → (s : List ℕ) (at : ℕ) → first ≡ decimal_at s at → length s < 2 ^ 63 → Fits w64 (next + 1)
next_fits {a} {next} m s at e h = record { fits = omega (arith, place_within s at a next (sym e ∙ m)) }

-- the place after a corner is within the text
pub corner_within : (s : List ℕ) (at : ℕ) (p : AB) (next : ℕ) → corner_at s at ≡ told (p, next) → next ≤ length s
unfolding corner_at
corner_within s at p next e =
    let u = stepped (readable (decimal_at s at)) e in
    let v = stepped (readable (decimal_at s (u.0.1 + 1))) u.2 in
    let w : v.0.1 ≡ next = told_next v.2 in
    omega (arith, w, place_within s (u.0.1 + 1) v.0.0 v.0.1 (read_some (decimal_at s (u.0.1 + 1)) v.1))
  where
    told_next : {q : AB} {m : ℕ} → ◌≡◌ {A = Told (AB × ℕ)} (told (q, m)) (told (p, next)) → m ≡ next
    told_next f = ap (λ (x : AB × ℕ). x.1) (told_same f)

    read_some : {A : Type 0} (o : Option A) {a : A} → readable o ≡ told a → o ≡ Some a
    read_some None f = never f
    read_some (Some x) f = cc

pub ruleset corner_at_lem = (corner_past, first_unread, next_fits, second_unread, corner_read)

-- ---- the parity
module _ (p q : AB) where
  pub level : p.b ≡ q.b → 1 ≡ parity_from p q
  unfolding parity_from
  level e = ap (λ (f : Bool). cond f 1 0) (is_true (equal p.b q.b) (is_equal p.b q.b e))

  pub not_level : (p.b ≡ q.b → ⊥) → 0 ≡ parity_from p q
  unfolding parity_from
  not_level n = ap (λ (f : Bool). cond f 1 0) (is_false (equal p.b q.b) (λ h. n (equal_sound p.b q.b h)))

  pub parity_most : parity_from p q ≤ 1
  unfolding parity_from
  parity_most = go (equal p.b q.b)
    where
      go : (f : Bool) → cond f 1 0 ≤ 1
      go true = omega arith
      go false = omega arith

pub parity_small : (p q : AB) {s : ℕ} → s ≡ parity_from p q → s ≤ 1
parity_small p q e = omega (arith, parity_most p q)

-- ---- three i32
pub narrow_is : (t : Triple) → readable (narrowed t) ≡ narrow t
unfolding narrow narrowed
narrow_is t = go (pass (fits32 t.x (fits32 t.y (fits32 t.z []))))
  where
    go : (f : Bool) → readable (cond f (Some t) None) ≡ refuse (not f) Is.Polygon (told t)
    go true = refl
    go false = refl

pub narrow_told : (t : Triple) {u : Triple} → narrow t ≡ told u → (ThreeI32 t) × (t ≡ u)
unfolding narrow
narrow_told t e =
    let flag = pass (fits32 t.x (fits32 t.y (fits32 t.z []))) in
    let p = passed (not flag) Is.Polygon e in
    (narrow_of t (not-false flag p.0), told_same p.1)

-- ---- the triple that starts at a corner
pub start_good : (s : ℕ) (p : AB) → s ≤ 1 → good_sum (starting_at s p) ≡ true
unfolding starting_at
start_good s p h =
    let x = v_var (quot_z p.b (pos 4)) in
    let y = v_var (quot_z p.a (pos 4)) in
    sum_good (starting_at s p) s h (eq_by (search view depth 9) (search view) tt (omega arith))

-- ---- the library's test of two slices is the definition's
pub same_slices : (u v : List ℕ) → pointwise eqb u v ≡ same_text u v
unfolding same_text
same_slices [] [] = refl
same_slices [] (b ∷ v) = refl
same_slices (a ∷ u) [] = refl
same_slices (a ∷ u) (b ∷ v) = ap (λ t. eqb a b && t) (same_slices u v)

-- ---- a triple's own polygon, spelled aside, against a text
module _ (t : Triple) (good : good_sum t ≡ true) (mx : mag t.x < 2 ^ 31) (my : mag t.y < 2 ^ 31) (mz : mag t.z < 2 ^ 31) {zeros own : List ℕ} {n : ℕ} (room : length zeros ≡ 110) (w : Put zeros 0 (polygon_text t) own n) where
  pub own_most : n ≤ length own
  own_most = spelled_most t good mx my mz room w

  pub own_counted : n ≡ length (take n own)
  own_counted = sym (length-take-le n own own_most)

  pub own_same : (text : List ℕ) {f : Bool} → f ≡ pointwise eqb text (take n own) → f ≡ same_text text (polygon_text t)
  own_same text e = e ∙ same_slices text (take n own) ∙ ap (same_text text) (spelled_is t good mx my mz room w)

pub ruleset own_polygon = (own_most, own_counted, own_same)

-- ---- the triple of a text
pub second_fits : {p : AB} {next : ℕ} {first : Option (AB × ℕ)} → first ≡ Some (p, next) → (text : List ℕ) (at : ℕ) → readable first ≡ corner_at text at → length text < 2 ^ 63 → Fits w64 (next + 2)
second_fits {p} {next} m text at e h = record { fits = omega (arith, corner_within text at p next (sym e ∙ ap readable m)) }

module _ (text : List ℕ) where
  pub too_short : length text < 10 → refused (number_of Is.Polygon) ≡ spelled_cell text
  unfolding spelled_cell
  too_short h = rw (sym (corner_past text 10 h))

  module _ (first : Option (AB × ℕ)) (ef : readable first ≡ corner_at text 10) where
    pub first_none : first ≡ None → refused (number_of Is.Polygon) ≡ spelled_cell text
    unfolding spelled_cell
    first_none m = rw (sym ef, m)

    module _ {p : AB} {next : ℕ} (m : first ≡ Some (p, next)) where
      here_first : corner_at text 10 ≡ told (p, next)
      here_first = sym ef ∙ ap readable m

      module _ (second : Option (AB × ℕ)) (es : readable second ≡ corner_at text (next + 2)) where
        pub second_none : second ≡ None → refused (number_of Is.Polygon) ≡ spelled_cell text
        unfolding spelled_cell
        second_none n = rw (here_first, sym es, n)

        module _ {q : AB} {end : ℕ} (n : second ≡ Some (q, end)) {s : ℕ} (e : s ≡ parity_from p q) (started : Option Triple) (et : readable started ≡ narrow (starting_at s p)) where
          here_start : narrow (starting_at (parity_from p q) p) ≡ readable started
          here_start = sym (et ∙ ap (λ (k : ℕ). narrow (starting_at k p)) e)

          pub start_none : started ≡ None → refused (number_of Is.Polygon) ≡ spelled_cell text
          unfolding spelled_cell
          start_none k = rw (here_first, sym es, n, here_start, k)

          module _ {t : Triple} (k : started ≡ Some t) where
            pub cell_good : good_sum t ≡ true
            cell_good = ap good_sum (sym (narrow_told (starting_at s p) (sym et ∙ ap readable k)).1) ∙ start_good s p (parity_small p q e)

            module _ {f : Bool} (eq : f ≡ same_text text (polygon_text t)) where
              pub cell_other : not f ≡ true → refused (number_of Is.Polygon) ≡ spelled_cell text
              unfolding spelled_cell
              cell_other l = rw (here_first, sym es, n, here_start, k, sym eq, not-true f l)

              pub cell_told : not f ≡ false → told t ≡ spelled_cell text
              unfolding spelled_cell
              cell_told l = rw (here_first, sym es, n, here_start, k, sym eq, not-false f l)

pub ruleset cells = (too_short, first_none, second_fits, second_none, parity_small, start_none, cell_good, cell_other, cell_told)

-- ---- the cell of a text at a resolution
module _ (r : ℕ) (text : List ℕ) where
  pub too_deep : 30 < r → refused (number_of Is.Resolution) ≡ cell_of_wkt r text
  unfolding cell_of_wkt
  too_deep h = simp (lt-ltb 30 r h)

  module _ (h : r ≤ 30) (spelled : Option Triple) (e : readable spelled ≡ spelled_cell text) where
    pub no_polygon : spelled ≡ None → refused (number_of Is.Polygon) ≡ cell_of_wkt r text
    unfolding cell_of_wkt
    no_polygon m = rw (le-ltb 30 r h, sym e, m)

    module _ {t : Triple} (m : spelled ≡ Some t) {b : Bool} (eb : b ≡ (leb r greatest_resolution && is_in_bounds r t)) where
      bounds_are : is_in_bounds r t ≡ b
      bounds_are = sym (eb ∙ ap (λ (f : Bool). f && is_in_bounds r t) (le-leb r 30 h))

      pub out_of_bounds : not b ≡ true → refused (number_of Is.Bounds) ≡ cell_of_wkt r text
      unfolding cell_of_wkt
      out_of_bounds n = rw (le-ltb 30 r h, sym e, m, bounds_are, not-true b n)

      pub read_told : not b ≡ false → told t ≡ cell_of_wkt r text
      unfolding cell_of_wkt
      read_told n = rw (le-ltb 30 r h, sym e, m, bounds_are, not-false b n)

pub ruleset reading = (too_deep, no_polygon, out_of_bounds, read_told)
