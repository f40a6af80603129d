-- What is written is read back, what is read is what would be written, and every other text is refused.
use Rattle.std.specs.Prelude.{Option, Some, None}
use native.Mathlib.Omega.{arith}
use mathlib.Core.Path.{◌≡◌, refl, sym, ap, ap₂, ◌∙◌, subst}
use mathlib.Core.Logic.{⊎_elim}
use mathlib.Core.Bool.{Bool, true, false, not, ◌&&◌}
use mathlib.Core.List.{List, [], ◌∷◌, ◌++◌, append_assoc}
use Prim.Native.Nat.{ℕ, ◌+◌, ◌≤◌, ◌<◌, ◌^◌}
use borrow.Author.Tests.{not-false, eq-eqb, eqb-true, le-ltb, ltb-false}
use lib.Dec.{eqb, ltb}
use lib.IntN.{ℤ, pos, negsuc, ◌-ℤ◌, ◌*ℤ◌}
use lib.Signed.{mag}
use lib.ListN.{length, take, drop}
use lib.Seq.{drop-drop, drop_at, take_at}
use Rattle.whole.specs.Tests.{pass}
use Rattle.whole.proofs.TestLaws.{pass_true}
use Rattle.whole.proofs.View.{view, v_var, eq_of, eq_by, le_of, le_by}
use Rattle.triple.specs.declared.Triple.{Triple}
use Rattle.triple.specs.declared.refusal.Refusal.TheVariants as Is
use Rattle.triple.specs.Refusals.{Told, told, refused, refuse, number_of, ◌>>=◌}
use Rattle.triple.specs.Triples.{sum_of, good_sum, bounds, is_in_bounds}
use Rattle.triple.specs.Lent.{count_of, after_call}
use Rattle.triple.proofs.RefusalLaws.{passed, told_same, stepped}
use Rattle.triple.proofs.LentLaws.{wrote}
use Rattle.triple.proofs.TripleLaws.{v_row}
use Rattle.text.specs.Digits.{digit_of}
use Rattle.text.specs.Decimals.{integer, digit_count, decimal_at}
use Rattle.text.proofs.ReadBack.{decimal_read_back}
use Rattle.turtle.specs.declared.AB.{AB}
use Rattle.turtle.specs.declared.walk.Corners.{Corners}
use Rattle.turtle.specs.Plane.{ab, ◌⊕◌}
use Rattle.turtle.specs.Corners.{fits32, ThreeI32}
use Rattle.turtle.proofs.CornerLaws.{triple_is, narrow_true}
use Rattle.polygon.specs.Polygons.{comma, closing, even_from, odd_from, cell_corners, corner_text, ring_text, polygon_text, wkt_of, readable, corner_at, parity_from, starting_at, narrow, same_text, spelled_cell, cell_of_wkt}
use Rattle.polygon.specs.Inside.Sizes.{Short, TenDigits}
use Rattle.polygon.proofs.CornerLaws.{sum_cases, even_corners, odd_corners, corners_digits}
use Rattle.polygon.proofs.ReadLaws.{level, not_level, parity_most, start_good, narrow_told}

-- ---- a corner's text is read back
-- what stands behind a text
behind : (s : List ℕ) (at : ℕ) (u w : List ℕ) → drop at s ≡ u ++ w → drop (at + length u) s ≡ w
behind s at u w e = sym (drop-drop (length u) at s) ∙ ap (drop (length u)) e ∙ drop_at u w (length u) refl

short_mag : (z : ℤ) → Short z → mag z < 2 ^ 63
short_mag (pos n) h = omega (arith, h.size)
short_mag (negsuc n) h = omega (arith, h.size)

corner_back : (s : List ℕ) (at : ℕ) (p : AB) (rest : List ℕ) → TenDigits p → drop at s ≡ corner_text p ++ rest → digit_count rest ≡ 0 → corner_at s at ≡ told (p, at + length (integer p.a) + 1 + length (integer p.b))
unfolding corner_at corner_text digit_count digit_of
corner_back s at p rest d e f =
    let here : drop at s ≡ integer p.a ++ ((32 ∷ integer p.b) ++ rest) = e ∙ append_assoc (integer p.a) (32 ∷ integer p.b) rest in
    let first = decimal_read_back s at p.a ((32 ∷ integer p.b) ++ rest) (short_mag p.a d.a) here refl in
    let space : drop (at + length (integer p.a)) s ≡ (32 ∷ []) ++ (integer p.b ++ rest) = behind s at (integer p.a) ((32 ∷ integer p.b) ++ rest) here in
    let there : drop (at + length (integer p.a) + 1) s ≡ integer p.b ++ rest = behind s (at + length (integer p.a)) (32 ∷ []) (integer p.b ++ rest) space in
    let second = decimal_read_back s (at + length (integer p.a) + 1) p.b rest (short_mag p.b d.b) there f in
    rw (first, second)

corner_behind : (s : List ℕ) (at : ℕ) (p : AB) (rest : List ℕ) → drop at s ≡ corner_text p ++ rest → drop (at + length (integer p.a) + 1 + length (integer p.b)) s ≡ rest
unfolding corner_text
corner_behind s at p rest e =
    let here : drop at s ≡ integer p.a ++ ((32 ∷ integer p.b) ++ rest) = e ∙ append_assoc (integer p.a) (32 ∷ integer p.b) rest in
    let space : drop (at + length (integer p.a)) s ≡ (32 ∷ []) ++ (integer p.b ++ rest) = behind s at (integer p.a) ((32 ∷ integer p.b) ++ rest) here in
    behind s (at + length (integer p.a) + 1) (integer p.b) rest (behind s (at + length (integer p.a)) (32 ∷ []) (integer p.b ++ rest) space)

-- ---- the triple by its first two corners
abbrev from : Corners → Triple
from c = starting_at (parity_from c.p c.q) c.p

even_back : (t : Triple) → sum_of t ≡ pos 0 → from (cell_corners t) ≡ t
unfolding starting_at ◌⊕◌
even_back t e =
    let x = v_var t.x in
    let y = v_var t.y in
    let z = v_var t.z in
    let h = eq_of (search view) (search view) tt e in
    let c = even_from (ab (pos 4 *ℤ t.y) (pos 4 *ℤ t.x)) in
    let s : 0 ≡ parity_from c.p c.q = not_level c.p c.q (λ l. omega (arith, eq_of (search view) (search view) tt l)) in
    ap from (even_corners t e) ∙ ap (λ (k : ℕ). starting_at k c.p) (sym s)
    ∙ triple_is (eq_by (search view depth 12) x tt (omega arith)) (eq_by (search view depth 12) y tt (omega arith)) (eq_by (search view depth 15) z tt (omega arith))

odd_back : (t : Triple) → sum_of t ≡ pos 1 → from (cell_corners t) ≡ t
unfolding starting_at ◌⊕◌
odd_back t e =
    let x = v_var t.x in
    let y = v_var t.y in
    let z = v_var t.z in
    let h = eq_of (search view) (search view) tt e in
    let c = odd_from (ab (pos 4 *ℤ t.y) (pos 4 *ℤ t.x -ℤ pos 4)) in
    let s : 1 ≡ parity_from c.p c.q = level c.p c.q (eq_by (search view) (search view) tt (omega arith)) in
    ap from (odd_corners t e) ∙ ap (λ (k : ℕ). starting_at k c.p) (sym s)
    ∙ triple_is (eq_by (search view depth 12) x tt (omega arith)) (eq_by (search view depth 12) y tt (omega arith)) (eq_by (search view depth 15) z tt (omega arith))

start_back : (t : Triple) → good_sum t ≡ true → from (cell_corners t) ≡ t
start_back t g = ⊎_elim (even_back t) (odd_back t) (sum_cases t g)

-- ---- two texts that are found the same are the same
same_self : (u : List ℕ) → same_text u u ≡ true
unfolding same_text
same_self [] = refl
same_self (a ∷ u) = rw (eq-eqb a a refl) (same_self u)

same_sound : (u v : List ℕ) → same_text u v ≡ true → u ≡ v
unfolding same_text
same_sound [] [] e = refl
same_sound [] (b ∷ v) e = let z : ◌≡◌ {A = ℕ} 0 1 = cc in absurd (omega arith)
same_sound (a ∷ u) [] e = let z : ◌≡◌ {A = ℕ} 0 1 = cc in absurd (omega arith)
same_sound (a ∷ u) (b ∷ v) e = go (eqb a b) refl e (same_sound u v)
  where
    go : (f : Bool) → eqb a b ≡ f → (f && same_text u v) ≡ true → (same_text u v ≡ true → u ≡ v) → a ∷ u ≡ b ∷ v
    go true i e rest = ap₂ (λ (x : ℕ) (w : List ℕ). x ∷ w) (eqb-true a b i) (rest e)
    go false i e rest = let z : ◌≡◌ {A = ℕ} 0 1 = cc in absurd (omega arith)

-- ---- A CELL'S POLYGON is read as its triple
-- what stands behind its corners
abbrev after_second : Corners → List ℕ
after_second c = comma ++ (corner_text c.r ++ (comma ++ (corner_text c.p ++ closing)))

abbrev after_first : Corners → List ℕ
after_first c = comma ++ (corner_text c.q ++ after_second c)

at_first : (c : Corners) → drop 10 (ring_text c) ≡ corner_text c.p ++ after_first c
unfolding ring_text
at_first c = refl

no_digit : (rest : List ℕ) → digit_count (comma ++ rest) ≡ 0
unfolding digit_count digit_of
no_digit rest = refl

narrow_in : (t : Triple) → ThreeI32 t → narrow t ≡ told t
unfolding narrow
narrow_in t n = rw (narrow_true t n)

pub spelled_back : (t : Triple) → good_sum t ≡ true → ThreeI32 t → spelled_cell (polygon_text t) ≡ told t
unfolding spelled_cell
spelled_back t g n =
    let c = cell_corners t in
    let d = corners_digits t g n in
    let text = ring_text c in
    let first = corner_back text 10 c.p (after_first c) d.p (at_first c) (no_digit (corner_text c.q ++ after_second c)) in
    let next = 10 + length (integer c.p.a) + 1 + length (integer c.p.b) in
    let there : drop (next + 2) text ≡ corner_text c.q ++ after_second c = behind text next comma (corner_text c.q ++ after_second c) (corner_behind text 10 c.p (after_first c) (at_first c)) in
    let second = corner_back text (next + 2) c.q (after_second c) d.q there (no_digit (corner_text c.r ++ (comma ++ (corner_text c.p ++ closing)))) in
    rw (first, second, start_back t g, narrow_in t n, same_self text)

-- ---- WHAT IS READ is the triple's own polygon
pub record Spells (text : List ℕ) (t : Triple) : Type 0 where
  pub same : text ≡ polygon_text t
  pub good : good_sum t ≡ true
  pub three : ThreeI32 t

pub spelled_only : (text : List ℕ) (t : Triple) → spelled_cell text ≡ told t → Spells text t
unfolding spelled_cell
spelled_only text t e =
    let u = stepped (corner_at text 10) e in
    let v = stepped (corner_at text (u.0.1 + 2)) u.2 in
    let s = parity_from u.0.0 v.0.0 in
    let w = stepped (narrow (starting_at s u.0.0)) v.2 in
    let x = passed (not (same_text text (polygon_text w.0))) Is.Polygon w.2 in
    let is : w.0 ≡ t = told_same x.1 in
    let n = narrow_told (starting_at s u.0.0) w.1 in
    let from : starting_at s u.0.0 ≡ t = n.1 ∙ is in
    record {
      same = same_sound text (polygon_text w.0) (not-false (same_text text (polygon_text w.0)) x.0) ∙ ap polygon_text is;
      good = ap good_sum (sym from) ∙ start_good s u.0.0 (parity_most u.0.0 v.0.0);
      three = subst ThreeI32 from n.0;
    }

-- ---- every other text is refused by 27
-- told, or refused by one number
data Only {A : Type 0} (k : ℕ) : Told A → Type 0 where
  is_told : {a : A} → Only k (told a)
  is_refused : Only k (refused k)

only_step : {A B : Type 0} {k : ℕ} {t : Told A} {f : A → Told B} → Only k t → ((a : A) → Only k (f a)) → Only k (t >>= f)
only_step (is_told {a}) next = next a
only_step is_refused next = is_refused

only_test : {A : Type 0} (b : Bool) (a : A) → Only 27 (refuse b Is.Polygon (told a))
unfolding number_of
only_test true a = is_refused
only_test false a = is_told

only_read : {A : Type 0} (o : Option A) → Only 27 (readable o)
unfolding number_of
only_read None = is_refused
only_read (Some a) = is_told

only_corner : (s : List ℕ) (at : ℕ) → Only 27 (corner_at s at)
unfolding corner_at
only_corner s at = only_step (only_read (decimal_at s at)) (λ a. only_step (only_read (decimal_at s (a.1 + 1))) (λ b. is_told))

only_narrow : (t : Triple) → Only 27 (narrow t)
unfolding narrow
only_narrow t = only_test (not (pass (fits32 t.x (fits32 t.y (fits32 t.z []))))) t

only_spelled : (text : List ℕ) → Only 27 (spelled_cell text)
unfolding spelled_cell
only_spelled text =
    only_step (only_corner text 10)
    (λ a. only_step (only_corner text (a.1 + 2))
    (λ b. only_step (only_narrow (starting_at (parity_from a.0 b.0) a.0))
    (λ t. only_test (not (same_text text (polygon_text t))) t)))

only_none : {A : Type 0} {k : ℕ} {t : Told A} → Only k t → ((a : A) → t ≡ told a → ⊥) → t ≡ refused k
only_none (is_told {a}) n = absurd (n a refl)
only_none is_refused n = refl

pub unspelled : (text : List ℕ) → ((t : Triple) → Spells text t → ⊥) → spelled_cell text ≡ refused 27
unspelled text no_cell = only_none (only_spelled text) (λ t e. no_cell t (spelled_only text t e))

-- ---- at a resolution
-- what the writer gives is the polygon of a cell
pub record Given (r : ℕ) (t : Triple) (text : List ℕ) : Type 0 where
  pub shallow : r ≤ 30
  pub good : good_sum t ≡ true
  pub bounds : is_in_bounds r t ≡ true
  pub same : polygon_text t ≡ text

pub given_of : (r : ℕ) (t : Triple) (text : List ℕ) → wkt_of r t ≡ told text → Given r t text
unfolding wkt_of
given_of r t text e =
    let a = passed (ltb 30 r) Is.Resolution e in
    let b = passed (not (good_sum t)) Is.Sum a.1 in
    let c = passed (not (is_in_bounds r t)) Is.Bounds b.1 in
    record { shallow = ltb-false 30 r a.0; good = not-false (good_sum t) b.0; bounds = not-false (is_in_bounds r t) c.0; same = told_same c.1 }

pub of_given : (r : ℕ) (t : Triple) → r ≤ 30 → good_sum t ≡ true → is_in_bounds r t ≡ true → wkt_of r t ≡ told (polygon_text t)
unfolding wkt_of
of_given r t h g b = rw (le-ltb 30 r h, g, b)

-- a cell in bounds is of three i32
pub bounded_three : (r : ℕ) (t : Triple) → r ≤ 30 → is_in_bounds r t ≡ true → ThreeI32 t
unfolding is_in_bounds
bounded_three r t h e =
    let i = pass_true (bounds r t) e in
    let x = v_var t.x in
    let y = v_var t.y in
    let z = v_var t.z in
    let m = v_row r h in
    let mb = m.is tt in
    let low = le_of (search view) (search view) tt i.0 in
    let x_most = le_of x (search view) tt i.1.1.0 in
    let z_most = le_of z (search view) tt i.1.1.1.0 in
    let y_least = le_of (search view) y tt i.1.1.1.1.0 in
    let y_most = le_of y m tt i.1.1.1.1.1.0 in
    record {
      x = record { low = le_by (search view) x tt (omega arith); high = le_by x (search view) tt (omega arith) };
      y = record { low = le_by (search view) y tt (omega arith); high = le_by y (search view) tt (omega arith) };
      z = record { low = le_by (search view) z tt (omega arith); high = le_by z (search view) tt (omega arith) };
    }

-- IMPORT OF AN EXPORT gives the triple back
pub export_import : (r : ℕ) (t : Triple) (text : List ℕ) → wkt_of r t ≡ told text → cell_of_wkt r text ≡ told t
unfolding cell_of_wkt
export_import r t text e =
    let g = given_of r t text e in
    subst (λ (w : List ℕ). cell_of_wkt r w ≡ told t) g.same
    (rw (le-ltb 30 r g.shallow, spelled_back t g.good (bounded_three r t g.shallow g.bounds), g.bounds))

-- whatever the buffer held
pub export_import_lent : (r : ℕ) (t : Triple) (buffer : List ℕ) (n : ℕ) → count_of (wkt_of r t) buffer ≡ told n → cell_of_wkt r (take n (after_call (wkt_of r t) buffer)) ≡ told t
export_import_lent r t buffer n e =
    let w = wrote (wkt_of r t) buffer e in
    ap (λ (u : List ℕ). cell_of_wkt r (take n u)) w.stored ∙ ap (cell_of_wkt r) (take_at w.values (drop n buffer) n w.count) ∙ export_import r t w.values w.gave

-- EXPORT OF AN IMPORT gives the text back
pub import_export : (r : ℕ) (text : List ℕ) (t : Triple) → cell_of_wkt r text ≡ told t → wkt_of r t ≡ told text
unfolding cell_of_wkt
import_export r text t e =
    let a = passed (ltb 30 r) Is.Resolution e in
    let b = stepped (spelled_cell text) a.1 in
    let c = passed (not (is_in_bounds r b.0)) Is.Bounds b.2 in
    let is : b.0 ≡ t = told_same c.1 in
    let s = spelled_only text t (b.1 ∙ ap told is) in
    of_given r t (ltb-false 30 r a.0) s.good (subst (λ (u : Triple). is_in_bounds r u ≡ true) is (not-false (is_in_bounds r b.0) c.0)) ∙ ap told (sym s.same)

-- EVERY TEXT that is no cell's polygon is refused by 27
pub no_cell_27 : (r : ℕ) (text : List ℕ) → r ≤ 30 → ((t : Triple) → Spells text t → ⊥) → cell_of_wkt r text ≡ refused 27
unfolding cell_of_wkt
no_cell_27 r text h no_cell = rw (le-ltb 30 r h, unspelled text no_cell)

-- and one of a cell that is not there at the resolution by 5
pub outside_5 : (r : ℕ) (t : Triple) → r ≤ 30 → good_sum t ≡ true → ThreeI32 t → is_in_bounds r t ≡ false → cell_of_wkt r (polygon_text t) ≡ refused 5
unfolding cell_of_wkt number_of
outside_5 r t h g n b = rw (le-ltb 30 r h, spelled_back t g n, b)
