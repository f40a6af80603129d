-- What a comparison or a difference of machine integers is worth: a number read back from its bits is itself.
use mathlib.Core.Path.{◌≡◌, refl, sym, ap₂, subst, ◌∙◌}
use mathlib.Core.Bool.{Bool, true, false, ◌&&◌, ◌||◌}
use Prim.Native.Nat.{ℕ, ◌<◌, ◌^◌}
use native.Mathlib.Omega.{arith}
use lib.Dec.{T, leb, leb→le}
use lib.IntN.{ℤ, pos, neg_ℤ, ◌-ℤ◌, ◌*ℤ◌}
use lib.Signed.{mag}
use mir.Syntax.{w8, w64}
use mir.Val.{SFits}
use mir.ValLaws.{to_z-of_z}
use Rattle.std.specs.Cmp.{signed_Decides}
use Rattle.std.proofs.lemmas.Int.{ints}
use Rattle.std.specs.Ordering.{is_some_and, is_le, int_cmp, int_eq, partial_ordering_then}
use Rattle.std.proofs.Common.{Some}
use Rattle.std.proofs.lemmas.Bool.{false≢true}
use Rattle.whole.specs.Tests.{equal}
use Rattle.whole.proofs.Bools.{both_left, both_right, is_true, is_false}
use Rattle.whole.proofs.Equals.{equal_sound, is_equal}
use Rattle.whole.proofs.Parts.{up_pos, dn_pos, neg_up, neg_dn, le_parts}
use Rattle.whole.proofs.View.{View, rd, v_mag, v_prod, v_add, v_neg, seen, fits, kept}
use Rattle.turtle.specs.declared.AB.{AB}
use Rattle.turtle.specs.Inside.Sizes.{Within}
use Rattle.turtle.specs.Plane.{equal_ab}
use Rattle.classifier.specs.declared.Corner.{Corner}
use Rattle.classifier.specs.Shapes.{point_of}
use Rattle.classifier.specs.Hulls.{earlier, cross}

-- ---- a leaf of eight bits
abbrev pub v_i8 : (x : ℤ) → mag x < 2 ^ 7 → View x
v_i8 x f = v_mag w8 x f

abbrev pub v_fit8 : (x : ℤ) → SFits w8 x → View x
v_fit8 x f = v_mag w8 x f.sfits

pub ruleset seen8 = (seen, v_i8, v_fit8)

-- ---- equality of the fields, as the derived `==` has it
pub same_int : (x y : ℤ) → equal x y ≡ int_eq x y
same_int x y = go (int_eq x y) refl
  where
    go : (b : Bool) → int_eq x y ≡ b → equal x y ≡ b
    go true e = sym (is_true (equal x y) (is_equal x y ((signed_Decides x y).0 e)))
    go false e = sym (is_false (equal x y) (λ t. absurd (false≢true (sym e ∙ (signed_Decides x y).1 (equal_sound x y t)))))

pub same_point : (p q : Corner) → int_eq p.a q.a && int_eq p.b q.b ≡ equal_ab (point_of p) (point_of q)
same_point p q = sym (ap₂ ◌&&◌ (same_int p.a q.a) (same_int p.b q.b))

-- ---- the order of points, as the derived `<=` has it
abbrev pub first_or_same : Corner → Corner → Bool
first_or_same p q = is_some_and is_le (partial_ordering_then (Some (int_cmp p.a q.a)) (Some (int_cmp p.b q.b)))

pub at_most : (p q : Corner) → first_or_same p q ≡ earlier (point_of p) (point_of q) || equal_ab (point_of p) (point_of q)
at_most p q = grind (arith, ints)

-- a point that goes before another is not the same
pub not_both : (p q : AB) → earlier p q ≡ true → equal_ab p q ≡ true → ⊥
not_both p q e f = grind (arith, ints, e, f)

-- ---- the turn, read back from its steps
abbrev wide : ℤ → ℤ
wide x = rd w64 (rd w8 x)

module _ (x y : ℤ) (f : SFits w8 x) (g : SFits w8 y) where
  difference : rd w64 (wide x -ℤ wide y) ≡ x -ℤ y
  difference =
      kept w64 (ap₂ ◌-ℤ◌ (kept w64 (to_z-of_z w8 x f) (v_fit8 x f) tt) (kept w64 (to_z-of_z w8 y g) (v_fit8 y g) tt)) (search seen8) tt

module _ (x y u v : ℤ) (f : SFits w8 x) (g : SFits w8 y) (h : SFits w8 u) (k : SFits w8 v) where
  abbrev v_product : View ((x -ℤ y) *ℤ (u -ℤ v))
  v_product = v_prod (v_add (v_fit8 x f) (v_neg (v_fit8 y g))) (v_add (v_fit8 u h) (v_neg (v_fit8 v k)))

  product : rd w64 (rd w64 (wide x -ℤ wide y) *ℤ rd w64 (wide u -ℤ wide v)) ≡ (x -ℤ y) *ℤ (u -ℤ v)
  product = kept w64 (ap₂ ◌*ℤ◌ (difference x y f g) (difference u v h k)) v_product tt

  pub product_fits : SFits w64 (rd w64 (wide x -ℤ wide y) *ℤ rd w64 (wide u -ℤ wide v))
  product_fits = subst (SFits w64) (sym (ap₂ ◌*ℤ◌ (difference x y f g) (difference u v h k))) (fits v_product tt)

module _ (o p q : AB) (oa : SFits w8 o.a) (ob : SFits w8 o.b) (pa : SFits w8 p.a) (pb : SFits w8 p.b) (qa : SFits w8 q.a) (qb : SFits w8 q.b) where
  abbrev turn : ℤ
  turn =
      rd w64 (rd w64 (wide p.a -ℤ wide o.a) *ℤ rd w64 (wide q.b -ℤ wide o.b)) -ℤ rd w64 (rd w64 (wide p.b -ℤ wide o.b) *ℤ rd w64 (wide q.a -ℤ wide o.a))

  turn_is : turn ≡ cross o p q
  unfolding cross
  turn_is = ap₂ ◌-ℤ◌ (product _ _ _ _ pa oa qb ob) (product _ _ _ _ pb ob qa oa)

  abbrev v_turn : View ((p.a -ℤ o.a) *ℤ (q.b -ℤ o.b) -ℤ (p.b -ℤ o.b) *ℤ (q.a -ℤ o.a))
  v_turn = v_add (v_product p.a o.a q.b o.b pa oa qb ob) (v_neg (v_product p.b o.b q.a o.a pb ob qa oa))

  pub turn_fits : SFits w64 (rd w64 (rd w64 (wide p.a -ℤ wide o.a) *ℤ rd w64 (wide q.b -ℤ wide o.b)) -ℤ rd w64 (rd w64 (wide p.b -ℤ wide o.b) *ℤ rd w64 (wide q.a -ℤ wide o.a)))
  unfolding cross
  turn_fits = subst (SFits w64) (sym turn_is) (fits v_turn tt)

  pub turn_read : rd w64 (rd w64 (rd w64 (wide p.a -ℤ wide o.a) *ℤ rd w64 (wide q.b -ℤ wide o.b)) -ℤ rd w64 (rd w64 (wide p.b -ℤ wide o.b) *ℤ rd w64 (wide q.a -ℤ wide o.a))) ≡ cross o p q
  unfolding cross
  turn_read = kept w64 turn_is v_turn tt

-- ---- a size, from a view's bounds
pub within_by : (n : ℕ) {z : ℤ} (v : View z) → T (v.ok && leb v.top n && leb v.bot n) → Within n z
within_by n {z} v t =
    let k = both_left (v.ok && leb v.top n) (leb v.bot n) t in
    let top = leb→le v.top n (both_right v.ok (leb v.top n) k) in
    let bot = leb→le v.bot n (both_right (v.ok && leb v.top n) (leb v.bot n) t) in
    let is = v.is (both_left v.ok (leb v.top n) k) in
    record {
      low = le_parts (neg_ℤ (pos n)) z (omega (arith, neg_up (pos n), neg_dn (pos n), up_pos n, dn_pos n));
      high = le_parts z (pos n) (omega (arith, up_pos n, dn_pos n));
    }
