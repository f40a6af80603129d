-- The corners of a placed footprint as the code reads them, and a test of each of them.
use mathlib.Core.Path.{◌≡◌, refl, sym, ap, ap₂, ◌∙◌}
use mathlib.Core.Bool.{Bool, true, false, ◌&&◌}
use mathlib.Core.List.{List, [], ◌∷◌, map}
use Prim.Native.Nat.{ℕ, ◌*◌, ◌<◌, min}
use native.Mathlib.Omega.{arith}
use lib.IntN.{ℤ}
use lib.ListN.{length, get_or, take, length-take}
use lib.Seq.{get_or-take}
use Rattle.std.proofs.lemmas.List.{get_or-map, length-map}
use mir.Syntax.{w8, w64}
use mir.Val.{Fits, SFits}
use mir.ValLaws.{to_z-of_z}
use Rattle.whole.proofs.View.{rd, kept}
use Rattle.turtle.specs.declared.AB.{AB}
use Rattle.turtle.specs.Plane.{ab, origin, ◌⊕◌, neg, signed, thrice}
use Rattle.turtle.specs.Inside.Sizes.{Within}
use Rattle.turtle.proofs.WalkLaws.{v_small}
use Rattle.classifier.specs.declared.Corner.{Corner}
use Rattle.classifier.specs.declared.Placed.{Placed}
use Rattle.std.specs.List.{list_all}
use Rattle.classifier.specs.Shapes.{point_of, points_of, placed_corners}
use Rattle.classifier.specs.Inside.Sets.{tripled}
use Rattle.classifier.proofs.HullLaws.{place_fits, points_few}

-- ---- the corners
abbrev pub turned : Placed → AB → AB
turned g p = thrice (point_of g.at) ⊕ thrice (signed g.flip p)

-- the corners as the code has them, in a slice
module _ (g : Placed) (l : List Corner) (l_is : map point_of l ≡ points_of g.hull) where
  pub corners_long : length l ≡ length (placed_corners g)
  unfolding placed_corners
  corners_long = sym (length-map l point_of) ∙ ap length l_is ∙ sym (length-map (points_of g.hull) (turned g))

  -- a place among them, in bytes
  pub corner_fits : (i : ℕ) → i < length (placed_corners g) → Fits w64 (i * 2)
  corner_fits i h = place_fits i (omega (arith, corners_long, length-map l point_of, ap length l_is, points_few g.hull))

  pub corner_at : (i : ℕ) (d : Corner) {p : AB} → i < length (placed_corners g) → p ≡ turned g (point_of (get_or l i d)) → p ≡ get_or (placed_corners g) i origin
  unfolding placed_corners
  corner_at i d {p} h e =
      let inside : i < length l = omega (arith, corners_long) in
      let inner : get_or (map point_of l) i origin ≡ point_of (get_or l i d) = get_or-map point_of l i d origin inside in
      let outer = get_or-map (turned g) (map point_of l) i origin origin (rw (length-map l point_of) inside) in
      e ∙ sym (outer ∙ ap (turned g) inner) ∙ ap (λ (ps : List AB). get_or (map (turned g) ps) i origin) l_is

-- the same of the hull's own array
pub corner_at_lem : (g : Placed) (i : ℕ) → i < length (placed_corners g) → (d : Corner) {p : AB} → p ≡ thrice (point_of g.at) ⊕ thrice (signed g.flip (point_of (get_or g.hull.corners i d))) → p ≡ get_or (placed_corners g) i origin
unfolding points_of
corner_at_lem g i h d e =
    let m : ℕ = min g.hull.count 24 in
    let few : i < m = omega (arith, h, corners_long g (take m g.hull.corners) refl, length-take m g.hull.corners) in
    corner_at g (take m g.hull.corners) refl i d h (e ∙ ap (λ (c : Corner). turned g (point_of c)) (sym (get_or-take m g.hull.corners i d few)))

-- a coordinate is passed on by its bits
module _ (at p : Corner) (flip : Bool) (fa : SFits w8 at.a) (fb : SFits w8 at.b) (ga : SFits w8 p.a) (gb : SFits w8 p.b) where
  passed : {z a x : ℤ} → SFits w8 a → SFits w8 x → z ≡ tripled flip (rd w8 a) (rd w8 x) → z ≡ tripled flip a x
  passed {z} {a} {x} f g e = e ∙ ap₂ (tripled flip) (to_z-of_z w8 a f) (to_z-of_z w8 x g)

  pub placed_is : {x y : ℤ} → (x ≡ tripled flip (rd w8 at.a) (rd w8 p.a)) × Within 768 x → (y ≡ tripled flip (rd w8 at.b) (rd w8 p.b)) × Within 768 y → ab (rd w64 x) (rd w64 y) ≡ thrice (point_of at) ⊕ thrice (signed flip (point_of p))
  unfolding ◌⊕◌ thrice signed neg
  placed_is hx hy =
      (λ i. ab (kept w64 refl (v_small hx.1) tt i) (kept w64 refl (v_small hy.1) tt i)) ∙ (λ i. ab (passed fa ga hx.0 i) (passed fb gb hy.0 i)) ∙ go flip
    where
      go : (flip : Bool) → ab (tripled flip at.a p.a) (tripled flip at.b p.b) ≡ thrice (point_of at) ⊕ thrice (signed flip (point_of p))
      go true = refl
      go false = refl

-- ---- a test of each corner: f says that t holds of all of them
module _ (f : List AB → Bool) (t : AB → Bool) (none : f [] ≡ true) (cons : (p : AB) (ps : List AB) → f (p ∷ ps) ≡ t p && f ps) (g : Placed) (l : List Corner) (l_is : map point_of l ≡ points_of g.hull) where
  pub all_corners : {r : Bool} → r ≡ list_all (λ (p : Corner). t (turned g (point_of p))) l → r ≡ f (placed_corners g)
  unfolding placed_corners
  all_corners e = e ∙ go l ∙ ap (λ (ps : List AB). f (map (turned g) ps)) l_is
    where
      go : (l : List Corner) → list_all (λ (p : Corner). t (turned g (point_of p))) l ≡ f (map (turned g) (map point_of l))
      go [] = sym none
      go (p ∷ l) = ap (λ (b : Bool). t (turned g (point_of p)) && b) (go l) ∙ sym (cons (turned g (point_of p)) (map (turned g) (map point_of l)))
