-- A state's children in its frame, in the form of what the code has in hand.
use mathlib.Core.Path.{◌≡◌, refl, sym, ap, ◌∙◌, subst}
use mathlib.Core.Bool.{Bool, true, false, not, beq}
use mathlib.Core.List.{List, [], ◌∷◌, map}
use Prim.Native.Nat.{ℕ, zero, suc, ◌+◌, ◌*◌, ◌%◌, ◌<◌, ◌≤◌}
use native.Mathlib.Omega.{arith}
use lib.IntN.{ℤ, pos, neg_ℤ, ◌+ℤ◌, ◌-ℤ◌}
use lib.ListN.{length, get_or, get_or-map, set, length-set}
use Rattle.std.proofs.Common.{◌≢◌, get_or-set_same, get_or-set_other}
use borrow.Author.Count.{below_more}
use native.Mathlib.Numerals.{add-one}
use mir.Syntax.{w64}
use mir.Val.{SFits, to_z, of_z}
use Rattle.whole.proofs.View.{view, eq_by, fits}
use Rattle.turtle.specs.declared.AB.{AB}
use Rattle.turtle.specs.Plane.{ab, origin, ◌⊕◌, neg, signed, flipped, facing}
use Rattle.turtle.specs.Inside.Sizes.{Within, Small}
use Rattle.turtle.specs.declared.letter.Stroke.{Stroke}
use Rattle.turtle.specs.declared.walk.Turtle.{Turtle}
use Rattle.turtle.specs.Walk.{Sym, left, right, letter, turtle, move}
use Rattle.turtle.proofs.PlaneLaws.{⊕_assoc, ⊕_idl, ⊕_idr, signed_origin}
use Rattle.turtle.proofs.WalkLaws.{v_small, small_more, add_small}
use Rattle.classifier.specs.declared.Corner.{Corner}
use Rattle.classifier.specs.declared.Hull.{Hull}
use Rattle.classifier.specs.declared.Placed.{Placed}
use Rattle.classifier.specs.Hulls.{hull}
use Rattle.classifier.specs.Shapes.{point_of, no_corner, hull_by, points_of, placed_corners, polygons_of}
use Rattle.classifier.proofs.HullLaws.{points_by}
use Rattle.grammar.specs.Texts.{Line, lines_of}
use Rattle.grammar.specs.Curves.{strokes, net, letter_of, letter_count}
use Rattle.grammar.specs.Tests.{fine}
use Rattle.grammar.proofs.Grammars.{grammar_of}
use Rattle.grammar.proofs.Meaning.{accepted, linked}
use Rattle.tables.specs.declared.Child.{Child}
use Rattle.tables.specs.declared.Drawn.{Drawn}
use Rattle.tables.specs.declared.Source.{Source}
use Rattle.tables.specs.Children.{children_along, children, child, no_child, offset_after, offset}
use Rattle.tables.specs.Classifier.{footprint, hull_of, placed_hull, polygon, polygons}
use Rattle.tables.specs.Inside.Frames.{starts, ChildrenOf}
use Rattle.tables.specs.Inside.Leaves.{IsDrawn}
use Rattle.tables.specs.Inside.Sources.{Ready}
use Rattle.classifier.proofs.HullSizes.{hull_long}
use Rattle.tables.proofs.LeafLaws.{four_strokes, origin_small}
use Rattle.tables.proofs.Follow.{child_bound}
use Rattle.tables.proofs.RuleChildLaws.{length_letters}
use Rattle.tables.proofs.SizeLaws.{signed_small}

-- ---- flips
pub flipped_is : (f g : Bool) → not (beq f g) ≡ flipped f g
unfolding flipped
flipped_is true true = refl
flipped_is true false = refl
flipped_is false true = refl
flipped_is false false = refl

pub signed_on : {f : Bool} {p q : AB} → f ≡ true → Small 96 p → q ≡ ab (to_z w64 (of_z w64 (pos 0 -ℤ to_z w64 (of_z w64 p.a)))) (to_z w64 (of_z w64 (pos 0 -ℤ to_z w64 (of_z w64 p.b)))) → q ≡ signed f p
unfolding signed neg
signed_on {f} {p} {q} e s made =
    let va = v_small s.a in
    let vb = v_small s.b in
    let ea : to_z w64 (of_z w64 (pos 0 -ℤ to_z w64 (of_z w64 p.a))) ≡ neg_ℤ p.a = eq_by (search view depth 9) (search view depth 9) tt (omega arith) in
    let eb : to_z w64 (of_z w64 (pos 0 -ℤ to_z w64 (of_z w64 p.b))) ≡ neg_ℤ p.b = eq_by (search view depth 9) (search view depth 9) tt (omega arith) in
    made ∙ rw (e, ea, eb) refl

pub signed_off : {f : Bool} {p : AB} → f ≡ false → p ≡ signed f p
unfolding signed
signed_off e = rw e refl

pub sum_fits : {y z : ℤ} → Within 64 y → Within 32 z → SFits w64 (to_z w64 (of_z w64 y) +ℤ to_z w64 (of_z w64 z))
sum_fits u w = let v = v_small u in let x = v_small w in fits (search view depth 9) tt

pub summed : {p q r : AB} → Small 64 p → Small 32 q → r ≡ ab (to_z w64 (of_z w64 (to_z w64 (of_z w64 p.a) +ℤ to_z w64 (of_z w64 q.a)))) (to_z w64 (of_z w64 (to_z w64 (of_z w64 p.b) +ℤ to_z w64 (of_z w64 q.b)))) → r ≡ p ⊕ q
unfolding ◌⊕◌
summed {p} {q} {r} s t made =
    let pa = v_small s.a in
    let pb = v_small s.b in
    let qa = v_small t.a in
    let qb = v_small t.b in
    let ea : to_z w64 (of_z w64 (to_z w64 (of_z w64 p.a) +ℤ to_z w64 (of_z w64 q.a))) ≡ p.a +ℤ q.a = eq_by (search view depth 9) (search view depth 9) tt (omega arith) in
    let eb : to_z w64 (of_z w64 (to_z w64 (of_z w64 p.b) +ℤ to_z w64 (of_z w64 q.b))) ≡ p.b +ℤ q.b = eq_by (search view depth 9) (search view depth 9) tt (omega arith) in
    made ∙ rw (ea, eb) refl

-- ---- strides, and footprints where they stand
module _ {w : List (Sym Stroke)} {t : Turtle} {d : Drawn} (drawn : IsDrawn w t d) (four : letter_count w ≡ 4) where
  footprint_long : (w : List (Sym Stroke)) (t : Turtle) → length (footprint w t) ≡ 3 * letter_count w
  unfolding footprint letter_count
  footprint_long [] t = refl
  footprint_long (left ∷ w) t = footprint_long w (move left t)
  footprint_long (right ∷ w) t = footprint_long w (move right t)
  footprint_long (letter s ∷ w) t = omega (arith, footprint_long w (move (letter s) t))

  pub hull_is : {h : Hull} → h ≡ hull_by (hull (map point_of d.corners)) → points_of h ≡ hull (footprint w t)
  hull_is {h} e =
      rw (e, drawn.corners) (points_by (hull (footprint w t)) (hull_long (footprint w t) (omega (arith, footprint_long w t, four))))

module _ (text : List ℕ) (c : Child) {s : Source} (r : Ready text s) (below : c.token < s.count)
    {d : Drawn} (drawn : IsDrawn (strokes (lines_of text) 1 (letter_of (lines_of text) c.token)) (turtle origin (facing false)) d) where
  pub stride_near : {p : AB} → p ≡ point_of d.end → Small 96 p
  stride_near e = small_more (omega arith) (subst (Small 32) (sym e) drawn.near)

  pub stride_is : {p q : AB} → p ≡ point_of d.end → q ≡ signed c.flip p → (q ≡ signed c.flip (net (lines_of text) 1 (letter_of (lines_of text) c.token))) × Small 32 q
  unfolding net facing
  stride_is {p} {q} e f =
      let near : Small 32 p = subst (Small 32) (sym e) drawn.near in
      (f ∙ ap (signed c.flip) (e ∙ drawn.end), subst (Small 32) (sym f) (signed_small c.flip near))

  pub placed_is : {h : Hull} (f : Bool) {t : Bool} (at : Corner) → h ≡ hull_by (hull (map point_of d.corners)) → t ≡ flipped f c.flip → placed_corners (record { hull = h; at = at; flip = t }) ≡ placed_hull (lines_of text) c (point_of at) f
  unfolding placed_corners placed_hull hull_of facing
  placed_is {h} f {t} at e g = rw (hull_is drawn (four_strokes r c.token below) e, g) refl

length_along : (h : ℕ) (w : List (Sym ℕ)) → length (children_along h w) ≡ letter_count w
unfolding children_along letter_count
length_along h [] = refl
length_along h (left ∷ w) = length_along ((h + 1) % 6) w
length_along h (right ∷ w) = length_along ((h + 5) % 6) w
length_along h (letter m ∷ w) = ap suc (length_along h w)

-- where children start, one after the other
stride : List Line → Child → AB
stride ls c = signed c.flip (net ls 1 (letter_of ls c.token))

offset_more : (ls : List Line) (cs : List Child) (d : ℕ) → d < length cs → offset_after ls 1 cs (suc d) ≡ offset_after ls 1 cs d ⊕ stride ls (get_or cs d no_child)
unfolding offset_after stride
offset_more ls [] d h = absurd (omega arith)
offset_more ls (c ∷ cs) zero h = ⊕_idr _ ∙ sym (⊕_idl _)
offset_more ls (c ∷ cs) (suc d) h = ap (λ p. stride ls c ⊕ p) (offset_more ls cs d (omega arith)) ∙ sym (⊕_assoc _ _ _)

list_of_four : {A : Type 0} (l : List A) (z : A) → length l ≡ 4 → l ≡ get_or l 0 z ∷ get_or l 1 z ∷ get_or l 2 z ∷ get_or l 3 z ∷ []
list_of_four (a ∷ b ∷ c ∷ d ∷ []) z h = refl
list_of_four [] z h = absurd (omega arith)
list_of_four (a ∷ []) z h = absurd (omega arith)
list_of_four (a ∷ b ∷ []) z h = absurd (omega arith)
list_of_four (a ∷ b ∷ c ∷ []) z h = absurd (omega arith)
list_of_four (a ∷ b ∷ c ∷ d ∷ e ∷ l) z h = absurd (omega arith)

-- ---- the children of a token
module _ {text : List ℕ} {s : Source} {m : ℕ} {cs : List Child} (of : ChildrenOf text s m cs) where
  abbrev ls : List Line
  ls = lines_of text

  four : length cs ≡ 4
  unfolding children grammar_of
  four = ap length of.are ∙ length_along 0 ((grammar_of ls).rule m) ∙ (accepted text fine of.ready.fair).four m (rw (sym (length_letters of.ready)) of.below)

  child_at : (d : ℕ) → get_or cs d no_child ≡ child ls m d
  child_at d = rw of.are refl

  pub child_below : (d : ℕ) → d < 4 → (get_or cs d no_child).token < s.count
  child_below d h = rw (child_at d, length_letters of.ready) (child_bound ls (accepted text fine of.ready.fair) (linked text fine of.ready.fair) m d (rw (sym (length_letters of.ready)) of.below) h)

  -- the first d of the strides are added up, and the places behind them are known
  pub record Starting (flip : Bool) (at : AB) (list : List Corner) (d : ℕ) : Type 0 where
    pub long : length list ≡ 4
    pub sum : at ≡ offset_after ls 1 cs d
    pub small : Small (32 * d) at
    pub known : (k : ℕ) → k < d + 1 → point_of (get_or list k no_corner) ≡ signed flip (offset_after ls 1 cs k)

  pub starting : (flip : Bool) {at : AB} → at ≡ ab (pos 0) (pos 0) → Starting flip at (no_corner ∷ no_corner ∷ no_corner ∷ no_corner ∷ []) 0
  unfolding offset_after origin
  starting flip e = record { long = refl; sum = e; small = origin_small e; known = none }
    where
      none : (k : ℕ) → k < 0 + 1 → point_of (get_or (no_corner ∷ no_corner ∷ no_corner ∷ no_corner ∷ []) k no_corner) ≡ signed flip (offset_after ls 1 cs k)
      none zero h = sym (signed_origin flip)
      none (suc k) h = absurd (omega arith)

  pub sum_small : {flip : Bool} {at : AB} {list : List Corner} {d : ℕ} → Starting flip at list d → d < 3 → {stride z : AB} → (stride ≡ z) × Small 32 stride → Small 64 at × Small 32 stride
  sum_small so_far h one = (small_more (omega arith) so_far.small, one.1)

  module _ {flip : Bool} {at : AB} {list : List Corner} {d : ℕ} (so_far : Starting flip at list d) (h : d < 3) {stride next : AB}
      (one : (stride ≡ signed (get_or cs d no_child).flip (net ls 1 (letter_of ls (get_or cs d no_child).token))) × Small 32 stride) (e : next ≡ at ⊕ stride) where
    next_small : Small (32 * d + 32) next
    next_small = subst (Small (32 * d + 32)) (sym e) (add_small so_far.small one.1)

    pub next_near : Small 96 next
    next_near = small_more (omega arith) next_small

    pub signed_near : {q : AB} → q ≡ signed flip next → Small 120 q
    signed_near f = subst (Small 120) (sym f) (small_more (omega arith) (signed_small flip next_small))

    pub starting_next : {c : Corner} → point_of c ≡ signed flip next → Starting flip next (set list (d + 1) c) (d + 1)
    unfolding stride
    starting_next {c} f =
        let sum : next ≡ offset_after ls 1 cs (d + 1) = rw add-one (e ∙ rw (so_far.sum, one.0) (sym (offset_more ls cs d (omega (arith, four))))) in
        let one_more : 32 * d + 32 ≡ 32 * (d + 1) = omega arith in
        record {
          long = length-set list (d + 1) c ∙ so_far.long;
          sum = sum;
          small = subst (λ n. Small n next) one_more next_small;
          known = below_more (λ k. point_of (get_or (set list (d + 1) c) k no_corner) ≡ signed flip (offset_after ls 1 cs k)) (d + 1)
              (λ k l. let ne : k ≢ d + 1 = omega arith in rw get_or-set_other (so_far.known k l))
              (let lt : d + 1 < length list = omega (arith, so_far.long) in rw get_or-set_same (f ∙ ap (signed flip) sum));
        }

  pub starting_end : {flip : Bool} {at : AB} {list : List Corner} {d : ℕ} → Starting flip at list d → 3 ≤ d → map point_of list ≡ starts ls m flip
  unfolding starts offset
  starting_end {flip} {at} {list} {d} so_far h =
      let at_place = so_far.known in
      ap (map point_of) (list_of_four list no_corner so_far.long)
      ∙ (λ i. at_place 0 (omega arith) i ∷ at_place 1 (omega arith) i ∷ at_place 2 (omega arith) i ∷ at_place 3 (omega arith) i ∷ [])
      ∙ ap (λ l. signed flip (offset_after ls 1 l 0) ∷ signed flip (offset_after ls 1 l 1) ∷ signed flip (offset_after ls 1 l 2) ∷ signed flip (offset_after ls 1 l 3) ∷ []) of.are

  pub family_is : (flip : Bool) (at : List Corner) → map point_of at ≡ starts ls m flip → (g0 g1 g2 g3 : Placed)
      → placed_corners g0 ≡ placed_hull ls (get_or cs 0 no_child) (point_of (get_or at 0 no_corner)) flip
      → placed_corners g1 ≡ placed_hull ls (get_or cs 1 no_child) (point_of (get_or at 1 no_corner)) flip
      → placed_corners g2 ≡ placed_hull ls (get_or cs 2 no_child) (point_of (get_or at 2 no_corner)) flip
      → placed_corners g3 ≡ placed_hull ls (get_or cs 3 no_child) (point_of (get_or at 3 no_corner)) flip
      → polygons_of (g0 ∷ g1 ∷ g2 ∷ g3 ∷ []) ≡ polygons ls m flip
  unfolding polygon starts
  family_is flip at e g0 g1 g2 g3 a b c d =
      let start : (i : ℕ) → point_of (get_or at i no_corner) ≡ get_or (starts ls m flip) i (point_of no_corner) = λ i. sym (get_or-map point_of at i no_corner) ∙ ap (λ l. get_or l i (point_of no_corner)) e in
      rw (a, b, c, d, of.are, start 0, start 1, start 2, start 3) refl
