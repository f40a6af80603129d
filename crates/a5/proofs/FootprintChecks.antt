-- What is computed of the footprints, and what each test says. Which child has a spot depends on its triangle of the children's scale alone:
-- a footprint has 16 of them, four for each child, and one test goes through them all.
use mathlib.Core.Path.{◌≡◌}
use mathlib.Core.Bool.{Bool, ◌&&◌}
use mathlib.Core.List.{List, [], ◌∷◌}
use Prim.Native.Nat.{ℕ, ◌+◌, ◌*◌, ◌<◌}
use lib.Dec.{T, eqb, eqb→eq}
use Rattle.whole.proofs.Bools.{both_left, both_right}
use Rattle.whole.proofs.Claims.{Claim, lt, le, eq, pass, Hold, hold, passed, below, at, implies, apply, all, each}
use Rattle.tables.specs.Descent.{entry}
use Rattle.a5.specs.A5Table.{a5_table}
use Rattle.a5.specs.Lookup.{child_state, choice}
use Rattle.a5.specs.Inside.Footprints.{before_x, before_y, before_g, skew, wide_x, wide_y, wide_g, begins, at_x, at_y, at_g, leaf_x, leaf_y, leaf_g}
use Rattle.a5.specs.Inside.Spots.{Spot, spot, leaf}
use Rattle.a5.proofs.Finds.{axis, slope, upward, before, threshold, seen, bit_at, pick, same, leaf_of}

-- ---- a child's footprint lies in its parent's
abbrev pub Down : ℕ → ℕ → List Claim
Down k d =
    lt (child_state k d) 28
    ∷ le (at_x k d + wide_x (child_state k d)) (2 * wide_x k)
    ∷ le (at_y k d + wide_y (child_state k d)) (2 * wide_y k)
    ∷ le (at_g k d + wide_g (child_state k d)) (2 * wide_g k)
    ∷ eq (at_g k d + 2 * skew k) (at_x k d + at_y k d + skew (child_state k d)) ∷ []

down_all : T (all 28 4 Down)
unfolding all below before_x before_y before_g skew wide_x wide_y wide_g begins at_x at_y at_g entry a5_table
down_all = tt

pub down : (k d : ℕ) → k < 28 → d < 4 → Hold (Down k d)
down = each 28 4 Down down_all

-- ---- what holds of every triangle of k's footprint, where k is of the scale c
abbrev pub Triangle : ℕ → ℕ → Spot → List Claim
Triangle c k p = le (p.x + p.y) (p.g + c * skew k) ∷ le (p.g + c * skew k) (p.x + p.y + 1) ∷ []

abbrev pub Ends : ℕ → ℕ → Spot → List Claim
Ends c k p = lt p.x (c * wide_x k) ∷ lt p.y (c * wide_y k) ∷ lt p.g (c * wide_g k) ∷ []

unfoldable pub over : ℕ → ℕ → (Spot → Bool) → Bool
over c k f = below (c * wide_x k) (λ x. below (c * wide_y k) (λ y. below (c * wide_g k) (λ g. implies (pass (Triangle c k (spot x y g))) (f (spot x y g)))))

pub over_at : (c k : ℕ) (f : Spot → Bool) → T (over c k f) → (p : Spot) → Hold (Ends c k p) → Hold (Triangle c k p) → T (f p)
unfolding over
over_at c k f t p e h =
    let at_spot : ℕ → ℕ → ℕ → Bool = λ x y g. implies (pass (Triangle c k (spot x y g))) (f (spot x y g)) in
    let row = at (c * wide_x k) (λ x. below (c * wide_y k) (λ y. below (c * wide_g k) (at_spot x y))) t p.x e.0 in
    let column = at (c * wide_y k) (λ y. below (c * wide_g k) (at_spot p.x y)) row p.y e.1.0 in
    apply (pass (Triangle c k p)) (f p) (at (c * wide_g k) (at_spot p.x p.y) column p.g e.1.1.0) (passed (Triangle c k p) h)

-- ---- the child picked has the triangle, and no other has it
abbrev pub Within : ℕ → ℕ → Spot → List Claim
Within k d p =
    le (at_x k d) p.x ∷ lt p.x (at_x k d + wide_x (child_state k d))
    ∷ le (at_y k d) p.y ∷ lt p.y (at_y k d + wide_y (child_state k d))
    ∷ le (at_g k d) p.g ∷ lt p.g (at_g k d + wide_g (child_state k d)) ∷ []

abbrev pub Picked : ℕ → Spot → List Claim
Picked k p = lt (pick k p) 4 ∷ Within k (pick k p) p

abbrev other : ℕ → Spot → ℕ → Bool
other k p d = implies (pass (Within k d p)) (eqb d (pick k p))

unfoldable pick_test : ℕ → Spot → Bool
pick_test k p = pass (Picked k p) && below 4 (other k p)

pick_all : T (below 28 (λ k. over 2 k (pick_test k)))
unfolding below over implies pick_test pick bit_at seen before_x before_y before_g skew wide_x wide_y wide_g begins at_x at_y at_g axis slope upward before threshold choice entry a5_table
pick_all = tt

module _ (k : ℕ) (h : k < 28) (p : Spot) (e : Hold (Ends 2 k p)) (t : Hold (Triangle 2 k p)) where
  picked : T (pick_test k p)
  picked = over_at 2 k (pick_test k) (at 28 (λ k. over 2 k (pick_test k)) pick_all k h) p e t

  pub pick_in : Hold (Picked k p)
  unfolding pick_test
  pick_in = hold (Picked k p) (both_left (pass (Picked k p)) (below 4 (other k p)) picked)

  pub pick_only : (d : ℕ) → d < 4 → Hold (Within k d p) → d ≡ pick k p
  unfolding pick_test
  pick_only d l w =
      eqb→eq d (pick k p) (apply (pass (Within k d p)) (eqb d (pick k p)) (at 4 (other k p) (both_right (pass (Picked k p)) (below 4 (other k p)) picked) d l) (passed (Within k d p) w))

-- ---- the leaves are the triangles of the footprint, each once
abbrev pub Leaf : ℕ → Spot → List Claim
Leaf k p = lt (leaf_of k p) 4 ∷ eq p.x (leaf_x k (leaf_of k p)) ∷ eq p.y (leaf_y k (leaf_of k p)) ∷ eq p.g (leaf_g k (leaf_of k p)) ∷ []

leaf_all : T (below 28 (λ k. over 1 k (λ p. pass (Leaf k p))))
unfolding below over implies leaf_of same leaf before_x before_y before_g skew wide_x wide_y wide_g leaf_x leaf_y leaf_g entry a5_table
leaf_all = tt

pub leaf_at : (k : ℕ) → k < 28 → (p : Spot) → Hold (Ends 1 k p) → Hold (Triangle 1 k p) → Hold (Leaf k p)
leaf_at k h p e t = hold (Leaf k p) (over_at 1 k (λ p. pass (Leaf k p)) (at 28 (λ k. over 1 k (λ p. pass (Leaf k p))) leaf_all k h) p e t)

abbrev pub Own : ℕ → ℕ → List Claim
Own k d = eq (leaf_of k (leaf k d)) d ∷ lt (leaf_x k d) (wide_x k) ∷ lt (leaf_y k d) (wide_y k) ∷ lt (leaf_g k d) (wide_g k)
    ∷ le (leaf_x k d + leaf_y k d) (leaf_g k d + skew k) ∷ le (leaf_g k d + skew k) (leaf_x k d + leaf_y k d + 1) ∷ []

own_all : T (all 28 4 Own)
unfolding all below leaf_of same leaf before_x before_y before_g skew wide_x wide_y wide_g leaf_x leaf_y leaf_g entry a5_table
own_all = tt

pub own : (k d : ℕ) → k < 28 → d < 4 → Hold (Own k d)
own = each 28 4 Own own_all
