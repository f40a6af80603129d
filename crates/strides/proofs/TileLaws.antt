-- The search from tile to tile is the lookup by footprints. A tile is a state and the triangle of its own scale that the spot lies in; the next bit of the three
-- numbers says the triangle of the children's scale, and with it the child and the tile there. Which bits come after does not depend on where the child begins.
use mathlib.Core.Path.{◌≡◌, refl, sym, ap, ◌∙◌}
use mathlib.Core.Bool.{true}
use mathlib.Core.List.{List, [], ◌∷◌}
use Prim.Native.Nat.{ℕ, zero, suc, ◌+◌, ◌-◌, ◌*◌, ◌/◌, ◌%◌, ◌^◌, ◌<◌}
use native.Mathlib.Omega.{arith}
use native.Mathlib.Nat as N
use lib.Dec.{T}
use Rattle.whole.proofs.Claims.{Claim, eq, pass, Hold, hold, below as tested, at, implies, all, each}
use Rattle.whole.proofs.Digits.{two_power, twice_power, four_times_power}
use Rattle.triple.specs.declared.Triple.{Triple}
use Rattle.triple.specs.Triples.{is_in_bounds}
use Rattle.tables.specs.Descent.{entry}
use Rattle.a5.specs.A5Table.{a5_table}
use Rattle.a5.specs.Lookup.{child_state, choice}
use Rattle.a5.specs.Inside.Footprints.{before_x, before_y, before_g, skew, wide_x, wide_y, wide_g, begins, at_x, at_y, at_g, leaf_x, leaf_y, leaf_g}
use Rattle.a5.specs.Inside.Spots.{Spot, spot, In, moved, leaf, spot_at}
use Rattle.a5.proofs.Finds.{axis, slope, upward, before, threshold, back, coarse, seen, bit_at, pick, same, leaf_of, find}
use Rattle.a5.proofs.FootprintChecks.{down, Triangle, Ends, over, over_at, pick_in}
use Rattle.a5.proofs.FootprintLaws.{spot_is, coarse_ends, coarse_triangle, own_ends, own_triangle, moved_back, back_in, leaf_found}
use Rattle.a5.proofs.Axioms.{Axiom, axiom_a, axiom_c, axiom_b, first, shape, axiom_in}
use Rattle.a5.proofs.Once.{position}
use Rattle.strides.specs.Inside.Tiles.{kinds, tile_of, tile_words, entry_below, tile_below, digit_below, last_of}
use Rattle.strides.specs.Searches.{on_tile, below, turn_of, turn_at, digits_after}
use Rattle.strides.proofs.WalkLaws.{order}

-- the tile of the state k that is its triangle c
unfoldable tile_at : ℕ → Spot → ℕ
tile_at k c = tile_of k (leaf_of k c)

-- the triangle of the parent's scale that has c; and c as the child d of k sees it
unfoldable half : Spot → Spot
half c = spot (c.x / 2) (c.y / 2) (c.g / 2)

unfoldable less : ℕ → ℕ → Spot → Spot
less k d c = spot (c.x - at_x k d) (c.y - at_y k d) (c.g - at_g k d)

abbrev turn : Spot → ℕ
turn c = turn_of c.x c.y c.g

-- ---- what the words hold
abbrev Below : ℕ → Spot → List Claim
Below k c =
    eq (tile_below (tile_at k (half c)) (turn c)) (tile_at (child_state k (pick k c)) (less k (pick k c) c))
    ∷ eq (digit_below (tile_at k (half c)) (turn c)) (pick k c) ∷ []

below_all : T (tested 28 (λ k. over 2 k (λ c. pass (Below k c))))
unfolding tested over implies tile_of kinds tile_at half less turn_of tile_below digit_below entry_below tile_words pick bit_at seen leaf_of same leaf before_x before_y before_g skew wide_x wide_y wide_g begins at_x at_y at_g leaf_x leaf_y leaf_g axis slope upward before threshold choice entry a5_table
below_all = tt

below_at : (k : ℕ) → k < 28 → (c : Spot) → Hold (Ends 2 k c) → Hold (Triangle 2 k c) → Hold (Below k c)
below_at k h c e t =
    hold (Below k c) (over_at 2 k (λ c. pass (Below k c)) (at 28 (λ k. over 2 k (λ c. pass (Below k c))) below_all k h) c e t)

abbrev Last : ℕ → ℕ → List Claim
Last k d = eq (last_of (tile_of k d)) d ∷ []

last_all : T (all 28 4 Last)
unfolding all tested last_of tile_of kinds
last_all = tt

last_at : (k d : ℕ) → k < 28 → d < 4 → last_of (tile_of k d) ≡ d
last_at k d h l = (each 28 4 Last last_all k d h l).0

-- the tiles above the axioms'
abbrev First : Axiom → Spot → List Claim
First x c = eq (tile_below (32 + order x) (turn c)) (tile_at (first x) c) ∷ eq (digit_below (32 + order x) (turn c)) 0 ∷ []

first_all : (x : Axiom) → T (over 1 (first x) (λ c. pass (First x c)))
unfolding tested over implies tile_of kinds tile_at turn_of tile_below digit_below entry_below tile_words leaf_of same leaf before_x before_y before_g skew wide_x wide_y wide_g leaf_x leaf_y leaf_g entry a5_table
first_all axiom_a = tt
first_all axiom_c = tt
first_all axiom_b = tt

first_at : (x : Axiom) (c : Spot) → Hold (Ends 1 (first x) c) → Hold (Triangle 1 (first x) c) → Hold (First x c)
first_at x c e t = hold (First x c) (over_at 1 (first x) (λ c. pass (First x c)) (first_all x) c e t)

-- ---- a spot's numbers, and those that the search reads: they differ by whole multiples of the scale
record Apart (n : ℕ) (u p : Spot) : Type 0 where
  ex : ℕ
  ey : ℕ
  eg : ℕ
  far_x : u.x ≡ p.x + ex * 2 ^ n
  far_y : u.y ≡ p.y + ey * 2 ^ n
  far_g : u.g ≡ p.g + eg * 2 ^ n

module _ (n : ℕ) where
  past : (x e : ℕ) → (x + e * 2 ^ suc n) / 2 ^ n ≡ x / 2 ^ n + 2 * e
  past x e =
      let m : x + e * 2 ^ suc n ≡ x + 2 * e * 2 ^ n = rw (twice_power n) (omega arith) in
      ap (λ m. m / 2 ^ n) m ∙ N.add-mul-div_right x (2 * e) (two_power n)

  turns : (x y g a b c : ℕ) → turn_of (x + 2 * a) (y + 2 * b) (g + 2 * c) ≡ turn_of x y g
  unfolding turn_of
  turns x y g a b c =
      let i : (x + 2 * a + (g + 2 * c)) % 2 ≡ (x + g) % 2 = omega arith in
      let j : (y + 2 * b + (g + 2 * c)) % 2 ≡ (y + g) % 2 = omega arith in
      rw (i, j)

  turn_same : (u p : Spot) → Apart (suc n) u p → turn_at n u ≡ turn (coarse (2 ^ n) p)
  unfolding turn_at coarse
  turn_same u p a =
      rw (a.far_x, a.far_y, a.far_g, past p.x a.ex, past p.y a.ey, past p.g a.eg) (turns _ _ _ a.ex a.ey a.eg)

  half_coarse : (p : Spot) → half (coarse (2 ^ n) p) ≡ coarse (2 ^ suc n) p
  unfolding half coarse
  half_coarse p = spot_is (one p.x) (one p.y) (one p.g)
    where
      one : (x : ℕ) → x / 2 ^ n / 2 ≡ x / 2 ^ suc n
      one x = N.div-div-eq-div-mul x (2 ^ n) 2 ∙ ap (λ m. x / m) (let e : 2 ^ n * 2 ≡ 2 ^ suc n = omega arith in e)

  module _ (k d : ℕ) (p : Spot) (e : moved (2 ^ n) k d (back (2 ^ n) k d p) ≡ p) where
    coarse_less : coarse (2 ^ n) (back (2 ^ n) k d p) ≡ less k d (coarse (2 ^ n) p)
    unfolding coarse less moved back
    coarse_less = spot_is (one _ (at_x k d) (ap (λ p. p.x) e)) (one _ (at_y k d) (ap (λ p. p.y) e)) (one _ (at_g k d) (ap (λ p. p.g) e))
      where
        one : {x : ℕ} (y a : ℕ) → y + a * 2 ^ n ≡ x → y / 2 ^ n ≡ x / 2 ^ n - a
        one {x} y a e = let q : x / 2 ^ n ≡ y / 2 ^ n + a = ap (λ m. m / 2 ^ n) (sym e) ∙ N.add-mul-div_right y a (two_power n) in omega (arith, q)

    apart_back : (u : Spot) → Apart (suc n) u p → Apart n u (back (2 ^ n) k d p)
    unfolding moved back
    apart_back u a =
        record {
          ex = 2 * a.ex + at_x k d;
          ey = 2 * a.ey + at_y k d;
          eg = 2 * a.eg + at_g k d;
          far_x = one _ a.ex _ a.far_x (ap (λ p. p.x) e);
          far_y = one _ a.ey _ a.far_y (ap (λ p. p.y) e);
          far_g = one _ a.eg _ a.far_g (ap (λ p. p.g) e);
        }
      where
        one : {u x : ℕ} (y e b : ℕ) → u ≡ x + e * 2 ^ suc n → y + b * 2 ^ n ≡ x → u ≡ y + (2 * e + b) * 2 ^ n
        one {u} {x} y e b f g = omega (arith, f, g, twice_power n, ap (λ m. e * m) (twice_power n))

-- ---- level by level
gathered : (s d m f : ℕ) → (4 * s + d) * m + f ≡ s * (4 * m) + (d * m + f)
gathered s d m f = omega arith

rowed : (t : ℕ) → 64 * t / 64 ≡ t
rowed t = omega arith

-- a level down, by what is known of the tile
below_is : (t s i u d : ℕ) → tile_below t i ≡ u → digit_below t i ≡ d → below (record { row = 64 * t; s = s }) i ≡ record { row = 64 * u; s = 4 * s + d }
unfolding below
below_is t s i u d e f =
    let a = ap (λ t. tile_below t i) (rowed t) ∙ e in
    let b = ap (λ t. digit_below t i) (rowed t) ∙ f in
    λ j. record { row = 64 * a j; s = 4 * s + b j }

own_last : (k : ℕ) (p : Spot) → k < 28 → leaf_of k p < 4 → last_of (64 * tile_at k (coarse (2 ^ 0) p) / 64) ≡ leaf_of k p
unfolding tile_at coarse
own_last k p h l =
    ap last_of (rowed _) ∙ ap (λ c. last_of (tile_of k (leaf_of k c))) (spot_is (N.div-one p.x) (N.div-one p.y) (N.div-one p.g)) ∙ last_at k (leaf_of k p) h l

own_turn : (n : ℕ) (u : Spot) → turn_at n u ≡ turn (coarse (2 ^ n) u)
unfolding turn_at coarse
own_turn n u = refl

find_digits : (n k s : ℕ) (u p : Spot) → k < 28 → In (2 ^ n) k p → Apart n u p
    → digits_after n u (record { row = 64 * tile_at k (coarse (2 ^ n) p); s = s }) ≡ s * 4 ^ suc n + find n k p
unfolding digits_after find
find_digits zero k s u p h i a = omega (arith, own_last k p h (leaf_found k p h i).0)
find_digits (suc n) k s u p h i a =
    let j = rw twice_power at i in
    let z = two_power n in
    let c = coarse (2 ^ n) p in
    let e = coarse_ends (2 ^ n) k z p j in
    let t = coarse_triangle (2 ^ n) k z p j in
    let d = pick k c in
    let w = pick_in k h c e t in
    let b = below_at k h c e t in
    let m = moved_back (2 ^ n) k d z h w.0 p w.1 in
    let half = ap (tile_at k) (sym (half_coarse n p)) in
    let turn = turn_same n u p a in
    let tile : tile_below (tile_at k (coarse (2 ^ suc n) p)) (turn_at n u) ≡ tile_at (child_state k d) (coarse (2 ^ n) (back (2 ^ n) k d p)) =
    rw (half, turn) (b.0 ∙ ap (tile_at (child_state k d)) (sym (coarse_less n k d p m))) in
    let digit : digit_below (tile_at k (coarse (2 ^ suc n) p)) (turn_at n u) ≡ d = rw (half, turn) b.1.0 in
    let r = find_digits n (child_state k d) (4 * s + d) u (back (2 ^ n) k d p) (down k d h w.0).0 (back_in (2 ^ n) k d z h w.0 p w.1 j) (apart_back n k d p m u a) in
    ap (digits_after n u) (below_is _ s _ _ d tile digit)
    ∙ r ∙ gathered s d (4 ^ suc n) _ ∙ ap (λ m. s * m + (d * 4 ^ suc n + find n (child_state k d) (back (2 ^ n) k d p))) (sym (four_times_power (suc n)))

-- ---- from the tile above an axiom's
none : (m f : ℕ) → 0 * m + f ≡ f
none m f = omega arith

pub digits_position : (x : Axiom) (n : ℕ) (t : Triple) → is_in_bounds (suc n) t ≡ true → digits_after (suc n) (spot_at n t) (on_tile (32 + order x)) ≡ position x n t
unfolding position digits_after
digits_position x n t b =
    let p = spot_at n t in
    let i = axiom_in x n t b in
    let c = coarse (2 ^ n) p in
    let f = first_at x c (own_ends (2 ^ n) (first x) (two_power n) p i) (own_triangle (2 ^ n) (first x) (two_power n) p i) in
    let r = find_digits n (first x) 0 p p (shape x).is_state i (record { ex = 0; ey = 0; eg = 0; far_x = omega arith; far_y = omega arith; far_g = omega arith }) in
    let tile = ap (tile_below (32 + order x)) (own_turn n p) ∙ f.0 in
    let digit = ap (digit_below (32 + order x)) (own_turn n p) ∙ f.1.0 in
    ap (digits_after n p) (below_is (32 + order x) 0 (turn_at n p) _ 0 tile digit) ∙ r ∙ none (4 ^ suc n) _
