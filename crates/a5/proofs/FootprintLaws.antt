-- The walk and the lookup undo each other on a state's footprint: a level is the children's footprints, of which each spot lies in exactly one,
-- as its triangle of their scale says. No interval is closed and nothing is counted.
use mathlib.Core.Path.{◌≡◌, sym, ap, ◌∙◌}
use Prim.Native.Nat.{ℕ, zero, suc, ◌+◌, ◌*◌, ◌/◌, ◌%◌, ◌^◌, ◌<◌, ◌≤◌}
use native.Mathlib.Omega.{arith}
use native.Mathlib.Nat as N
use Rattle.whole.proofs.Digits.{two_power, four_power, twice_power, four_times_power, one_digit_more, digit_low, digit_top, digit_and_rest, digit_below}
use Rattle.whole.proofs.Claims.{Hold}
use Rattle.a5.specs.Lookup.{child_state}
use Rattle.a5.specs.Inside.Footprints.{skew, wide_x, wide_y, wide_g, at_x, at_y, at_g}
use Rattle.a5.specs.Inside.Spots.{Spot, spot, In, parity, HasParity, moved, leaf, walk}
use Rattle.a5.proofs.Finds.{back, coarse, pick, leaf_of, find}
use Rattle.a5.proofs.FootprintChecks.{down, Within, Triangle, Ends, pick_in, pick_only, leaf_at, own}

pub spot_is : {p q : Spot} → p.x ≡ q.x → p.y ≡ q.y → p.g ≡ q.g → p ≡ q
spot_is a b c = λ i. spot (a i) (b i) (c i)

pub parity_is : (n k : ℕ) (p : Spot) → In n k p → HasParity n k p (parity n k p) × (parity n k p ≤ 1)
parity_is n k p i = (omega (arith, i.high), omega (arith, i.low))

-- ---- numbers at two scales
scaled_up : (n w w' e x : ℕ) → e + w' ≤ 2 * w → x < w' * n → x + e * n < w * (2 * n)
scaled_up n w w' e x h l = omega (arith, N.mul-le-mul_right n h)

quotient_low : (n x : ℕ) → x / n * n ≤ x
quotient_low n x = omega (arith, N.div-add-mod' x n)

quotient_high : (n x : ℕ) → 0 < n → x < x / n * n + n
quotient_high n x p = omega (arith, N.div-add-mod' x n, N.mod-lt x p)

whole_multiples : (n a b : ℕ) → a * n < b * n + n → a ≤ b
whole_multiples n a b h = let l : a < suc b = N.lt_of_mul-lt-mul_right n (omega (arith, N.suc-mul b n)) in omega arith

-- a number is in a child's part: at the spot, and at its triangle
part : (n e w x : ℕ) → 0 < n → e * n ≤ x → x < (e + w) * n → (e ≤ x / n) × (x / n < e + w)
part n e w x z h l = ((N.le-div_iff_mul-le z).1 h, (N.div-lt_iff_lt-mul z).1 l)

part_of : (n e w x : ℕ) → 0 < n → e ≤ x / n → x / n < e + w → (e * n ≤ x) × (x < (e + w) * n)
part_of n e w x z h l = ((N.le-div_iff_mul-le z).0 h, (N.div-lt_iff_lt-mul z).0 l)

-- ---- one level
-- a footprint of a scale, at the c times finer scale n
module _ (c n k : ℕ) (z : 0 < n) (p : Spot) (i : In (c * n) k p) where
  finer : (w : ℕ) → w * (c * n) ≡ c * w * n
  finer w = sym (N.mul_assoc w c n) ∙ ap (λ m. m * n) (N.mul_comm w c)

  ends_at : Hold (Ends c k (coarse n p))
  unfolding coarse
  ends_at = (
    (N.div-lt_iff_lt-mul z).1 (omega (arith, i.in_x, finer (wide_x k))),
    ((N.div-lt_iff_lt-mul z).1 (omega (arith, i.in_y, finer (wide_y k))), ((N.div-lt_iff_lt-mul z).1 (omega (arith, i.in_g, finer (wide_g k))), tt)),
  )

  triangle_at : Hold (Triangle c k (coarse n p))
  unfolding coarse
  triangle_at =
      let x0 = quotient_low n p.x in
      let x1 = quotient_high n p.x z in
      let y0 = quotient_low n p.y in
      let y1 = quotient_high n p.y z in
      let g0 = quotient_low n p.g in
      let g1 = quotient_high n p.g z in
      let e = finer (skew k) in (
        whole_multiples n (p.x / n + p.y / n) (p.g / n + c * skew k) (omega (arith, i.low)),
        (whole_multiples n (p.g / n + c * skew k) (p.x / n + p.y / n + 1) (omega (arith, i.high)), tt),
      )

-- at the children's scale, and at a footprint's own
module _ (n k : ℕ) (z : 0 < n) (p : Spot) where
  pub coarse_ends : In (2 * n) k p → Hold (Ends 2 k (coarse n p))
  coarse_ends i = ends_at 2 n k z p i

  pub coarse_triangle : In (2 * n) k p → Hold (Triangle 2 k (coarse n p))
  coarse_triangle i = triangle_at 2 n k z p i

  pub own_ends : In n k p → Hold (Ends 1 k (coarse n p))
  own_ends i = ends_at 1 n k z p (rw (N.one-mul n) i)

  pub own_triangle : In n k p → Hold (Triangle 1 k (coarse n p))
  own_triangle i = triangle_at 1 n k z p (rw (N.one-mul n) i)

module _ (n k d : ℕ) (z : 0 < n) (h : k < 28) (l : d < 4) (p : Spot) where
  pub moved_in : In n (child_state k d) p → In (2 * n) k (moved n k d p)
  unfolding moved
  moved_in i =
      let t = down k d h l in
      record {
        in_x = scaled_up n (wide_x k) _ (at_x k d) p.x t.1.0 i.in_x;
        in_y = scaled_up n (wide_y k) _ (at_y k d) p.y t.1.1.0 i.in_y;
        in_g = scaled_up n (wide_g k) _ (at_g k d) p.g t.1.1.1.0 i.in_g;
        low = omega (arith, ap (λ m. m * n) t.1.1.1.1.0, i.low);
        high = omega (arith, ap (λ m. m * n) t.1.1.1.1.0, i.high);
      }

  pub moved_within : In n (child_state k d) p → Hold (Within k d (coarse n (moved n k d p)))
  unfolding moved coarse
  moved_within i =
      let a = part n (at_x k d) (wide_x (child_state k d)) (p.x + at_x k d * n) z (omega arith) (omega (arith, i.in_x)) in
      let b = part n (at_y k d) (wide_y (child_state k d)) (p.y + at_y k d * n) z (omega arith) (omega (arith, i.in_y)) in
      let c = part n (at_g k d) (wide_g (child_state k d)) (p.g + at_g k d * n) z (omega arith) (omega (arith, i.in_g)) in
      (a.0, (a.1, (b.0, (b.1, (c.0, (c.1, tt))))))

  pub back_moved : back n k d (moved n k d p) ≡ p
  unfolding moved back
  back_moved = spot_is (N.add-sub_cancel p.x _) (N.add-sub_cancel p.y _) (N.add-sub_cancel p.g _)

module _ (n k d : ℕ) (z : 0 < n) (h : k < 28) (l : d < 4) (p : Spot) (w : Hold (Within k d (coarse n p))) where
  pub moved_back : moved n k d (back n k d p) ≡ p
  unfolding moved back coarse
  moved_back =
      let a = part_of n (at_x k d) _ p.x z w.0 w.1.0 in
      let b = part_of n (at_y k d) _ p.y z w.1.1.0 w.1.1.1.0 in
      let c = part_of n (at_g k d) _ p.g z w.1.1.1.1.0 w.1.1.1.1.1.0 in
      spot_is (omega arith) (omega arith) (omega arith)

  pub back_in : In (2 * n) k p → In n (child_state k d) (back n k d p)
  unfolding back coarse
  back_in i =
      let t = ap (λ m. m * n) (down k d h l).1.1.1.1.0 in
      let a = part_of n (at_x k d) _ p.x z w.0 w.1.0 in
      let b = part_of n (at_y k d) _ p.y z w.1.1.0 w.1.1.1.0 in
      let c = part_of n (at_g k d) _ p.g z w.1.1.1.1.0 w.1.1.1.1.1.0 in
      let i0 = i.low in
      let i1 = i.high in
      record { in_x = omega arith; in_y = omega arith; in_g = omega arith; low = omega arith; high = omega arith }

-- ---- all levels
-- the walk looks at the last 1 + n digits
pub walk_low : (n k c s : ℕ) → walk n k (c * 4 ^ suc n + s) ≡ walk n k s
unfolding walk
walk_low zero k c s = let e : (c * 4 ^ 1 + s) % 4 ≡ s % 4 = omega arith in rw e
walk_low (suc n) k c s = rw (one_digit_more (suc n) c s, digit_low (4 ^ suc n) c s (four_power (suc n)), walk_low n _ (c * 4) s)

-- every cell is in the footprint
pub walk_in : (n k s : ℕ) → k < 28 → In (2 ^ n) k (walk n k s)
unfolding walk leaf
walk_in zero k s h =
    let t = own k (s % 4) h (omega arith) in
    record { in_x = omega arith; in_y = omega arith; in_g = omega arith; low = omega arith; high = omega arith }
walk_in (suc n) k s h =
    let l : s / 4 ^ suc n % 4 < 4 = omega arith in
    rw twice_power (moved_in (2 ^ n) k _ (two_power n) h l _ (walk_in n _ s (down k _ h l).0))

-- the lookup of a cell finds its place
pub find_walk : (n k s : ℕ) → k < 28 → find n k (walk n k s) ≡ s % 4 ^ suc n
unfolding walk find
find_walk zero k s h = (own k (s % 4) h (omega arith)).0
find_walk (suc n) k s h =
    let d = s / 4 ^ suc n % 4 in
    let l : d < 4 = omega arith in
    let q = walk n (child_state k d) s in
    let b : child_state k d < 28 = (down k d h l).0 in
    let j = walk_in n (child_state k d) s b in
    let i = moved_in (2 ^ n) k d (two_power n) h l q j in
    let e = pick_only k h _ (coarse_ends (2 ^ n) k (two_power n) _ i) (coarse_triangle (2 ^ n) k (two_power n) _ i) d l (moved_within (2 ^ n) k d (two_power n) h l q j) in
    rw (← e, back_moved (2 ^ n) k d (two_power n) h l q, find_walk n (child_state k d) s b, four_times_power (suc n)) (digit_and_rest s (4 ^ suc n) (four_power (suc n)))

-- the walk to the place of a spot of the footprint comes to it
pub leaf_found : (k : ℕ) (p : Spot) → k < 28 → In (2 ^ 0) k p → (leaf_of k p < 4) × (p ≡ leaf k (leaf_of k p))
unfolding leaf
leaf_found k p h i =
    let t = leaf_at k h p (omega (arith, i.in_x), (omega (arith, i.in_y), (omega (arith, i.in_g), tt))) (omega (arith, i.low), (omega (arith, i.high), tt)) in
    (t.0, spot_is t.1.0 t.1.1.0 t.1.1.1.0)

pub walk_find : (n k : ℕ) (p : Spot) → k < 28 → In (2 ^ n) k p → (find n k p < 4 ^ suc n) × (walk n k (find n k p) ≡ p)
unfolding walk find
walk_find zero k p h i =
    let t = leaf_found k p h i in
    let e : leaf_of k p % 4 ≡ leaf_of k p = omega arith in
    (omega arith, rw e (sym t.1))
walk_find (suc n) k p h i =
    let j = rw twice_power at i in
    let t = pick_in k h (coarse (2 ^ n) p) (coarse_ends (2 ^ n) k (two_power n) p j) (coarse_triangle (2 ^ n) k (two_power n) p j) in
    let d = pick k (coarse (2 ^ n) p) in
    let l : d < 4 = t.0 in
    let b : child_state k d < 28 = (down k d h l).0 in
    let r = walk_find n (child_state k d) (back (2 ^ n) k d p) b (back_in (2 ^ n) k d (two_power n) h l p t.1 j) in (
      rw (four_times_power (suc n)) (digit_below (4 ^ suc n) d _ l r.0),
      rw (digit_top (4 ^ suc n) d _ l r.0, walk_low n (child_state k d) d _, r.1) (moved_back (2 ^ n) k d (two_power n) h l p t.1),
    )
