-- The flavor of each cell is the closed formula of its triple. Its first bit is the parity; its second is that of y and the parity, which the last level alone can
-- turn, since all above it move y by even numbers: what a state's leaves turn, the place of its footprint in its parent's turns back.
use mathlib.Core.Path.{◌≡◌, refl, sym, ap, ◌∙◌, subst}
use mathlib.Core.List.{List, [], ◌∷◌}
use Prim.Native.Nat.{ℕ, zero, suc, ◌+◌, ◌-◌, ◌*◌, ◌/◌, ◌%◌, ◌^◌, ◌<◌}
use native.Mathlib.Omega.{arith}
use lib.Dec.{T}
use lib.IntN.{ℤ, pos, nat_abs}
use Rattle.whole.proofs.Parts.{abs_parts}
use Rattle.whole.proofs.View.{View, view, v_pos, v_add, v_neg, eq_by}
use Rattle.whole.proofs.Digits.{two_power, twice_power}
use Rattle.whole.proofs.Claims.{Claim, eq, Hold, below, all, each}
use Rattle.triple.specs.Triples.{sum_of, color_of, closed_flavor}
use Rattle.tables.specs.Descent.{entry}
use Rattle.a5.specs.A5Table.{a5_table}
use Rattle.a5.specs.Lookup.{child_state}
use Rattle.a5.specs.Inside.Footprints.{before_x, before_y, before_g, skew, begins, at_y, leaf_x, leaf_y, leaf_g, leaf_flavor}
use Rattle.a5.specs.Inside.Spots.{Spot, HasParity, parity, moved, leaf, walk, walk_flavor, triple_at}
use Rattle.a5.proofs.Axioms.{Axiom, axiom_a, axiom_c, axiom_b, first, shape}
use Rattle.a5.proofs.FootprintChecks.{down}
use Rattle.a5.proofs.FootprintLaws.{walk_in, parity_is}

-- whether the leaves turn the second bit, as the first one does
unfoldable odd : ℕ → ℕ
odd k = (leaf_flavor k 0 / 2 + leaf_flavor k 0 % 2 + leaf_y k 0) % 2

abbrev Turned : ℕ → ℕ → List Claim
Turned k d =
    eq ((at_y k d + odd (child_state k d)) % 2) 0
    ∷ eq (leaf_flavor k d) (parity 1 k (leaf k d) + 2 * ((leaf_y k d + parity 1 k (leaf k d) + odd k) % 2)) ∷ []

turned_all : T (all 28 4 Turned)
unfolding all below odd begins at_y before_x before_y before_g skew leaf leaf_x leaf_y leaf_g leaf_flavor entry a5_table
turned_all = tt

turned : (k d : ℕ) → k < 28 → d < 4 → Hold (Turned k d)
turned = each 28 4 Turned turned_all

-- ---- down the walk
unfoldable turn_at : ℕ → ℕ → ℕ
turn_at zero k = odd k
turn_at (suc n) k = 0

parity_down : (n k d : ℕ) (p : Spot) (q : ℕ) → k < 28 → d < 4 → HasParity (2 * n) k (moved n k d p) q → HasParity n (child_state k d) p q
unfolding moved
parity_down n k d p q h l e = omega (arith, ap (λ m. m * n) (down k d h l).1.1.1.1.0)

even : (a q b c : ℕ) → (a + q + 0) % 2 ≡ (a + b * (2 * c) + q + 0) % 2
even a q b c = omega arith

flavor_walk : (n k s q : ℕ) → k < 28 → HasParity (2 ^ n) k (walk n k s) q → walk_flavor n k s ≡ q + 2 * (((walk n k s).y + q + turn_at n k) % 2)
unfolding walk_flavor walk turn_at leaf moved
flavor_walk zero k s q h e =
    let t = (turned k (s % 4) h (omega arith)).1.0 in
    let r : parity 1 k (leaf k (s % 4)) ≡ q = omega arith in
    t ∙ ap (λ q. q + 2 * ((leaf_y k (s % 4) + q + odd k) % 2)) r
flavor_walk (suc zero) k s q h e =
    let d = s / 4 ^ 1 % 4 in
    let l : d < 4 = omega arith in
    let c = walk zero (child_state k d) s in
    let t = (turned k d h l).0 in
    let m : (c.y + q + odd (child_state k d)) % 2 ≡ (c.y + at_y k d * 2 ^ 0 + q + 0) % 2 = omega arith in
    flavor_walk zero (child_state k d) s q (down k d h l).0 (parity_down 1 k d c q h l e) ∙ ap (λ m. q + 2 * m) m
flavor_walk (suc (suc n)) k s q h e =
    let d = s / 4 ^ suc (suc n) % 4 in
    let l : d < 4 = omega arith in
    let c = walk (suc n) (child_state k d) s in
    let m : (c.y + q + 0) % 2 ≡ (c.y + at_y k d * 2 ^ suc n + q + 0) % 2 = even c.y q (at_y k d) (2 ^ n) ∙ ap (λ m. (c.y + at_y k d * m + q + 0) % 2) (sym (twice_power n)) in
    flavor_walk (suc n) (child_state k d) s q (down k d h l).0 (parity_down (2 ^ suc n) k d c q h l (subst (λ m. HasParity m k (moved (2 ^ suc n) k d c) q) (twice_power (suc n)) e)) ∙ ap (λ m. q + 2 * m) m

-- its first bit is the parity
pub flavor_parity : (n k s : ℕ) → k < 28 → HasParity (2 ^ n) k (walk n k s) (walk_flavor n k s % 2)
flavor_parity n k s h =
    let p = parity_is (2 ^ n) k (walk n k s) (walk_in n k s h) in
    let f = flavor_walk n k s (parity (2 ^ n) k (walk n k s)) h p.0 in
    let e : parity (2 ^ n) k (walk n k s) ≡ walk_flavor n k s % 2 = omega (arith, f, p.1) in
    subst (HasParity (2 ^ n) k (walk n k s)) e p.0

-- ---- the closed formula of a spot's triple
size_odd : {z : ℤ} (v : View z) → T v.ok → nat_abs z % 2 ≡ (v.p + v.n) % 2
size_odd {z} v t = let e = (v.is t).0 in rw (abs_parts z) (omega arith)

module _ (n : ℕ) (p : Spot) (q : ℕ) (e : q + (p.g + 2 * 2 ^ n) ≡ p.x + p.y + 1) where
  sum_parity : sum_of (triple_at n p) ≡ pos q
  unfolding triple_at
  sum_parity = eq_by (search view depth 9) (search view depth 9) tt (omega arith)

  color : color_of (suc n) (triple_at n p) ≡ (p.y + q + 0) % 2
  unfolding color_of triple_at
  color =
      let x = v_add (v_pos (p.x + 1)) (v_neg (v_pos (2 * 2 ^ n))) in
      size_odd (v_add (v_add (v_add (v_pos (2 ^ suc n - 1)) (v_pos 1)) x) (v_neg (v_pos p.g))) tt ∙ omega (arith, two_power n)

  closed : q + 2 * ((p.y + q + 0) % 2) ≡ closed_flavor (suc n) (triple_at n p)
  unfolding closed_flavor
  closed = sym (ap (λ z. nat_abs z + 2 * color_of (suc n) (triple_at n p)) sum_parity ∙ ap (λ m. q + 2 * m) color)

turn_first : (x : Axiom) (n : ℕ) → turn_at n (first x) ≡ 0
unfolding turn_at odd leaf_flavor leaf_y before_y entry a5_table
turn_first axiom_a zero = refl
turn_first axiom_c zero = refl
turn_first axiom_b zero = refl
turn_first x (suc n) = refl

pub flavor_closed : (x : Axiom) (n s : ℕ) → walk_flavor n (first x) s ≡ closed_flavor (suc n) (triple_at n (walk n (first x) s))
flavor_closed x n s =
    let k = first x in
    let h = (shape x).is_state in
    let p = walk n k s in
    let q = parity (2 ^ n) k p in
    let e = (parity_is (2 ^ n) k p (walk_in n k s h)).0 in
    flavor_walk n k s q h e ∙ ap (λ t. q + 2 * ((p.y + q + t) % 2)) (turn_first x n) ∙ closed n p q (subst (λ m. q + (p.g + m * 2 ^ n) ≡ p.x + p.y + 1) (shape x).shape_skew e)
