-- The code's descent: a place keeps room for the levels below it, and what it reaches is what following A5's table reaches.
use Rattle.std.proofs.Common.{◌≡◌, ℕ, zero, suc, ◌+◌, ◌-◌, ◌*◌, ◌/◌, ◌%◌, ◌^◌, ◌<◌, ◌≤◌, T, List, [], ◌∷◌, ℤ, pos, ◌+ℤ◌, ◌*ℤ◌, nat_abs, sym, refl, ap, ◌∙◌, arith, lit≤, w64, SFits}
use native.Mathlib.Nat as N
use Rattle.whole.proofs.Digits.{four_times_power}
use Rattle.whole.proofs.Powers.{four_by_shift}
use Rattle.whole.proofs.View.{View, rd, view, v_var, v_abs, v_add, v_mul, v_bits, eq_by, fits}
use Rattle.whole.proofs.Claims.{Claim, lt, le, int, Hold, below, all, each}
use Rattle.turtle.specs.declared.AB.{AB}
use Rattle.turtle.specs.Plane.{ab, origin, ◌⊕◌, thrice, doubled}
use Rattle.turtle.proofs.CornerLaws.{pair_is}
use Rattle.tables.proofs.HornerLaws.{origin_doubled, twice_place, follow_twice, twice_size, room_twice, room_now}
use Rattle.tables.specs.Descent as Table
use Rattle.tables.specs.Descent.{entry, child_at, offset_at, sum_at, flavor_at, follow}
use Rattle.a5.specs.A5Table.{a5_table}
use Rattle.a5.proofs.A5Entries.{leaf_small}
use Rattle.nodes.specs.declared.descent.Place.{Place}
use Rattle.nodes.specs.declared.descent.Drawn.{Drawn}
use Rattle.nodes.specs.Inside.Descents.{step_at, leaf_at, down, leaf_from, descended, at_origin, start_of, Room, Exact}

-- ---- a child's state is a state, its offset is small, and a leaf's flavor is a natural number
abbrev Entries : ℕ → ℕ → List Claim
Entries k d =
    lt (nat_abs (child_at a5_table k d)) 28 ∷ le (nat_abs (offset_at a5_table k d).a) 16 ∷ le (nat_abs (offset_at a5_table k d).b) 16
    ∷ int (pos (nat_abs (flavor_at a5_table k d))) (flavor_at a5_table k d) ∷ []

entries_all : T (all 28 4 Entries)
unfolding all below entry a5_table
entries_all = tt

pub entries : (k d : ℕ) → k < 28 → d < 4 → Hold (Entries k d)
entries = each 28 4 Entries entries_all

-- ---- room for the levels below
module _ (most : ℕ) where
  room_down : (k : ℕ) (p : Place) (d : ℕ) → Room most (suc k) p → d < 4 → Room most k (down p d)
  unfolding down step_at
  room_down k p d n l =
      let c = entries p.state d n.state l in
      record {
        state = c.0;
        a = room_twice 16 most k (nat_abs p.a) _ (twice_size 16 p.a _ c.1.0) n.a;
        b = room_twice 16 most k (nat_abs p.b) _ (twice_size 16 p.b _ c.1.1.0) n.b;
      }

  -- room for more levels is room for none
  pub room_here : (k : ℕ) (p : Place) → Room most k p → Room most 0 p
  room_here k p n = record { state = n.state; a = room_now 16 most k _ n.a; b = room_now 16 most k _ n.b }

  room_descended : (n s : ℕ) (p : Place) → Room most n p → Room most 0 (descended n s p)
  unfolding descended
  room_descended zero s p h = h
  room_descended (suc n) s p h = room_descended n s _ (room_down n p _ h (omega arith))

pub room_wider : (p : Place) (k : ℕ) → Room (2 ^ 34) k p → Room (2 ^ 37) k p
room_wider p k n = record { state = n.state; a = N.le_trans n.a (lit≤ tt); b = N.le_trans n.b (lit≤ tt) }

origin_room : (k state : ℕ) → state < 28 → k ≤ 30 → Room (2 ^ 34) k (at_origin state)
origin_room k state h l =
    let p : 2 ^ k ≤ 2 ^ 30 = N.pow-le-pow_right (omega arith) l in
    record { state = h; a = omega (arith, p); b = omega (arith, p) }

pub room_origin : (k state : ℕ) → state < 28 → k ≤ 30 → Room (2 ^ 37) k (at_origin state)
room_origin k state h l = room_wider _ k (origin_room k state h l)

-- where a descent from the origin ends
pub end_room : (k n s : ℕ) → k < 28 → n ≤ 30 → Room (2 ^ 34) 0 (descended n s (at_origin k))
end_room k n s h l = room_descended (2 ^ 34) n s (at_origin k) (origin_room n k h l)

size : (m : ℕ) → (m + 16) * 2 ^ 0 ≤ 2 ^ 37 → m + 16 ≤ 2 ^ 37
size m h = omega arith

-- ---- the sums of a step and of a leaf, as the code has them
abbrev v_coordinate : (x : ℤ) → (nat_abs x + 16) * 2 ^ 0 ≤ 2 ^ 37 → View x
v_coordinate x h = v_abs x (2 ^ 37) (omega (arith, size (nat_abs x) h))

-- m times a coordinate, and an offset, as the machine adds them up
abbrev Machine : ℕ → ℤ → ℤ → ℤ
Machine m x o = rd w64 (pos m *ℤ rd w64 x) +ℤ rd w64 o

module _ (x o : ℤ) (h : (nat_abs x + 16) * 2 ^ 0 ≤ 2 ^ 37) (l : nat_abs o ≤ 32) where
  abbrev v_machine : (m : ℕ) → View (Machine m x o)
  v_machine m = v_add (v_bits w64 _ (v_mul m (v_bits w64 x (v_coordinate x h)))) (v_bits w64 o (v_abs o 32 l))

  abbrev v_sum : (m : ℕ) → View (pos m *ℤ x +ℤ o)
  v_sum m = v_add (v_mul m (v_coordinate x h)) (v_abs o 32 l)

  twice_fits : SFits w64 (Machine 2 x o)
  twice_fits = fits (v_machine 2) tt

  thrice_fits : SFits w64 (Machine 3 x o)
  thrice_fits = fits (v_machine 3) tt

  twice_is : rd w64 (Machine 2 x o) ≡ pos 2 *ℤ x +ℤ o
  twice_is = eq_by (v_bits w64 _ (v_machine 2)) (v_sum 2) tt (omega arith)

  thrice_is : rd w64 (Machine 3 x o) ≡ pos 3 *ℤ x +ℤ o
  thrice_is = eq_by (v_bits w64 _ (v_machine 3)) (v_sum 3) tt (omega arith)

module _ (p : Place) (n : Room (2 ^ 37) 0 p) (d : ℕ) (l : d < 4) where
  module _ {t : Place} (e : t ≡ step_at p.state d) where
    step_small : (nat_abs t.a ≤ 32) × (nat_abs t.b ≤ 32)
    unfolding step_at
    step_small =
        let c = entries p.state d n.state l in
        (rw e (omega (arith, c.1.0)), rw e (omega (arith, c.1.1.0)))

    pub step_fits_a : SFits w64 (Machine 2 p.a t.a)
    step_fits_a = twice_fits p.a t.a n.a step_small.0

    pub step_fits_b : SFits w64 (Machine 2 p.b t.b)
    step_fits_b = twice_fits p.b t.b n.b step_small.1

    pub stepped_down : ◌≡◌ {A = Place} (record { a = rd w64 (Machine 2 p.a t.a); b = rd w64 (Machine 2 p.b t.b); state = t.state }) (down p d)
    unfolding down
    stepped_down =
        let a = twice_is p.a t.a n.a step_small.0 ∙ ap (λ (t : Place). pos 2 *ℤ p.a +ℤ t.a) e in
        let b = twice_is p.b t.b n.b step_small.1 ∙ ap (λ (t : Place). pos 2 *ℤ p.b +ℤ t.b) e in
        λ i. record { a = a i; b = b i; state = (e i).state }

  module _ {t : Drawn} (e : t ≡ leaf_at p.state d) where
    sum_small : (nat_abs t.sum.a ≤ 32) × (nat_abs t.sum.b ≤ 32)
    unfolding leaf_at
    sum_small =
        let c = leaf_small p.state d n.state l in
        (rw e c.0, rw e c.1.0)

    pub sum_fits_a : SFits w64 (Machine 3 p.a t.sum.a)
    sum_fits_a = thrice_fits p.a t.sum.a n.a sum_small.0

    pub sum_fits_b : SFits w64 (Machine 3 p.b t.sum.b)
    sum_fits_b = thrice_fits p.b t.sum.b n.b sum_small.1

    pub leaf_drawn : {s : AB} → s ≡ ab (rd w64 (Machine 3 p.a t.sum.a)) (rd w64 (Machine 3 p.b t.sum.b)) → ◌≡◌ {A = Drawn} (record { sum = s; flavor = t.flavor }) (leaf_from p d)
    unfolding leaf_from
    leaf_drawn es =
        let a = thrice_is p.a t.sum.a n.a sum_small.0 ∙ ap (λ (t : Drawn). pos 3 *ℤ p.a +ℤ t.sum.a) e in
        let b = thrice_is p.b t.sum.b n.b sum_small.1 ∙ ap (λ (t : Drawn). pos 3 *ℤ p.b +ℤ t.sum.b) e in
        let s = es ∙ pair_is a b in
        λ i. record { sum = s i; flavor = (e i).flavor }

pub ruleset stepping = (step_fits_a, step_fits_b, stepped_down, sum_fits_a, sum_fits_b, leaf_drawn)

-- ---- the loop: one digit fewer is left
four_more : (s k : ℕ) → 4 * s / 4 ^ suc k ≡ s / 4 ^ k
four_more s k =
    let e : 4 * s / 4 ≡ s = omega arith in
    rw (four_times_power k) (sym (N.div-div-eq-div-mul (4 * s) 4 (4 ^ k)) ∙ ap (λ m. m / 4 ^ k) e)

module _ (k s : ℕ) (p : Place) where
  module _ (h : 0 < k) {d : ℕ} (ed : d ≡ s / 2 ^ (2 * (k - 1)) % 4) {q : Place} (e : q ≡ down p d) where
    pub room_step : Room (2 ^ 37) k p → Room (2 ^ 37) (k - 1) q
    room_step n = rw (e, ed) (go k h n (s / 2 ^ (2 * (k - 1))))
      where
        go : (k : ℕ) → 0 < k → Room (2 ^ 37) k p → (d : ℕ) → Room (2 ^ 37) (k - 1) (down p (d % 4))
        go zero h n d = absurd (N.not-suc-le-zero h)
        go (suc k) h n d = let f : suc k - 1 ≡ k = omega arith in rw f (room_down (2 ^ 37) k p _ n (omega arith))

    pub descended_step : {r : Place} → descended k (4 * s) p ≡ r → descended (k - 1) (4 * s) q ≡ r
    unfolding descended
    descended_step f = rw (e, ed, four_by_shift (k - 1)) (go k h) ∙ f
      where
        go : (k : ℕ) → 0 < k → descended (k - 1) (4 * s) (down p (s / 4 ^ (k - 1) % 4)) ≡ descended k (4 * s) p
        go zero h = absurd (N.not-suc-le-zero h)
        go (suc k) h =
            let f : suc k - 1 ≡ k = omega arith in
            let g : 4 * s / 4 ^ suc k ≡ s / 4 ^ k = four_more s k in
            rw (f, g)

  pub descended_none : k ≤ 0 → {r : Place} → descended k s p ≡ r → p ≡ r
  unfolding descended
  descended_none h f = let z : k ≡ 0 = omega arith in sym (rw z) ∙ f

pub ruleset descents = (room_here, room_origin, room_step, descended_step, descended_none)

-- ---- what following the table reaches
unfoldable pub leaf_of : Place → ℕ → Table.Leaf
leaf_of p d = record { sum = thrice (start_of p) ⊕ sum_at a5_table p.state d; flavor = flavor_at a5_table p.state d }

-- the code's leaf
thrice_sum : (x o : ℤ) → pos 3 *ℤ x +ℤ o ≡ x +ℤ x +ℤ x +ℤ o
thrice_sum x o =
    let vx = v_var x in
    let vo = v_var o in
    eq_by (search view) (search view) tt (omega arith)

module _ (p : Place) (d : ℕ) (h : p.state < 28) (l : d < 4) where
  pub leaf_sum_of : (leaf_from p d).sum ≡ (leaf_of p d).sum
  unfolding leaf_from leaf_at leaf_of thrice ◌⊕◌
  leaf_sum_of = pair_is (thrice_sum p.a _) (thrice_sum p.b _)

  pub leaf_flavor_of : pos (leaf_from p d).flavor ≡ (leaf_of p d).flavor
  unfolding leaf_from leaf_at leaf_of
  leaf_flavor_of = (entries p.state d h l).1.1.1.0

twice_start : (p : Place) (d : ℕ) → start_of (down p d) ≡ start_of p ⊕ start_of p ⊕ offset_at a5_table p.state d
unfolding down step_at
twice_start p d = twice_place (start_of p) (offset_at a5_table p.state d)

down_state : (p : Place) (d : ℕ) → (down p d).state ≡ nat_abs (child_at a5_table p.state d)
unfolding down step_at
down_state p d = refl

follow_descended : (n s : ℕ) (p : Place) → follow a5_table n (doubled n (start_of p)) p.state s ≡ leaf_of (descended n s p) (s % 4)
unfolding follow descended leaf_of doubled
follow_descended zero s p = refl
follow_descended (suc n) s p =
    let d = s / 4 ^ suc n % 4 in
    follow_twice a5_table n s p.state (start_of p) d refl
    ∙ ap (λ v. follow a5_table n (doubled n v) (nat_abs (child_at a5_table p.state d)) s) (sym (twice_start p d))
    ∙ ap (λ k. follow a5_table n (doubled n (start_of (down p d))) k s) (sym (down_state p d))
    ∙ follow_descended n s (down p d)

-- the table's descent from the origin ends there
pub follow_end : (k n s : ℕ) → leaf_of (descended n s (at_origin k)) (s % 4) ≡ follow a5_table n origin k s
follow_end k n s = sym (follow_descended n s (at_origin k)) ∙ ap (λ v. follow a5_table n v k s) (origin_doubled n)

-- ---- coordinates that an f64 holds: of a place with room, and of one a level below it
pub room_exact : (p : Place) → Room (2 ^ 37) 0 p → Exact p
room_exact p n = record { a = omega (arith, size (nat_abs p.a) n.a); b = omega (arith, size (nat_abs p.b) n.b) }

pub down_exact : (p : Place) (d : ℕ) → Room (2 ^ 37) 0 p → d < 4 → Exact (down p d)
unfolding down step_at
down_exact p d n l =
    let c = entries p.state d n.state l in
    record {
      a = omega (arith, size (nat_abs p.a) n.a, twice_size 16 p.a (offset_at a5_table p.state d).a c.1.0);
      b = omega (arith, size (nat_abs p.b) n.b, twice_size 16 p.b (offset_at a5_table p.state d).b c.1.1.0);
    }
