-- Walks by threes: three levels from anywhere are three levels from the beginning of the row, and eight times where it was; the rows above an axiom lead to it by any
-- digits; and a walk from the axiom ends where A5's walk does.
use mathlib.Core.Path.{◌≡◌, refl, sym, ap, ◌∙◌}
use Prim.Native.Nat.{ℕ, zero, suc, ◌+◌, ◌-◌, ◌*◌, ◌/◌, ◌%◌, ◌^◌, ◌<◌, ◌≤◌}
use native.Mathlib.Omega.{arith}
use native.Mathlib.Nat as N
use borrow.Author.Tests.{lt-ltb}
use Rattle.whole.proofs.Digits.{twice_power}
use Rattle.a5.specs.Lookup.{child_state}
use Rattle.a5.specs.Inside.Footprints.{at_x, at_y, leaf_x, leaf_y, leaf_flavor}
use Rattle.a5.specs.Inside.Spots.{moved, leaf, walk, walk_flavor}
use Rattle.a5.proofs.Axioms.{Axiom, axiom_a, axiom_c, axiom_b, first}
use Rattle.strides.specs.declared.Walk.{Walk}
use Rattle.strides.specs.declared.End.{End}
use Rattle.strides.specs.Inside.Sizes.{OnRow}
use Rattle.strides.specs.Walks.{state_in, row_below, begin_x, begin_y, on_row_of, down, at_leaf, end_after, three_down, end_below, walk_step, walk_end}
use Rattle.strides.proofs.Rows.{state_of, in_row, in_x, in_y, above_row, above_x, above_y, child_small, rowed, three_x, three_y, three_row, three_whole, end_x, end_y}

-- ---- from anywhere
eightfold : (x a b c : ℕ) → 8 * x + (2 * (2 * (2 * 0 + a) + b) + c) ≡ 2 * (2 * (2 * x + a) + b) + c
eightfold x a b c = omega arith

fourfold : (x a b c : ℕ) → 4 * x + (2 * (2 * 0 + a) + b + c) ≡ 2 * (2 * x + a) + b + c
fourfold x a b c = omega arith

abbrev begun : Walk → Walk
begun w = record { x = 0; y = 0; row = w.row }

three_from : (w : Walk) (c : ℕ) → let q = three_down (begun w) c in ◌≡◌ {A = Walk} (record { x = 8 * w.x + q.x; y = 8 * w.y + q.y; row = q.row }) (three_down w c)
unfolding three_down down
three_from w c = let a = eightfold w.x _ _ _ in let b = eightfold w.y _ _ _ in λ i. record { x = a i; y = b i; row = (three_down w c).row }

end_from : (w : Walk) (c : ℕ) → let e = end_below (begun w) c in ◌≡◌ {A = End} (record { x = 4 * w.x + e.x; flavor = e.flavor; y = 4 * w.y + e.y }) (end_below w c)
unfolding end_below at_leaf down
end_from w c = let a = fourfold w.x _ _ _ in let b = fourfold w.y _ _ _ in λ i. record { x = a i; flavor = (end_below w c).flavor; y = b i }

-- ---- what the tables have at a row's entry c
module _ (w : Walk) (c : ℕ) (r : OnRow w.row) (l : c < 64) where
  on_row : on_row_of ((w.row + c) / 64) ≡ begun w
  on_row = let e : 64 * ((w.row + c) / 64) ≡ w.row = omega (arith, r.first) in λ i. record { x = 0; y = 0; row = e i }

  within : w.row + c < 2368
  within = omega (arith, r.first, r.small)

  digits : (w.row + c) % 64 ≡ c
  digits = omega (arith, r.first)

  step_entry : walk_step (w.row + c) ≡ three_down (begun w) c
  unfolding walk_step
  step_entry = rw (lt-ltb (w.row + c) 2368 within) (λ i. three_down (on_row i) (digits i))

  end_entry : walk_end (w.row + c) ≡ end_below (begun w) c
  unfolding walk_end
  end_entry = rw (lt-ltb (w.row + c) 2368 within) (λ i. end_below (on_row i) (digits i))

  pub step_is : (q : Walk) → q ≡ walk_step (w.row + c) → ◌≡◌ {A = Walk} (record { x = 8 * w.x + q.x; y = 8 * w.y + q.y; row = q.row }) (three_down w c)
  step_is q e = let f = e ∙ step_entry in (λ i. record { x = 8 * w.x + (f i).x; y = 8 * w.y + (f i).y; row = (f i).row }) ∙ three_from w c

  pub end_is : (q : End) → q ≡ walk_end (w.row + c) → ◌≡◌ {A = End} (record { x = 4 * w.x + q.x; flavor = q.flavor; y = 4 * w.y + q.y }) (end_below w c)
  end_is q e = let f = e ∙ end_entry in (λ i. record { x = 4 * w.x + (f i).x; flavor = (f i).flavor; y = 4 * w.y + (f i).y }) ∙ end_from w c

-- ---- a step's numbers are small, and it leads to the beginning of a row
module _ (w : Walk) (c : ℕ) (r : OnRow w.row) (l : c < 64) where
  row_index : w.row / 64 < 37
  row_index = omega (arith, r.small)

  as_row : begun w ≡ on_row_of (w.row / 64)
  as_row = let e : w.row ≡ 64 * (w.row / 64) = omega (arith, r.first) in λ i. record { x = 0; y = 0; row = e i }

  pub step_small : (q : Walk) → q ≡ walk_step (w.row + c) → (q.x < 16) × ((q.y < 32) × OnRow q.row)
  step_small q e =
      let f = e ∙ step_entry w c r l ∙ ap (λ w. three_down w c) as_row in
      let k = w.row / 64 in
      let x = three_x k c row_index l in
      let y = three_y k c row_index l in
      let m = three_row k c row_index l in
      let n = three_whole (on_row_of k) c in
      rw f (x, (y, record { first = omega arith; small = omega arith }))

  pub end_small : (e : End) → e ≡ walk_end (w.row + c) → (e.x < 16) × (e.y < 32)
  end_small e f =
      let g = f ∙ end_entry w c r l ∙ ap (λ w. end_below w c) as_row in
      let x = end_x (w.row / 64) c l in
      let y = end_y (w.row / 64) c l in
      rw g (x, y)

-- ---- the loop: three digits fewer are left
three_digits : (a : ℕ) → (a % 64 / 16 ≡ a / 4 / 4 % 4) × ((a % 64 / 4 % 4 ≡ a / 4 % 4) × (a % 64 % 4 ≡ a % 4))
three_digits a = (omega arith, (omega arith, omega arith))

next_digit : (s k : ℕ) → s / 4 ^ k / 4 ≡ s / 4 ^ suc k
next_digit s k = N.div-div-eq-div-mul s (4 ^ k) 4 ∙ ap (λ m. s / m) (let e : 4 ^ k * 4 ≡ 4 ^ suc k = omega arith in e)

three_after : (n s : ℕ) (w : Walk) → end_after n s (three_down w (s / 4 ^ suc n % 64)) ≡ end_after (suc (suc (suc n))) s w
unfolding end_after three_down
three_after n s w =
    let t = three_digits (s / 4 ^ suc n) in
    rw (t.0, t.1.0, t.1.1, next_digit s (suc n), next_digit s (suc (suc n)))

pub after_step : (n s : ℕ) (w : Walk) → 3 ≤ n → end_after (n - 3 + 2) s (three_down w (s / 4 ^ n % 64)) ≡ end_after (n + 2) s w
after_step n s w h =
    let e : n ≡ suc (n - 1) = omega arith in
    let f : n - 3 + 2 ≡ n - 1 = omega arith in
    let g : n + 2 ≡ suc (suc (suc (n - 1))) = omega arith in
    rw (f, g) (ap (λ m. end_after (n - 1) s (three_down w (s / 4 ^ m % 64))) e ∙ three_after (n - 1) s w)

last_digits : (s : ℕ) → (s % 64 / 16 ≡ s / 4 ^ 2 % 4) × ((s % 64 / 4 % 4 ≡ s / 4 ^ 1 % 4) × (s % 64 % 4 ≡ s % 4))
last_digits s = (omega arith, (omega arith, omega arith))

pub after_end : (s : ℕ) (w : Walk) → end_below w (s % 64) ≡ end_after 2 s w
unfolding end_after end_below
after_end s w = let t = last_digits s in rw (t.0, t.1.0, t.1.1)

-- ---- from the rows above an axiom
above_down : (k d : ℕ) → 31 ≤ k → down (on_row_of k) d ≡ on_row_of (k - 3)
unfolding down
above_down k d h =
    let r = rowed k in
    let x = ap (λ m. begin_x m d) r ∙ above_x k d h in
    let y = ap (λ m. begin_y m d) r ∙ above_y k d h in
    let n = ap (λ m. row_below m d) r ∙ above_row k d h in
    λ i. record { x = 0 + x i; y = 0 + y i; row = 64 * n i }

pub after_above : (m n s j : ℕ) → end_after (n + m) s (on_row_of (28 + 3 * m + j)) ≡ end_after n s (on_row_of (28 + j))
unfolding end_after
after_above zero n s j =
    let e : n + 0 ≡ n = omega arith in
    let f : 28 + 3 * 0 + j ≡ 28 + j = omega arith in
    λ i. end_after (e i) s (on_row_of (f i))
after_above (suc m) n s j =
    let e : n + suc m ≡ suc (n + m) = omega arith in
    let f : 28 + 3 * suc m + j - 3 ≡ 28 + 3 * m + j = omega arith in
    rw e (ap (end_after (n + m) s) (above_down (28 + 3 * suc m + j) (s / 4 ^ suc (n + m) % 4) (omega arith) ∙ ap on_row_of f) ∙ after_above m n s j)

-- ---- it ends at the walk's spot
horner : (x a m w : ℕ) → (2 * x + a) * m + w ≡ x * (2 * m) + (w + a * m)
horner x a m w = omega arith

abbrev spot_end : ℕ → ℕ → ℕ → Walk → End
spot_end n k s w = let p = walk n k s in record { x = w.x * 2 ^ n + p.x; flavor = walk_flavor n k s; y = w.y * 2 ^ n + p.y }

down_at : (w : Walk) (d : ℕ) → w.row / 64 < 31
    → let k = state_in (w.row / 64) in ◌≡◌ {A = Walk} (down w d) (record { x = 2 * w.x + at_x k d; y = 2 * w.y + at_y k d; row = 64 * child_state k d })
unfolding down
down_at w d h = let k = w.row / 64 in λ i. record { x = 2 * w.x + in_x k d h i; y = 2 * w.y + in_y k d h i; row = 64 * in_row k d h i }

after_walk : (n s : ℕ) (w : Walk) → w.row / 64 < 31 → end_after n s w ≡ spot_end n (state_in (w.row / 64)) s w
unfolding end_after at_leaf walk walk_flavor leaf moved
after_walk zero s w h =
    let k = state_in (w.row / 64) in
    let x : w.x + leaf_x k (s % 4) ≡ w.x * 2 ^ 0 + leaf_x k (s % 4) = omega arith in
    let y : w.y + leaf_y k (s % 4) ≡ w.y * 2 ^ 0 + leaf_y k (s % 4) = omega arith in
    λ i. record { x = x i; flavor = leaf_flavor k (s % 4); y = y i }
after_walk (suc n) s w h =
    let k = state_in (w.row / 64) in
    let d = s / 4 ^ suc n % 4 in
    let c = child_state k d in
    let small : c < 28 = child_small (w.row / 64) d (omega arith) in
    let v : Walk = record { x = 2 * w.x + at_x k d; y = 2 * w.y + at_y k d; row = 64 * c } in
    let state : state_in (64 * c / 64) ≡ c = ap state_in (rowed c) ∙ state_of c small in
    let x = horner w.x (at_x k d) (2 ^ n) (walk n c s).x ∙ ap (λ m. w.x * m + ((walk n c s).x + at_x k d * 2 ^ n)) (sym (twice_power n)) in
    let y = horner w.y (at_y k d) (2 ^ n) (walk n c s).y ∙ ap (λ m. w.y * m + ((walk n c s).y + at_y k d * 2 ^ n)) (sym (twice_power n)) in
    ap (end_after n s) (down_at w d h) ∙ after_walk n s v (omega (arith, rowed c)) ∙ ap (λ k. spot_end n k s v) state ∙ (λ i. record { x = x i; flavor = walk_flavor n c s; y = y i })

-- ---- from an axiom
-- its number among A, C and B
abbrev pub order : Axiom → ℕ
order axiom_a = 0
order axiom_c = 1
order axiom_b = 2

row_state : (x : Axiom) → (64 * (28 + order x) / 64 < 31) × (state_in (64 * (28 + order x) / 64) ≡ first x)
unfolding state_in
row_state axiom_a = (omega arith, refl)
row_state axiom_c = (omega arith, refl)
row_state axiom_b = (omega arith, refl)

none : (m w : ℕ) → 0 * m + w ≡ w
none m w = omega arith

pub after_axiom : (x : Axiom) (n s : ℕ) → let p = walk n (first x) s in ◌≡◌ {A = End} (end_after n s (on_row_of (28 + order x))) (record { x = p.x; flavor = walk_flavor n (first x) s; y = p.y })
after_axiom x n s =
    let r = row_state x in
    let p = walk n (first x) s in
    after_walk n s (on_row_of (28 + order x)) r.0 ∙ ap (λ k. spot_end n k s (on_row_of (28 + order x))) r.1
    ∙ (λ i. record { x = none (2 ^ n) p.x i; flavor = walk_flavor n (first x) s; y = none (2 ^ n) p.y i })
