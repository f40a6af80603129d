-- What the definitions of a triple give in each case, from what the code has in hand in that case. An order of whole numbers is one of their parts above and below 0, which `omega` reads.
use mathlib.Core.Path.{◌≡◌, refl, sym, ap, ◌∙◌}
use mathlib.Core.Bool.{Bool, true, false, not, ◌&&◌}
use mathlib.Core.List.{List, [], ◌∷◌}
use Prim.Native.Nat.{ℕ, ◌+◌, ◌-◌, ◌*◌, ◌%◌, ◌^◌, ◌<◌, ◌≤◌}
use native.Mathlib.Omega.{arith}
use lib.Dec.{T, leb}
use lib.IntN.{ℤ, pos, negsuc, ◌+ℤ◌, nat_abs}
use lib.Signed.{lt_z, le_z, non_neg}
use mir.Syntax.{w8, w32, w64}
use mir.Val.{SFits, Fits}
use mir.ValLaws.{to_z-of_z}
use borrow.Author.Tests.{lt-ltb, le-ltb, le-leb, lt-leb, not-true, not-false}
use Rattle.std.specs.Prelude.{Result, Ok, Err}
use Rattle.whole.specs.Tests.{Test, ◌≤?◌}
use Rattle.whole.proofs.TestLaws.{Hold, true_pass, false_pass, pass_true}
use Rattle.whole.proofs.Parts.{up, dn, orders, add_parts}
use Rattle.whole.proofs.View.{View, rd, v_var, v_pos, v_upto, v_add, v_neg, v_same, v_in, v_bits, v_fit, v_most, eq_by, le_by, fits_by, fits_of, fact_of, lt_true, lt_false, le_true, le_false, nat_is, to_nat}
use Rattle.triple.specs.declared.Triple.{Triple}
use Rattle.triple.specs.declared.refusal.Refusal.{Refusal}
use Rattle.triple.specs.declared.refusal.Refusal.TheVariants.{Resolution, Sum, Bounds}
use Rattle.triple.specs.Refusals.{Told, told, refused, refuse, number_of, said}
use Rattle.triple.proofs.RefusalLaws.{refused_same}
use Rattle.triple.specs.Triples.{sum_of, good_sum, max_row, bounds, is_in_bounds, parity_of, color_of, closed_flavor, flavor_of}
use Rattle.triple.proofs.DomainLaws.{rows_most}

-- ---- what a test of two numbers tells, by their views
less : {a b : ℤ} (l : View a) (m : View b) → T (l.ok && m.ok) → lt_z a b ≡ true → l.p + m.n < m.p + l.n
less {a} {b} l m t e = fact_of (lt_true a b e) l m t

not_less : {a b : ℤ} (l : View a) (m : View b) → T (m.ok && l.ok) → lt_z a b ≡ false → m.p + l.n ≤ l.p + m.n
not_less {a} {b} l m t e = fact_of (lt_false a b e) m l t

-- ---- an i64, as the code reads it back
abbrev read : ℤ → ℤ
read x = rd w64 x

abbrev v_read : (x : ℤ) → SFits w64 x → View (read x)
v_read x f = v_in f (v_var x)

-- no sum of a number from 0 up and one from 0 down wraps
pub mixed_fits : (a b : ℤ) → SFits w64 a → SFits w64 b → lt_z (read a) (pos 0) ≡ false → lt_z (pos 0) (read b) ≡ false → SFits w64 (read a +ℤ read b)
mixed_fits a b fa fb ha hb =
    let low = not_less (v_read a fa) (v_pos 0) tt ha in
    let high = not_less (v_pos 0) (v_read b fb) tt hb in
    let ra = fits_of (v_var a) tt fa in
    let rb = fits_of (v_var b) tt fb in
    fits_by (v_add (v_read a fa) (v_read b fb)) tt (omega arith) (omega arith)

-- ---- the rows at a resolution
pub row_most : (r : ℕ) → r ≤ 30 → 2 ^ r - 1 ≤ 2 ^ 30
row_most r h = omega (arith, rows_most r h)

abbrev pub v_row : (r : ℕ) → r ≤ 30 → View (max_row r)
v_row r h = v_upto (2 ^ r - 1) (2 ^ 30) (row_most r h)

abbrev v_last : {r : ℕ} {m : ℤ} → r ≤ 30 → m ≡ max_row r → View (read m)
v_last {r} {m} h e = v_bits w64 m (v_same e (v_row r h))

-- ---- the bounds of three whole numbers. That x is at least the sum less y says again that z is at most 0; of z it says so of x
record Inside (r : ℕ) (x y z : ℤ) : Type 0 where
  x_most : up x ≤ dn x
  z_most : up z ≤ dn z
  y_least : dn y ≤ up y
  y_most : up y ≤ dn y + (2 ^ r - 1)
  sum_least : dn x + dn y + dn z ≤ up x + up y + up z
  sum_most : up x + up y + up z ≤ dn x + dn y + dn z + 1

-- pairs, nested as `Hold` nests them
infixr 4 ◌also◌
◌also◌ : {A B : Type 0} → A → B → A × B
a also b = (a, b)

abbrev triple : ℤ → ℤ → ℤ → Triple
triple x y z = record { x = x; y = y; z = z }

-- what `in_bounds` and `in_bounds_wide` answer
abbrev Answers : Bool → ℕ → Triple → Type 0
Answers b r t = b ≡ (leb r 30 && is_in_bounds r t)

module _ (r : ℕ) (x y z : ℤ) where
  hold_inside : Inside r x y z → Hold (bounds r (triple x y z))
  hold_inside i =
      let vx = v_var x in
      let vy = v_var y in
      let vz = v_var z in
      let s = v_add (v_add vx vy) vz in
      le_by (v_pos 0) s tt (omega arith)
      also le_by s (v_pos 1) tt (omega arith)
      also le_by vx (v_pos 0) tt (omega arith)
      also le_by vz (v_pos 0) tt (omega arith)
      also le_by (v_pos 0) vy tt (omega arith)
      also le_by vy (v_pos (2 ^ r - 1)) tt (omega arith)
      also le_by (v_add s (v_neg vy)) vx tt (omega arith)
      also le_by (v_add s (v_neg vy)) vz tt (omega arith)
      also tt

  inside_held : Hold (bounds r (triple x y z)) → Inside r x y z
  unfolding up dn
  inside_held h = omega (arith, orders, add_parts x y, add_parts (x +ℤ y) z)

  inside : r ≤ 30 → Inside r x y z → Answers true r (triple x y z)
  unfolding is_in_bounds
  inside h i = simp (le-leb r 30 h) (true_pass (bounds r (triple x y z)) (hold_inside i))

  outside : (Inside r x y z → ⊥) → Answers false r (triple x y z)
  unfolding is_in_bounds
  outside f = go (leb r 30)
    where
      go : (b : Bool) → false ≡ (b && is_in_bounds r (triple x y z))
      go true = false_pass (bounds r (triple x y z)) (λ h. f (inside_held h))
      go false = refl

-- ---- the same, by the tests that `in_bounds_wide` makes
module _ (r : ℕ) (x y z : ℤ) (fx : SFits w64 x) (fy : SFits w64 y) (fz : SFits w64 z) where
  pub resolution_above : 30 < r → Answers false r (triple x y z)
  resolution_above h = simp (lt-leb r 30 h)

  pub x_above : lt_z (pos 0) (read x) ≡ true → Answers false r (triple x y z)
  x_above e = outside r x y z (λ i. omega (arith, less (v_pos 0) (v_read x fx) tt e))

  pub z_above : lt_z (pos 0) (read z) ≡ true → Answers false r (triple x y z)
  z_above e = outside r x y z (λ i. omega (arith, less (v_pos 0) (v_read z fz) tt e))

  pub y_below : lt_z (read y) (pos 0) ≡ true → Answers false r (triple x y z)
  y_below e = outside r x y z (λ i. omega (arith, less (v_read y fy) (v_pos 0) tt e))

  pub y_above : r ≤ 30 → {m : ℤ} → m ≡ max_row r → lt_z (read m) (read y) ≡ true → Answers false r (triple x y z)
  y_above h em e = outside r x y z (λ i. omega (arith, less (v_last h em) (v_read y fy) tt e))

  module _ (hy : lt_z (read y) (pos 0) ≡ false) (hx : lt_z (pos 0) (read x) ≡ false) (hz : lt_z (pos 0) (read z) ≡ false) where
    abbrev xy : ℤ
    xy = read y +ℤ read x

    fxy : SFits w64 xy
    fxy = mixed_fits y x fy fx hy hx

    abbrev v_xy : View (read xy)
    v_xy = v_in fxy (v_add (v_read y fy) (v_read x fx))

    pub xy_below : lt_z (read xy) (pos 0) ≡ true → Answers false r (triple x y z)
    xy_below e = outside r x y z (λ i. omega (arith, less v_xy (v_pos 0) tt e))

    module _ (hxy : lt_z (read xy) (pos 0) ≡ false) where
      abbrev sum : ℤ
      sum = read xy +ℤ read z

      abbrev v_sum : View (read sum)
      v_sum = v_in (mixed_fits xy z fxy fz hxy hz) (v_add v_xy (v_read z fz))

      pub sum_below : le_z (pos 0) (read sum) ≡ false → Answers (le_z (pos 0) (read sum)) r (triple x y z)
      sum_below e = e ∙ outside r x y z (λ i. omega (arith, fact_of (le_false (pos 0) (read sum) e) v_sum (v_pos 0) tt))

      pub all_within : r ≤ 30 → {m : ℤ} → m ≡ max_row r → lt_z (read m) (read y) ≡ false → le_z (pos 0) (read sum) ≡ true → Answers (le_z (read sum) (pos 1)) r (triple x y z)
      all_within h em hm low = go (le_z (read sum) (pos 1)) refl
        where
          go : (f : Bool) → le_z (read sum) (pos 1) ≡ f → Answers f r (triple x y z)
          go true e =
              let y_least = not_less (v_read y fy) (v_pos 0) tt hy in
              let y_most = not_less (v_last h em) (v_read y fy) tt hm in
              let x_most = not_less (v_pos 0) (v_read x fx) tt hx in
              let z_most = not_less (v_pos 0) (v_read z fz) tt hz in
              let sum_least = fact_of (le_true (pos 0) (read sum) low) (v_pos 0) v_sum tt in
              let sum_most = fact_of (le_true (read sum) (pos 1) e) v_sum (v_pos 1) tt in
              inside r x y z h (omega arith)
          go false e = outside r x y z (λ i. omega (arith, fact_of (le_false (read sum) (pos 1) e) (v_pos 1) v_sum tt))

pub ruleset wide_bounds = (mixed_fits, resolution_above, x_above, z_above, y_below, y_above, xy_below, sum_below, all_within)

-- ---- three i32, as `in_bounds` hands them on
widened : (x : ℤ) → SFits w32 x → read (rd w32 x) ≡ x
widened x f = eq_by (v_bits w64 (rd w32 x) (v_bits w32 x (v_fit f))) (v_var x) tt (omega arith)

pub narrow_bounds : (r : ℕ) (t : Triple) → SFits w32 t.x → SFits w32 t.y → SFits w32 t.z → {b : Bool} → Answers b r (triple (read (rd w32 t.x)) (read (rd w32 t.y)) (read (rd w32 t.z))) → Answers b r t
narrow_bounds r t fx fy fz e = e ∙ λ i. leb r 30 && is_in_bounds r (triple (widened t.x fx i) (widened t.y fy i) (widened t.z fz i))

-- ---- the parity, by the sum
pub parity_cast : (s : ℤ) → SFits w64 s → lt_z (read s) (pos 0) ≡ false → lt_z (pos 1) (read s) ≡ false → T (non_neg (read s)) × Fits w8 (nat_abs (read s))
parity_cast s f low high =
    let v = v_read s f in
    to_nat w8 (read s) (v_most 1 (le_by v (v_pos 1) tt (not_less (v_pos 1) v tt high)) v) tt (omega (arith, not_less v (v_pos 0) tt low))

abbrev sums : Triple → List Test
sums t = (pos 0 ≤? sum_of t) ∷ (sum_of t ≤? pos 1) ∷ []

abbrev by_sum : Triple → Bool → Told ℕ
by_sum t good = refuse (not good) Sum (told (nat_abs (sum_of t)))

module _ (t : Triple) {s : ℤ} (e : s ≡ sum_of t) (f : SFits w64 s) where
  abbrev v_s : View (read s)
  v_s = v_in f (v_same e (v_var (sum_of t)))

  pub parity_below : lt_z (read s) (pos 0) ≡ true → refused (number_of Sum) ≡ parity_of t
  unfolding parity_of up dn
  parity_below h = ap (by_sum t) (false_pass (sums t) (λ g. omega (arith, orders, less v_s (v_pos 0) tt h)))

  pub parity_above : lt_z (pos 1) (read s) ≡ true → refused (number_of Sum) ≡ parity_of t
  unfolding parity_of up dn
  parity_above h = ap (by_sum t) (false_pass (sums t) (λ g. omega (arith, orders, less (v_pos 1) v_s tt h)))

  pub parity_told : lt_z (read s) (pos 0) ≡ false → lt_z (pos 1) (read s) ≡ false → told (nat_abs (read s)) ≡ parity_of t
  unfolding parity_of
  parity_told low high =
      let v = v_var (sum_of t) in
      let least = le_by (v_pos 0) v tt (not_less v_s (v_pos 0) tt low) in
      let most = le_by v (v_pos 1) tt (not_less (v_pos 1) v_s tt high) in
      ap (λ (z : ℤ). told (nat_abs z)) (to_z-of_z w64 s f ∙ e) ∙ ap (by_sum t) (true_pass (sums t) (least also most also tt))

pub ruleset parities = (parity_below, parity_above, parity_told)

-- ---- the color, by any view of the number whose size it is taken of
odd_size : {z : ℤ} (v : View z) → T v.ok → nat_abs z % 2 ≡ (v.p - v.n) % 2 + (v.n - v.p) % 2
unfolding up dn
odd_size {z = pos a} v t = omega (arith, (v.is t).0)
odd_size {z = negsuc a} v t = omega (arith, (v.is t).0)

module _ (r : ℕ) (t : Triple) where
  pub color_by : (v : View (max_row r +ℤ pos 1 +ℤ t.x +ℤ t.z)) → T v.ok → {k : ℕ} → k ≡ (v.p - v.n) % 2 + (v.n - v.p) % 2 → k ≡ color_of r t
  unfolding color_of
  color_by v ok e = e ∙ sym (odd_size v ok)

  color_small : {k : ℕ} → k ≡ color_of r t → k < 2
  unfolding color_of
  color_small e = omega arith

  pub color_fits : {k : ℕ} → k ≡ color_of r t → Fits w8 (2 * k)
  color_fits e = record { fits = omega (arith, color_small e) }

-- ---- the flavor, by the answers of `parity`, `in_bounds` and `color`
parity_is : (good : Bool) (p k : ℕ) → told p ≡ refuse (not good) Sum (told k) → (good ≡ true) × (p ≡ k)
parity_is true p k e = (refl, (cc))
parity_is false p k e = let z : ◌≡◌ {A = ℕ} 0 1 = cc in absurd (omega arith)

parity_none : (good : Bool) (n k : ℕ) → refused n ≡ refuse (not good) Sum (told k) → (good ≡ false) × (n ≡ number_of Sum)
parity_none true n k e = let z : ◌≡◌ {A = ℕ} 0 1 = cc in absurd (omega arith)
parity_none false n k e = (refl, refused_same e)

abbrev by_tests : Bool → Bool → Bool → ℕ → Told ℕ
by_tests far good in_bounds f = refuse far Resolution (refuse (not good) Sum (refuse (not in_bounds) Bounds (told f)))

module _ (r : ℕ) (t : Triple) where
  pub flavor_far : 30 < r → refused (number_of Resolution) ≡ flavor_of r t
  unfolding flavor_of
  flavor_far h = simp (lt-ltb 30 r h)

  module _ (h : r ≤ 30) (a : Result ℕ Refusal) (ea : said a ≡ parity_of t) where
    pub flavor_no_sum : {e : Refusal} → a ≡ Err e → refused (number_of e) ≡ flavor_of r t
    unfolding flavor_of parity_of
    flavor_no_sum m =
        let bad = parity_none (good_sum t) _ _ (ap said (sym m) ∙ ea) in
        ap refused bad.1 ∙ (λ i. by_tests (sym (le-ltb 30 r h) i) (sym bad.0 i) (is_in_bounds r t) (closed_flavor r t))

    module _ {p : ℕ} (m : a ≡ Ok p) where
      sum_is : (good_sum t ≡ true) × (p ≡ nat_abs (sum_of t))
      unfolding parity_of
      sum_is = parity_is (good_sum t) _ _ (ap said (sym m) ∙ ea)

      parity_small : p < 2
      unfolding up dn
      parity_small =
          let good = pass_true (sums t) sum_is.0 in
          omega (arith, orders, sum_is.1, nat_is (v_var (sum_of t)) tt (omega (arith, orders)))

      module _ {b : Bool} (eb : Answers b r t) where
        bounds_are : b ≡ is_in_bounds r t
        bounds_are = eb ∙ ap (λ (f : Bool). f && is_in_bounds r t) (le-leb r 30 h)

        pub flavor_out : not b ≡ true → refused (number_of Bounds) ≡ flavor_of r t
        unfolding flavor_of
        flavor_out n =
            let out = sym (not-true b n) ∙ bounds_are in
            λ i. by_tests (sym (le-ltb 30 r h) i) (sym sum_is.0 i) (out i) (closed_flavor r t)

        module _ (n : not b ≡ false) {k : ℕ} (ek : k ≡ color_of r t) where
          pub flavor_fits : Fits w8 (p + 2 * k)
          flavor_fits = record { fits = omega (arith, parity_small, color_small r t ek) }

          pub flavor_told : told (p + 2 * k) ≡ flavor_of r t
          unfolding flavor_of closed_flavor
          flavor_told =
              let within = sym (not-false b n) ∙ bounds_are in
              λ i. by_tests (sym (le-ltb 30 r h) i) (sym sum_is.0 i) (within i) (sum_is.1 i + 2 * ek i)

pub ruleset flavors = (color_fits, flavor_far, flavor_no_sum, flavor_out, flavor_fits, flavor_told)
