-- What the code reads off A5's words is A5's table, by one test over the 28 states and four digits.
use Rattle.std.proofs.Common.{◌≡◌, ℕ, ◌*◌, ◌/◌, ◌%◌, ◌^◌, ◌<◌, ◌≤◌, T, List, [], ◌∷◌, ℤ, ◌-ℤ◌, nat_abs, ap, ◌∙◌, arith, w64, SFits, to_z}
use mir.ValLaws.{to_z-of_z}
use Rattle.whole.proofs.View.{View, rd, fits, eq_by, v_same, v_upto, v_unsigned, v_add, v_neg}
use Rattle.whole.proofs.Claims.{Claim, int, eq, below, all, each}
use Rattle.tables.specs.Descent.{entry, child_at, offset_at, sum_at, flavor_at}
use Rattle.a5.specs.A5Table.{a5_table}
use Rattle.turtle.specs.declared.AB.{AB}
use Rattle.turtle.specs.Plane.{ab}
use Rattle.turtle.proofs.CornerLaws.{pair_is}
use Rattle.nodes.specs.declared.descent.Place.{Place}
use Rattle.nodes.specs.declared.descent.Drawn.{Drawn}
use Rattle.nodes.specs.Inside.Words.{step_word, leaf_word, spread}
use Rattle.nodes.specs.Inside.Descents.{step_at, leaf_at}

-- ---- a number of fours, counted from below 0
module _ (w least : ℕ) (h : least ≤ 28) where
  abbrev v_spread : View (to_z w64 (4 * (w % 16)) -ℤ to_z w64 least)
  v_spread = v_add (v_unsigned w64 (4 * (w % 16)) 60 (omega arith)) (v_neg (v_unsigned w64 least 28 h))

  pub spread_fits : SFits w64 (to_z w64 (4 * (w % 16)) -ℤ to_z w64 least)
  spread_fits = fits v_spread tt

  pub spread_is : rd w64 (to_z w64 (4 * (w % 16)) -ℤ to_z w64 least) ≡ spread least (w % 16)
  unfolding spread
  spread_is = to_z-of_z w64 _ spread_fits ∙ eq_by v_spread (v_add (v_upto (4 * (w % 16)) 60 (omega arith)) (v_neg (v_upto least 28 h))) tt (omega arith)

pub ruleset spreads = (spread_fits, spread_is)

-- as a field of a struct has it
spread_read : (least n : ℕ) {z : ℤ} → least ≤ 28 → n < 16 → z ≡ spread least n → rd w64 z ≡ spread least n
unfolding spread
spread_read least n {z} h l e = to_z-of_z w64 z (fits (v_same e (v_add (v_upto (4 * n) 60 (omega arith)) (v_neg (v_upto least 28 h)))) tt) ∙ e

-- ---- the words of a state
abbrev StepClaims : ℕ → ℕ → List Claim
StepClaims k d =
    let w = step_word k / 2 ^ (16 * d) in
    eq (w % 32) (nat_abs (child_at a5_table k d)) ∷ int (spread 16 (w / 32 % 16)) (offset_at a5_table k d).a ∷ int (spread 16 (w / 512 % 16)) (offset_at a5_table k d).b ∷ []

step_all : T (all 28 4 StepClaims)
unfolding all below entry a5_table step_word spread
step_all = tt

abbrev LeafClaims : ℕ → ℕ → List Claim
LeafClaims k d =
    let w = leaf_word k / 2 ^ (10 * d) in
    int (spread 28 (w % 16)) (sum_at a5_table k d).a ∷ int (spread 28 (w / 16 % 16)) (sum_at a5_table k d).b ∷ eq (w / 256 % 4) (nat_abs (flavor_at a5_table k d)) ∷ []

leaf_all : T (all 28 4 LeafClaims)
unfolding all below entry a5_table leaf_word spread
leaf_all = tt

module _ (k d : ℕ) (h : k < 28) (l : d < 4) {word : ℕ} where
  pub step_read : word ≡ step_word k → {a b : ℤ} → a ≡ spread 16 (word / 2 ^ (16 * d) / 32 % 16) → b ≡ spread 16 (word / 2 ^ (16 * d) / 512 % 16)
      → ◌≡◌ {A = Place} (record { a = rd w64 a; b = rd w64 b; state = word / 2 ^ (16 * d) % 32 }) (step_at k d)
  unfolding step_at
  step_read e ea eb =
      let c = each 28 4 StepClaims step_all k d h l in
      let w : ℕ → ℕ = λ n. n / 2 ^ (16 * d) in
      let state = ap (λ (n : ℕ). w n % 32) e ∙ c.0 in
      let a = spread_read 16 _ (omega arith) (omega arith) ea ∙ ap (λ (n : ℕ). spread 16 (w n / 32 % 16)) e ∙ c.1.0 in
      let b = spread_read 16 _ (omega arith) (omega arith) eb ∙ ap (λ (n : ℕ). spread 16 (w n / 512 % 16)) e ∙ c.1.1.0 in
      λ i. record { a = a i; b = b i; state = state i }

  pub leaf_read : word ≡ leaf_word k → {a b : ℤ} → a ≡ spread 28 (word / 2 ^ (10 * d) % 16) → b ≡ spread 28 (word / 2 ^ (10 * d) / 16 % 16)
      → {sum : AB} → sum ≡ ab (rd w64 a) (rd w64 b) → ◌≡◌ {A = Drawn} (record { sum = sum; flavor = word / 2 ^ (10 * d) / 256 % 4 }) (leaf_at k d)
  unfolding leaf_at
  leaf_read e ea eb es =
      let c = each 28 4 LeafClaims leaf_all k d h l in
      let w : ℕ → ℕ = λ n. n / 2 ^ (10 * d) in
      let a = spread_read 28 _ (omega arith) (omega arith) ea ∙ ap (λ (n : ℕ). spread 28 (w n % 16)) e ∙ c.0 in
      let b = spread_read 28 _ (omega arith) (omega arith) eb ∙ ap (λ (n : ℕ). spread 28 (w n / 16 % 16)) e ∙ c.1.0 in
      let flavor = ap (λ (n : ℕ). w n / 256 % 4) e ∙ c.1.1.0 in
      let sum = es ∙ pair_is a b in
      λ i. record { sum = sum i; flavor = flavor i }
