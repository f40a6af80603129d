-- A triple of sum 0 or 1 and its corner sum name each other, by linear equations: of a triple of sum s, b + 4 + 4 s is 12 x and a - 8 + 4 s is 12 y.
use native.Mathlib.Omega.{arith}
use mathlib.Core.Path.{◌≡◌, refl, sym, ap, ◌∙◌, subst}
use mathlib.Core.Logic.{◌⊎◌, inl, inr, ⊎_elim}
use mathlib.Core.Bool.{Bool, true, false, not, ◌&&◌, cond, true≢false}
use mathlib.Core.List.{List, [], ◌∷◌}
use Prim.Native.Nat.{ℕ, ◌≤◌, ◌<◌, ◌*◌, ◌^◌}
use borrow.Author.Tests.{not-true, not-false}
use lib.IntN.{ℤ, pos, negsuc, ◌+ℤ◌, ◌-ℤ◌, nat_abs}
use lib.Signed.{◌≤ℤ◌, le_z, mag, quot_z}
use mir.Syntax.{w32, w64}
use mir.Val.{SFits, to_z, of_z}
use mir.ValLaws.{to_z-of_z}
use Rattle.whole.specs.Tests.{Test, ◌≤?◌, pass}
use Rattle.whole.proofs.TestLaws.{Hold, true_pass, false_pass, pass_true}
use Rattle.whole.proofs.Parts.{zero_or_one}
use Rattle.std.specs.Prelude.{Option, Some, None, Result, Ok, Err}
use Rattle.std.specs.Result.{OkIff, result_ok}
use Rattle.std.specs.Option.{ok_or}
use Rattle.std.specs.Ordering.{int_eq}
use Rattle.std.proofs.lemmas.Bool.Decides.{Decides-int_eq}
use Rattle.whole.proofs.Bools.{both_true}
use Rattle.whole.proofs.View.{View, view, v_var, v_within, v_fit32, le_of, le_by, eq_of, eq_by}
use Rattle.triple.specs.declared.Triple.{Triple}
use Rattle.triple.specs.declared.refusal.Refusal.TheVariants.{Sum, Pair}
use Rattle.triple.specs.declared.refusal.Refusal.{Refusal}
use Rattle.triple.specs.Refusals.{told, refused, said, refuse, number_of}
use Rattle.triple.specs.Triples.{sum_of, good_sum, parity_of}
use Rattle.turtle.specs.declared.AB.{AB}
use Rattle.turtle.specs.Plane.{far}
use Rattle.turtle.specs.Inside.Sizes.{Within}
use Rattle.turtle.specs.Corners.{corner_sum, corner_sum_of, candidate, has_corner_sum, fits32, same, triple_of, FitsI32, ThreeI32, HasTriple, narrowed}
use Rattle.turtle.specs.Inside.Candidates.{with_sum}
use Rattle.turtle.proofs.LimitLaws.{far_false}

-- ---- the flag that a comparison gives is the one to return
pub flag_is : (f g : Bool) → (f ≡ true → true ≡ g) → (f ≡ false → false ≡ g) → f ≡ g
flag_is true g h k = h refl
flag_is false g h k = k refl

-- ---- pairs and triples by their coordinates
abbrev pub triple : ℤ → ℤ → ℤ → Triple
triple x y z = record { x = x; y = y; z = z }

pub pair_is : {p q : AB} → p.a ≡ q.a → p.b ≡ q.b → p ≡ q
pair_is f g = λ i. record { a = f i; b = g i }

pub triple_is : {t u : Triple} → t.x ≡ u.x → t.y ≡ u.y → t.z ≡ u.z → t ≡ u
triple_is f g h = λ i. record { x = f i; y = g i; z = h i }

-- ---- coordinates that are i32
abbrev pub v_fits : {v : ℤ} → FitsI32 v → View v
v_fits f = v_within 2147483648 2147483647 f.low f.high

abbrev narrow : Triple → List Test
narrow t = fits32 t.x (fits32 t.y (fits32 t.z []))

narrow_hold : (t : Triple) → Hold (narrow t) → ThreeI32 t
narrow_hold t h = record {
  x = record { low = h.0; high = h.1.0 };
  y = record { low = h.1.1.0; high = h.1.1.1.0 };
  z = record { low = h.1.1.1.1.0; high = h.1.1.1.1.1.0 };
}

hold_narrow : (t : Triple) → ThreeI32 t → Hold (narrow t)
hold_narrow t n = (n.x.low, (n.x.high, (n.y.low, (n.y.high, (n.z.low, (n.z.high, tt))))))

pub narrow_of : (t : Triple) → pass (narrow t) ≡ true → ThreeI32 t
narrow_of t e = narrow_hold t (pass_true (narrow t) e)

pub narrow_true : (t : Triple) → ThreeI32 t → pass (narrow t) ≡ true
narrow_true t n = sym (true_pass (narrow t) (hold_narrow t n))

-- the flags of the three, each read back from its bits, make up the flag of all
split : (x : ℤ) (l : List Test) → pass (fits32 x l) ≡ pass (fits32 x []) && pass l
split x l = go (le_z (negsuc 2147483647) x) (le_z x (pos 2147483647))
  where
    go : (a b : Bool) → (a && (b && pass l)) ≡ ((a && (b && true)) && pass l)
    go true true = refl
    go true false = refl
    go false b = refl

read : (x : ℤ) (f : Bool) → mag x < 2 ^ 63 → f ≡ pass (fits32 (to_z w64 (of_z w64 x)) []) → f ≡ pass (fits32 x [])
read x f m e = e ∙ ap (λ (v : ℤ). pass (fits32 v [])) (to_z-of_z w64 x (record { sfits = m }))

module _ (x y z : ℤ) (f : Bool) (mx : mag x < 2 ^ 63) (ef : f ≡ pass (fits32 (to_z w64 (of_z w64 x)) [])) where
  pub wide_x : not f ≡ true → false ≡ pass (fits32 x (fits32 y (fits32 z [])))
  wide_x n = sym (split x (fits32 y (fits32 z [])) ∙ rw (← read x f mx ef, not-true f n))

  module _ (g : Bool) (my : mag y < 2 ^ 63) (eg : g ≡ pass (fits32 (to_z w64 (of_z w64 y)) [])) (n : not f ≡ false) where
    pub wide_y : not g ≡ true → false ≡ pass (fits32 x (fits32 y (fits32 z [])))
    wide_y m = sym (split x (fits32 y (fits32 z [])) ∙ rw (← read x f mx ef, not-false f n) (split y (fits32 z []) ∙ rw (← read y g my eg, not-true g m)))

    pub wide_z : (h : Bool) → mag z < 2 ^ 63 → h ≡ pass (fits32 (to_z w64 (of_z w64 z)) []) → not g ≡ false → h ≡ pass (fits32 x (fits32 y (fits32 z [])))
    wide_z h mz eh m = read z h mz eh ∙ sym (split x (fits32 y (fits32 z [])) ∙ rw (← read x f mx ef, not-false f n) (split y (fits32 z []) ∙ rw (← read y g my eg, not-false g m)))

-- a coordinate that was read as an i32 is one, and itself
pub coordinate : {E : Type 0} (x v : ℤ) (r : Result ℤ E) (o : Option ℤ) → mag x < 2 ^ 63 → OkIff r (SFits w32 (to_z w64 (of_z w64 x))) (to_z w64 (of_z w64 x)) → o ≡ result_ok r → o ≡ Some v → SFits w32 x × (v ≡ x)
coordinate x v (Ok y) o m h e f =
    let k : to_z w64 (of_z w64 x) ≡ x = to_z-of_z w64 x (record { sfits = m }) in
    let same : y ≡ v = cc in
    (rw k at h.0, sym same ∙ h.1 ∙ k)
coordinate x v (Err y) o m h e f = let z : ◌≡◌ {A = ℕ} 0 1 = cc in absurd (omega arith)

is_i32 : (x : ℤ) → SFits w32 x → FitsI32 x
is_i32 x f =
    let v = v_fit32 x f in
    let h = v.is tt in
    record { low = le_by (search view) v tt (omega arith); high = le_by v (search view) tt (omega arith) }

module _ (x y z a b c : ℤ) (hx : SFits w32 x × (a ≡ x)) (hy : SFits w32 y × (b ≡ y)) (hz : SFits w32 z × (c ≡ z)) where
  pub narrowed_some : (t : Triple) → t ≡ triple (to_z w32 (of_z w32 a)) (to_z w32 (of_z w32 b)) (to_z w32 (of_z w32 c)) → Some t ≡ narrowed (triple x y z)
  unfolding narrowed
  narrowed_some t e =
      let n : pass (narrow (triple x y z)) ≡ true = narrow_true (triple x y z) (record { x = is_i32 x hx.0; y = is_i32 y hy.0; z = is_i32 z hz.0 }) in
      let same : t ≡ triple x y z =
      e ∙ triple_is (ap (λ (v : ℤ). to_z w32 (of_z w32 v)) hx.1 ∙ to_z-of_z w32 x hx.0) (ap (λ (v : ℤ). to_z w32 (of_z w32 v)) hy.1 ∙ to_z-of_z w32 y hy.0) (ap (λ (v : ℤ). to_z w32 (of_z w32 v)) hz.1 ∙ to_z-of_z w32 z hz.0) in
      rw n (ap Some same)

pub narrowed_by : (r : Option Triple) (t u : Triple) → r ≡ narrowed t → t.x ≡ u.x → t.y ≡ u.y → t.z ≡ u.z → r ≡ narrowed u
narrowed_by r t u e f g h = e ∙ ap narrowed (triple_is f g h)

shown : (u : Triple) (t : Triple) → narrowed u ≡ Some t → (pass (narrow u) ≡ true) × (u ≡ t)
unfolding narrowed
shown u t e = go (pass (narrow u)) refl e
  where
    go : (f : Bool) → pass (narrow u) ≡ f → cond f (Some u) None ≡ Some t → (pass (narrow u) ≡ true) × (u ≡ t)
    go true p e = (p, cc)
    go false p e = let z : ◌≡◌ {A = ℕ} 0 1 = cc in absurd (omega arith)

shown_none : (u : Triple) → narrowed u ≡ None → pass (narrow u) ≡ false
unfolding narrowed
shown_none u e = go (pass (narrow u)) refl e
  where
    go : (f : Bool) → pass (narrow u) ≡ f → cond f (Some u) None ≡ None → pass (narrow u) ≡ false
    go true p e = let z : ◌≡◌ {A = ℕ} 0 1 = cc in absurd (omega arith)
    go false p e = p

-- ---- the sum of a triple's coordinates
abbrev good : Triple → List Test
good t = (pos 0 ≤? sum_of t) ∷ (sum_of t ≤? pos 1) ∷ []

pub good_of : (t : Triple) → good_sum t ≡ true → (pos 0 ≤ℤ sum_of t) × (sum_of t ≤ℤ pos 1)
good_of t e =
    let h = pass_true (good t) e in
    (h.0, h.1.0)

pub good_true : (t : Triple) → pos 0 ≤ℤ sum_of t → sum_of t ≤ℤ pos 1 → good_sum t ≡ true
good_true t l h = sym (true_pass (good t) (l, (h, tt)))

pub good_false : (t : Triple) → (pos 0 ≤ℤ sum_of t → sum_of t ≤ℤ pos 1 → ⊥) → good_sum t ≡ false
good_false t f = sym (false_pass (good t) (λ h. f h.0 h.1.0))

pub sum_good : (t : Triple) (s : ℕ) → s ≤ 1 → sum_of t ≡ pos s → good_sum t ≡ true
sum_good t s l e =
    let v = v_var (sum_of t) in
    let h = eq_of v (search view) tt e in
    good_true t (le_by (search view) v tt (omega arith)) (le_by v (search view) tt (omega arith))

-- the corner sum where the parity is answered, and the refusal where it is not
module _ (t : Triple) where
  pub corner_told : (n : ℕ) → told n ≡ parity_of t → (p : AB) → p ≡ corner_sum t → told p ≡ corner_sum_of t
  unfolding parity_of corner_sum_of
  corner_told n e p f = go (good_sum t) e
    where
      go : (g : Bool) → told n ≡ refuse (not g) Sum (told (nat_abs (sum_of t))) → told p ≡ refuse (not g) Sum (told (corner_sum t))
      go true e = ap told f
      go false e = let z : ◌≡◌ {A = ℕ} 0 1 = cc in absurd (omega arith)

  pub corner_refused : (n : ℕ) → refused n ≡ parity_of t → refused n ≡ corner_sum_of t
  unfolding parity_of corner_sum_of
  corner_refused n e = go (good_sum t) e
    where
      go : (g : Bool) → refused n ≡ refuse (not g) Sum (told (nat_abs (sum_of t))) → refused n ≡ refuse (not g) Sum (told (corner_sum t))
      go true e = let z : ◌≡◌ {A = ℕ} 0 1 = cc in absurd (omega arith)
      go false e = let k : n ≡ number_of Sum = cc in ap refused k

-- ---- the corner sum names the triple
pub corner_sum_unique : (t u : Triple) → good_sum t ≡ true → good_sum u ≡ true → corner_sum t ≡ corner_sum u → t ≡ u
unfolding corner_sum
corner_sum_unique t u g h e =
    let tx = v_var t.x in
    let ty = v_var t.y in
    let tz = v_var t.z in
    let ux = v_var u.x in
    let uy = v_var u.y in
    let uz = v_var u.z in
    let t_low = le_of (search view) (search view) tt (good_of t g).0 in
    let t_high = le_of (search view) (search view) tt (good_of t g).1 in
    let u_low = le_of (search view) (search view) tt (good_of u h).0 in
    let u_high = le_of (search view) (search view) tt (good_of u h).1 in
    let ea = eq_of (search view depth 12) (search view depth 12) tt (ap (λ (p : AB). p.a) e) in
    let eb = eq_of (search view depth 12) (search view depth 12) tt (ap (λ (p : AB). p.b) e) in
    triple_is (eq_by tx ux tt (omega arith)) (eq_by ty uy tt (omega arith)) (eq_by tz uz tt (omega arith))

-- ---- the corner sum of a triple of at most 2 ^ 30 in size, as every cell in bounds has, is near
pub corner_sum_near : (t : Triple) → Within 1073741824 t.x → Within 1073741824 t.y → good_sum t ≡ true → far (corner_sum t) ≡ false
unfolding corner_sum
corner_sum_near t wx wy g =
    let x = v_var t.x in
    let y = v_var t.y in
    let z = v_var t.z in
    let s_low = le_of (search view) (search view) tt (good_of t g).0 in
    let s_high = le_of (search view) (search view) tt (good_of t g).1 in
    let x_low = le_of (search view) (search view) tt wx.low in
    let x_high = le_of (search view) (search view) tt wx.high in
    let y_low = le_of (search view) (search view) tt wy.low in
    let y_high = le_of (search view) (search view) tt wy.high in
    sym (far_false (corner_sum t) (record {
      a = record { low = le_by (search view depth 12) (search view depth 12) tt (omega arith); high = le_by (search view depth 12) (search view depth 12) tt (omega arith) };
      b = record { low = le_by (search view depth 12) (search view depth 12) tt (omega arith); high = le_by (search view depth 12) (search view depth 12) tt (omega arith) };
    }))

-- that of a larger one need not be, though each coordinate is an i32
pub corner_sum_can_be_far : far (corner_sum (triple (negsuc 1431655764) (pos 1431655765) (pos 0))) ≡ true
unfolding corner_sum far
corner_sum_can_be_far = refl

-- ---- the candidate of sum s
pub candidate_sum : (s : ℕ) (p : AB) → sum_of (candidate s p) ≡ pos s
unfolding candidate
candidate_sum s p =
    let x = v_var (quot_z (p.b +ℤ pos 4 +ℤ pos (4 * s)) (pos 12)) in
    let y = v_var (quot_z (p.a -ℤ pos 8 +ℤ pos (4 * s)) (pos 12)) in
    eq_by (search view) (search view) tt (omega arith)

pub candidate_of : (s : ℕ) (t : Triple) → sum_of t ≡ pos s → candidate s (corner_sum t) ≡ t
unfolding candidate corner_sum
candidate_of s t e =
    let x = v_var t.x in
    let y = v_var t.y in
    let z = v_var t.z in
    let h = eq_of (search view) (search view) tt e in
    let ex : (candidate s (corner_sum t)).x ≡ t.x = eq_by (search view depth 15) x tt (omega arith) in
    let ey : (candidate s (corner_sum t)).y ≡ t.y = eq_by (search view depth 15) y tt (omega arith) in
    let ez : pos s -ℤ t.x -ℤ t.y ≡ t.z = eq_by (search view) z tt (omega arith) in
    triple_is ex ey (rw (ex, ey) ez)

-- ---- what the test of a candidate says
pub record Has (p : AB) (t : Triple) : Type 0 where
  pub sum : corner_sum t ≡ p
  pub narrow : ThreeI32 t

abbrev tests : AB → Triple → List Test
tests p t = same (corner_sum t) p (narrow t)

between : (a b : ℤ) → a ≤ℤ b → b ≤ℤ a → a ≡ b
between a b h k =
    let x = v_var a in
    let y = v_var b in
    eq_by x y tt (omega (arith, le_of x y tt h, le_of y x tt k))

has_hold : (p : AB) (t : Triple) → Hold (tests p t) → Has p t
has_hold p t h = record {
  sum = pair_is (between _ _ h.0 h.1.0) (between _ _ h.1.1.0 h.1.1.1.0);
  narrow = narrow_hold t h.1.1.1.1;
}

pub has_of : (p : AB) (t : Triple) → has_corner_sum p t ≡ true → Has p t
unfolding has_corner_sum
has_of p t e = has_hold p t (pass_true (tests p t) e)

pub has_false : (p : AB) (t : Triple) → (Has p t → ⊥) → false ≡ has_corner_sum p t
unfolding has_corner_sum
has_false p t f = false_pass (tests p t) (λ h. f (has_hold p t h))

le_refl : (a : ℤ) → a ≤ℤ a
le_refl a =
    let x = v_var a in
    le_by x x tt (omega arith)

holds : (t : Triple) → ThreeI32 t → Hold (tests (corner_sum t) t)
holds t n =
    let a = le_refl (corner_sum t).a in
    let b = le_refl (corner_sum t).b in
    (a, (a, (b, (b, hold_narrow t n))))

pub has_true : (p : AB) (t : Triple) → Has p t → true ≡ has_corner_sum p t
unfolding has_corner_sum
has_true p t h = subst (λ (q : AB). true ≡ has_corner_sum q t) h.sum (true_pass (tests (corner_sum t) t) (holds t h.narrow))

-- by the corner sum of the candidate that is narrow, and its two comparisons
module _ (s : ℕ) (p : AB) (r : Option Triple) (er : r ≡ narrowed (candidate s p)) where
  pub with_none : r ≡ None → None ≡ with_sum s p
  with_none e =
      let f : false ≡ has_corner_sum p (candidate s p) = has_false p (candidate s p) (λ h. true≢false (sym (narrow_true (candidate s p) h.narrow) ∙ shown_none (candidate s p) (sym er ∙ e))) in
      rw (← f)

  module _ (t : Triple) (e : r ≡ Some t) (q : AB) (eq : q ≡ corner_sum t) (f : Bool) (ef : f ≡ (int_eq q.a p.a && int_eq q.b p.b)) where
    pub with_some : f ≡ true → Some t ≡ with_sum s p
    with_some g =
        let n = shown (candidate s p) t (sym er ∙ e) in
        let b = both_true (int_eq q.a p.a) (int_eq q.b p.b) (sym ef ∙ g) in
        let same : q ≡ p = pair_is ((Decides-int_eq q.a p.a).0 b.0) ((Decides-int_eq q.b p.b).0 b.1) in
        let h : true ≡ has_corner_sum p (candidate s p) = has_true p (candidate s p) (record { sum = ap corner_sum n.1 ∙ sym eq ∙ same; narrow = narrow_of (candidate s p) n.0 }) in
        rw (← h) (ap Some (sym n.1))

    pub with_other : f ≡ false → None ≡ with_sum s p
    with_other g =
        let n = shown (candidate s p) t (sym er ∙ e) in
        let h : false ≡ has_corner_sum p (candidate s p) =
        has_false p (candidate s p) (λ h.
        let same : q ≡ p = eq ∙ ap corner_sum (sym n.1) ∙ h.sum in
        let yes : f ≡ true = rw (ef, (Decides-int_eq q.a p.a).1 (ap (λ (x : AB). x.a) same), (Decides-int_eq q.b p.b).1 (ap (λ (x : AB). x.b) same)) refl in
        true≢false (sym yes ∙ g)) in
        rw (← h)

pub ruleset with_laws = (with_none, with_some, with_other)

-- ---- the triple of a pair, case by case
module _ (p : AB) (f : Bool) (ef : f ≡ far p) where
  pub near_flag : f ≡ false → far p ≡ false
  near_flag e = sym ef ∙ e

  pub triple_far : f ≡ true → refused (number_of Pair) ≡ triple_of p
  unfolding triple_of
  triple_far e = rw (← ef, e)

  module _ (near : f ≡ false) (t : Triple) (et : candidate 0 p ≡ t) (h : Bool) (eh : h ≡ has_corner_sum p t) where
    pub triple_even : (r : Triple) → r ≡ t → h ≡ true → told r ≡ triple_of p
    unfolding triple_of
    triple_even r er e = rw (← ef, near, et, ← eh, e, er)

    module _ (no : h ≡ false) (u : Triple) (eu : candidate 1 p ≡ u) (k : Bool) (ek : k ≡ has_corner_sum p u) where
      pub triple_odd : (r : Triple) → r ≡ u → k ≡ true → told r ≡ triple_of p
      unfolding triple_of
      triple_odd r er e = rw (← ef, near, et, ← eh, no, eu, ← ek, e, er)

      pub triple_none : k ≡ false → refused (number_of Pair) ≡ triple_of p
      unfolding triple_of
      triple_none e = rw (← ef, near, et, ← eh, no, eu, ← ek, e)

-- what the two candidates answer, one after the other
module _ (p : AB) (near : far p ≡ false) (r : Option Triple) (er : r ≡ with_sum 0 p) where
  pub answered_even : (t : Triple) → r ≡ Some t → told t ≡ triple_of p
  unfolding triple_of
  answered_even t e = rw near (go (has_corner_sum p (candidate 0 p)) (sym e ∙ er))
    where
      go : (h : Bool) → Some t ≡ cond h (Some (candidate 0 p)) None
          → told t ≡ cond h (told (candidate 0 p)) (cond (has_corner_sum p (candidate 1 p)) (told (candidate 1 p)) (refused (number_of Pair)))
      go true e = let same : t ≡ candidate 0 p = cc in ap told same
      go false e = let z : ◌≡◌ {A = ℕ} 0 1 = cc in absurd (omega arith)

  pub answered_odd : r ≡ None → (q : Option Triple) → q ≡ with_sum 1 p → (a : Result Triple Refusal) → a ≡ ok_or q Pair → said a ≡ triple_of p
  unfolding triple_of
  answered_odd e q eq a ea = rw (near, ea, eq) (go (has_corner_sum p (candidate 0 p)) (has_corner_sum p (candidate 1 p)) (sym e ∙ er))
    where
      go : (h k : Bool) → None ≡ cond h (Some (candidate 0 p)) None
          → said (ok_or (cond k (Some (candidate 1 p)) None) Pair) ≡ cond h (told (candidate 0 p)) (cond k (told (candidate 1 p)) (refused (number_of Pair)))
      go true k e = let z : ◌≡◌ {A = ℕ} 0 1 = cc in absurd (omega arith)
      go false true e = refl
      go false false e = refl

-- ---- the inverse, exactly
names_candidate : (s : ℕ) → s ≤ 1 → (p : AB) → far p ≡ false → has_corner_sum p (candidate s p) ≡ true → HasTriple p (candidate s p)
names_candidate s l p f h =
    let k = has_of p (candidate s p) h in
    record { narrow = k.narrow; good = sum_good (candidate s p) s l (candidate_sum s p); sum = k.sum; near = f }

abbrev Answered : AB → Type 0
Answered p = ((t : Triple) × HasTriple p t × (triple_of p ≡ told t)) ⊎ (triple_of p ≡ refused 6)

pub inverse_refused : (p : AB) → Answered p
unfolding number_of
inverse_refused p = go (far p) (has_corner_sum p (candidate 0 p)) (has_corner_sum p (candidate 1 p)) refl refl refl
  where
    go : (f h k : Bool) → far p ≡ f → has_corner_sum p (candidate 0 p) ≡ h → has_corner_sum p (candidate 1 p) ≡ k → Answered p
    go true h k ef eh ek = inr (sym (triple_far p _ refl ef))
    go false true k ef eh ek = inl (candidate 0 p, names_candidate 0 (omega arith) p ef eh, sym (triple_even p _ refl ef _ refl _ refl _ refl eh))
    go false false true ef eh ek = inl (candidate 1 p, names_candidate 1 (omega arith) p ef ek, sym (triple_odd p _ refl ef _ refl _ refl eh _ refl _ refl _ refl ek))
    go false false false ef eh ek = inr (sym (triple_none p _ refl ef _ refl _ refl eh _ refl _ refl ek))

pub inverse_sound : (p : AB) (t : Triple) → triple_of p ≡ told t → HasTriple p t
inverse_sound p t e = ⊎_elim answered never (inverse_refused p)
  where
    answered : ((u : Triple) × HasTriple p u × (triple_of p ≡ told u)) → HasTriple p t
    answered h =
        let u = h.0 in
        let g : triple_of p ≡ told u = h.2 in
        let same : u ≡ t = cc in
        subst (HasTriple p) same h.1

    never : triple_of p ≡ refused 6 → HasTriple p t
    never g =
        let z : ◌≡◌ {A = ℕ} 0 1 = cc in
        absurd (omega arith)

pub inverse_complete : (p : AB) (t : Triple) → HasTriple p t → triple_of p ≡ told t
inverse_complete p t n = ⊎_elim even odd (zero_or_one (sum_of t) (good_of t n.good).0 (good_of t n.good).1)
  where
    candidate_is : (s : ℕ) → sum_of t ≡ pos s → candidate s p ≡ t
    candidate_is s e = subst (λ (q : AB). candidate s q ≡ t) n.sum (candidate_of s t e)

    found : true ≡ has_corner_sum p t
    found = has_true p t (record { sum = n.sum; narrow = n.narrow })

    even : sum_of t ≡ pos 0 → triple_of p ≡ told t
    even e = sym (triple_even p _ refl n.near t (candidate_is 0 e) true found t refl refl)

    odd : sum_of t ≡ pos 1 → triple_of p ≡ told t
    odd e = go (has_corner_sum p (candidate 0 p)) refl
      where
        go : (h : Bool) → has_corner_sum p (candidate 0 p) ≡ h → triple_of p ≡ told t
        go true eh =
            let k = names_candidate 0 (omega arith) p n.near eh in
            sym (triple_even p _ refl n.near _ refl _ refl t (corner_sum_unique t (candidate 0 p) n.good k.good (n.sum ∙ sym k.sum)) eh)
        go false eh = sym (triple_odd p _ refl n.near _ refl _ refl eh t (candidate_is 1 e) true found t refl refl)

-- there and back, where the pair is not far
pub triple_of_corner_sum : (t : Triple) → ThreeI32 t → good_sum t ≡ true → far (corner_sum t) ≡ false → triple_of (corner_sum t) ≡ told t
triple_of_corner_sum t n g f = inverse_complete (corner_sum t) t (record { narrow = n; good = g; sum = refl; near = f })
