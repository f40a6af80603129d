-- The line through two corners and a point's value by it, as the machine computes them: each step fits, and is the definition's.
use mathlib.Core.Path.{◌≡◌, refl, sym, ap, ap₂, subst, ◌∙◌}
use mathlib.Core.Bool.{◌&&◌}
use native.Mathlib.Omega.{arith}
use lib.Dec.{T}
use lib.IntN.{ℤ, pos, neg_ℤ, ◌+ℤ◌, ◌-ℤ◌, ◌*ℤ◌}
use mir.Syntax.{Width, w32, w64}
use mir.Val.{SFits}
use Rattle.whole.proofs.View.{View, rd, v_var, v_fit32, v_add, v_neg, v_prod, view, inside, fits, kept, eq_by}
use Rattle.turtle.specs.declared.AB.{AB}
use Rattle.turtle.proofs.WalkLaws.{v_small}
use Rattle.classifier.specs.declared.Separator.{Separator}
use Rattle.classifier.specs.Splits.{line_through, value}
use Rattle.classifier.specs.Inside.Sets.{Close}

fits_as : {w : Width} {z y : ℤ} → z ≡ y → (v : View y) → T (v.ok && inside w v.top v.bot) → SFits w z
fits_as {w} e v t = subst (SFits w) (sym e) (fits v t)

minus : (z : ℤ) → pos 0 -ℤ z ≡ neg_ℤ z
minus z = let v = v_var z in eq_by (search view) (search view) tt (omega arith)

-- ---- the line
module _ (p q : AB) (hp : Close p) (hq : Close q) where
  abbrev v_dx : View (q.b -ℤ p.b)
  v_dx = v_add (v_small hq.b) (v_neg (v_small hp.b))

  abbrev v_da : View (q.a -ℤ p.a)
  v_da = v_add (v_small hq.a) (v_neg (v_small hp.a))

  abbrev v_first : View ((q.b -ℤ p.b) *ℤ p.a)
  v_first = v_prod v_dx (v_small hp.a)

  abbrev v_second : View (neg_ℤ (q.a -ℤ p.a) *ℤ p.b)
  v_second = v_prod (v_neg v_da) (v_small hp.b)

  abbrev v_both : View ((q.b -ℤ p.b) *ℤ p.a +ℤ neg_ℤ (q.a -ℤ p.a) *ℤ p.b)
  v_both = v_add v_first v_second

  pa : rd w64 p.a ≡ p.a
  pa = kept w64 refl (v_small hp.a) tt

  pb : rd w64 p.b ≡ p.b
  pb = kept w64 refl (v_small hp.b) tt

  qa : rd w64 q.a ≡ q.a
  qa = kept w64 refl (v_small hq.a) tt

  qb : rd w64 q.b ≡ q.b
  qb = kept w64 refl (v_small hq.b) tt

  abbrev x_step : ℤ
  x_step = rd w64 q.b -ℤ rd w64 p.b

  x_is : x_step ≡ q.b -ℤ p.b
  x_is = ap₂ ◌-ℤ◌ qb pb

  x_read : rd w64 x_step ≡ q.b -ℤ p.b
  x_read = kept w64 x_is v_dx tt

  abbrev a_step : ℤ
  a_step = rd w64 q.a -ℤ rd w64 p.a

  d_is : a_step ≡ q.a -ℤ p.a
  d_is = ap₂ ◌-ℤ◌ qa pa

  abbrev y_step : ℤ
  y_step = pos 0 -ℤ rd w64 a_step

  y_is : y_step ≡ neg_ℤ (q.a -ℤ p.a)
  y_is = ap (λ z. pos 0 -ℤ z) (kept w64 d_is v_da tt) ∙ minus (q.a -ℤ p.a)

  y_read : rd w64 y_step ≡ neg_ℤ (q.a -ℤ p.a)
  y_read = kept w64 y_is (v_neg v_da) tt

  abbrev first_term : ℤ
  first_term = rd w64 x_step *ℤ rd w64 p.a

  f_is : first_term ≡ (q.b -ℤ p.b) *ℤ p.a
  f_is = ap₂ ◌*ℤ◌ x_read pa

  pub f_fits : SFits w64 first_term
  f_fits = fits_as f_is v_first tt

  abbrev second_term : ℤ
  second_term = rd w64 y_step *ℤ rd w64 p.b

  s_is : second_term ≡ neg_ℤ (q.a -ℤ p.a) *ℤ p.b
  s_is = ap₂ ◌*ℤ◌ y_read pb

  pub s_fits : SFits w64 second_term
  s_fits = fits_as s_is v_second tt

  abbrev both_terms : ℤ
  both_terms = rd w64 first_term +ℤ rd w64 second_term

  b_is : both_terms ≡ (q.b -ℤ p.b) *ℤ p.a +ℤ neg_ℤ (q.a -ℤ p.a) *ℤ p.b
  b_is = ap₂ ◌+ℤ◌ (kept w64 f_is v_first tt) (kept w64 s_is v_second tt)

  pub b_fits : SFits w64 both_terms
  b_fits = fits_as b_is v_both tt

  abbrev constant : ℤ
  constant = pos 0 -ℤ rd w64 both_terms

  c_is : constant ≡ neg_ℤ ((q.b -ℤ p.b) *ℤ p.a +ℤ neg_ℤ (q.a -ℤ p.a) *ℤ p.b)
  c_is = ap (λ z. pos 0 -ℤ z) (kept w64 b_is v_both tt) ∙ minus ((q.b -ℤ p.b) *ℤ p.a +ℤ neg_ℤ (q.a -ℤ p.a) *ℤ p.b)

  pub c_fits : SFits w64 constant
  c_fits = fits_as c_is (v_neg v_both) tt

  -- kept by a field of 32 bits
  pub c_narrow : SFits w32 (rd w64 constant)
  c_narrow = fits_as (kept w64 c_is (v_neg v_both) tt) (v_neg v_both) tt

  pub line_is : ◌≡◌ {A = Separator} (record { x = rd w32 (rd w64 x_step); y = rd w32 (rd w64 y_step); c = rd w32 (rd w64 constant) }) (line_through p q)
  unfolding line_through
  line_is =
      let ex = kept w32 x_read v_dx tt in
      let ey = kept w32 y_read (v_neg v_da) tt in
      let ec = kept w32 (kept w64 c_is (v_neg v_both) tt) (v_neg v_both) tt in
      λ i. record { x = ex i; y = ey i; c = ec i }

-- ---- a point's value
module _ (s : Separator) (p : AB) (fx : SFits w32 s.x) (fy : SFits w32 s.y) (fc : SFits w32 s.c) (hp : Close p) where
  abbrev wide : ℤ → ℤ
  wide z = rd w64 (rd w32 z)

  abbrev v_along : View (s.x *ℤ p.a)
  v_along = v_prod (v_fit32 s.x fx) (v_small hp.a)

  abbrev v_across : View (s.y *ℤ p.b)
  v_across = v_prod (v_fit32 s.y fy) (v_small hp.b)

  along_is : wide s.x *ℤ rd w64 p.a ≡ s.x *ℤ p.a
  along_is = ap₂ ◌*ℤ◌ (kept w64 (kept w32 refl (v_fit32 s.x fx) tt) (v_fit32 s.x fx) tt) (kept w64 refl (v_small hp.a) tt)

  across_is : wide s.y *ℤ rd w64 p.b ≡ s.y *ℤ p.b
  across_is = ap₂ ◌*ℤ◌ (kept w64 (kept w32 refl (v_fit32 s.y fy) tt) (v_fit32 s.y fy) tt) (kept w64 refl (v_small hp.b) tt)

  pub along_fits : SFits w64 (wide s.x *ℤ rd w64 p.a)
  along_fits = fits_as along_is v_along tt

  pub across_fits : SFits w64 (wide s.y *ℤ rd w64 p.b)
  across_fits = fits_as across_is v_across tt

  abbrev steps : ℤ
  steps = rd w64 (wide s.x *ℤ rd w64 p.a) +ℤ rd w64 (wide s.y *ℤ rd w64 p.b)

  steps_is : steps ≡ s.x *ℤ p.a +ℤ s.y *ℤ p.b
  steps_is = ap₂ ◌+ℤ◌ (kept w64 along_is v_along tt) (kept w64 across_is v_across tt)

  pub steps_fits : SFits w64 steps
  steps_fits = fits_as steps_is (v_add v_along v_across) tt

  abbrev v_value : View (s.x *ℤ p.a +ℤ s.y *ℤ p.b +ℤ s.c)
  v_value = v_add (v_add v_along v_across) (v_fit32 s.c fc)

  all_is : rd w64 steps +ℤ wide s.c ≡ s.x *ℤ p.a +ℤ s.y *ℤ p.b +ℤ s.c
  all_is = ap₂ ◌+ℤ◌ (kept w64 steps_is (v_add v_along v_across) tt) (kept w64 (kept w32 refl (v_fit32 s.c fc) tt) (v_fit32 s.c fc) tt)

  pub value_fits : SFits w64 (rd w64 steps +ℤ wide s.c)
  value_fits = fits_as all_is v_value tt

  pub value_is : rd w64 (rd w64 steps +ℤ wide s.c) ≡ value s p
  unfolding value
  value_is = kept w64 all_is v_value tt
