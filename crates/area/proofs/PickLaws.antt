-- The positions that a test takes, in order: they ascend, they are those that it takes, and cells in curve order unfold to them.
use mathlib.Core.Bool.{Bool, true, false, false≢true, true≢false}
use mathlib.Core.Logic.{⊎_elim}
use mathlib.Core.Path.{◌≡◌, refl, sym, ap, ◌∙◌}
use mathlib.Core.List.{List, [], ◌∷◌, ◌++◌}
use Prim.Native.Nat.{ℕ, zero, suc, ◌+◌, ◌-◌, ◌*◌, ◌^◌, ◌<◌, ◌≤◌}
use native.Mathlib.Nat as N
use native.Mathlib.Omega.{arith}
use native.Mathlib.Decide.{ℕ_discrete, dec_lt}
use borrow.Author.Tests.{lt-ltb, eq-eqb, ne_eqb}
use Rattle.fold.specs.Cells.{Cell, cell}
use Rattle.fold.specs.Folds.{has, all_below, ascending}
use Rattle.fold.specs.Unfolds.{run, unfold_of}
use Rattle.fold.specs.Inside.Pairs.{Laid}
use Rattle.area.specs.Areas.{held, picked}
use Rattle.area.proofs.CellLaws.{in_cell, before_cell, after_cell, laid_clear}
use Rattle.fold.proofs.BlockLaws.{which}
use Rattle.fold.proofs.PairTestLaws.{ends_inside}

module _ (f : ℕ → Bool) where
  -- ---- they ascend
  up_cons : (n s x : ℕ) → x < s → ascending (x ∷ picked f s n) ≡ true
  unfolding picked ascending
  up_cons zero s x h = refl
  up_cons (suc n) s x h =
      ⊎_elim (λ (e : f s ≡ true). rw (e, lt-ltb x s h) (up_cons n (suc s) s (omega arith)))
      (λ (e : f s ≡ false). rw e (up_cons n (suc s) x (omega arith))) (which (f s))

  pub picked_up : (n s : ℕ) → ascending (picked f s n) ≡ true
  unfolding picked ascending
  picked_up zero s = refl
  picked_up (suc n) s =
      ⊎_elim (λ (e : f s ≡ true). rw e (up_cons n (suc s) s (omega arith))) (λ (e : f s ≡ false). rw e (picked_up n (suc s))) (which (f s))

  pub picked_below : (n s l : ℕ) → s + n ≤ l → all_below l (picked f s n) ≡ true
  unfolding picked all_below
  picked_below zero s l h = refl
  picked_below (suc n) s l h =
      let rest = picked_below n (suc s) l (omega arith) in
      ⊎_elim (λ (e : f s ≡ true). rw (e, lt-ltb s l (omega arith)) rest) (λ (e : f s ≡ false). rw e rest) (which (f s))

  -- ---- they are those that the test takes
  picked_has : (n s t : ℕ) → f t ≡ true → s ≤ t → t < s + n → has (picked f s n) t ≡ true
  unfolding picked has
  picked_has zero s t e h l = let z : ⊥ = omega arith in absurd z
  picked_has (suc n) s t e h l = elim (ℕ_discrete s t) [
    | yes q ↦ (let g : f s ≡ true = rw q e in rw (g, eq-eqb s t q))
    | no q ↦
        (let rest = picked_has n (suc s) t e (omega arith) (omega arith) in
        ⊎_elim (λ (g : f s ≡ true). rw (g, ne_eqb s t q) rest) (λ (g : f s ≡ false). rw g rest) (which (f s)))
  ]

  has_picked : (n s t : ℕ) → has (picked f s n) t ≡ true → f t ≡ true
  unfolding picked has
  has_picked zero s t h = absurd (false≢true h)
  has_picked (suc n) s t h =
      ⊎_elim
      (λ (g : f s ≡ true). elim (ℕ_discrete s t) [
        | yes q ↦ rw q at g
        | no q ↦ has_picked n (suc s) t (rw (g, ne_eqb s t q) at h)
      ])
      (λ (g : f s ≡ false). has_picked n (suc s) t (rw g at h)) (which (f s))

  -- where it takes none past the last
  pub picked_tells : (n : ℕ) → ((s : ℕ) → n ≤ s → f s ≡ false) → (s : ℕ) → has (picked f 0 n) s ≡ f s
  picked_tells n past s =
      ⊎_elim
      (λ (g : f s ≡ true). elim (dec_lt s n) [
        | yes h ↦ picked_has n 0 s g (omega arith) (omega arith) ∙ sym g
        | no h ↦ absurd (true≢false (sym g ∙ past s (omega arith)))
      ])
      (λ (g : f s ≡ false). ⊎_elim (λ (h : has (picked f 0 n) s ≡ true). absurd (true≢false (sym (has_picked n 0 s h) ∙ g))) (λ h. h ∙ sym g) (which (has (picked f 0 n) s)))
      (which (f s))

  -- ---- stretch by stretch
  picked_skip : (d s n : ℕ) → ((t : ℕ) → s ≤ t → t < s + d → f t ≡ false) → picked f s (d + n) ≡ picked f (s + d) n
  unfolding picked
  picked_skip zero s n g = rw (N.zero-add, N.add-zero)
  picked_skip (suc d) s n g =
      rw (N.suc-add d n, g s (omega arith) (omega arith), N.add-suc s d, ← N.suc-add s d) (picked_skip d (suc s) n (λ t h l. g t (omega arith) (omega arith)))

  picked_run : (d s n : ℕ) → ((t : ℕ) → s ≤ t → t < s + d → f t ≡ true) → picked f s (d + n) ≡ run s d ++ picked f (s + d) n
  unfolding picked run
  picked_run zero s n g = rw (N.zero-add, N.add-zero)
  picked_run (suc d) s n g =
      rw (N.suc-add d n, g s (omega arith) (omega arith), N.add-suc s d, ← N.suc-add s d)
      (ap (λ (l : List ℕ). s ∷ l) (picked_run d (suc s) n (λ t h l. g t (omega arith) (omega arith))))

  picked_none : (n s : ℕ) → ((t : ℕ) → f t ≡ false) → picked f s n ≡ []
  unfolding picked
  picked_none zero s g = refl
  picked_none (suc n) s g = rw (g s) (picked_none n (suc s) g)

pub picked_same : (f g : ℕ → Bool) (n s : ℕ) → ((t : ℕ) → s ≤ t → f t ≡ g t) → picked f s n ≡ picked g s n
unfolding picked
picked_same f g zero s e = refl
picked_same f g (suc n) s e = rw (e s (omega arith), picked_same f g n (suc s) (λ t h. e t (omega arith)))

-- ---- cells in curve order unfold to the positions that they hold
pub unfold_picked : (r : ℕ) (cells : List Cell) (place n : ℕ) → Laid r place cells → place + n ≡ 4 ^ r → unfold_of r cells ≡ picked (held r cells) place n
unfolding unfold_of held
unfold_picked r [] place n l e = sym (picked_none (held r []) n place (λ t. refl))
unfold_picked r (cell m p ∷ cells) place n l e =
    let k = r - m in
    let w = 4 ^ k in
    let f = held r (cell m p ∷ cells) in
    let q = N.suc-mul p w in
    let top = ends_inside r m p l.0 l.1 in
    let low = l.2 in
    let d = p * w - place in
    let rest = n - d - w in
    let split : n ≡ d + (w + rest) = omega arith in
    let to : place + d ≡ p * w = omega arith in
    let clear : (t : ℕ) → place ≤ t → t < place + d → f t ≡ false =
    λ t h j. rw (before_cell k p t (omega arith)) (laid_clear r (suc p * w) cells t l.3 (omega arith)) in
    let full : (t : ℕ) → p * w ≤ t → t < p * w + w → f t ≡ true = λ t h j. rw (in_cell k p t h (omega arith)) in
    let past : (t : ℕ) → suc p * w ≤ t → held r cells t ≡ f t = λ t h. rw (after_cell k p t h) in
    let a : picked f place n ≡ picked f (p * w) (w + rest) = ap (picked f place) split ∙ picked_skip f d place (w + rest) clear ∙ ap (λ (x : ℕ). picked f x (w + rest)) to in
    let b : picked f (p * w) (w + rest) ≡ run (p * w) w ++ picked f (suc p * w) rest = picked_run f w (p * w) rest full ∙ ap (λ (x : ℕ). run (p * w) w ++ picked f x rest) (sym q) in
    let c : unfold_of r cells ≡ picked f (suc p * w) rest = unfold_picked r cells (suc p * w) rest l.3 (omega arith) ∙ picked_same (held r cells) f rest (suc p * w) past in
    ap (λ (x : List ℕ). run (p * w) w ++ x) c ∙ sym b ∙ sym a
