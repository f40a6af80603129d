-- The fold along the curve: from a place on, the largest cell that begins at the next position that is there, and then from its end.
use mathlib.Core.Bool.{Bool, true, false, and-true, true≢false}
use mathlib.Core.Path.{◌≡◌, sym, ap, ap₂, subst, ◌∙◌}
use mathlib.Core.List.{List, [], ◌∷◌, ◌++◌, append_assoc, append-nil}
use Prim.Native.Nat.{ℕ, zero, suc, ◌+◌, ◌-◌, ◌*◌, ◌/◌, ◌%◌, ◌^◌, ◌<◌, ◌≤◌}
use native.Mathlib.Nat as N
use native.Mathlib.Numerals.{add-one}
use native.Mathlib.Omega.{arith}
use native.Mathlib.Decide.{dec_lt}
use lib.ListN.{drop}
use lib.Pow.{pow-add}
use Rattle.whole.proofs.Digits.{four_power, four_times_power}
use Rattle.fold.specs.Cells.{Cell, cell}
use Rattle.fold.specs.Folds.{has, has_all_of, whole, fold_of}
use Rattle.fold.specs.Inside.Pairs.{Laid}
use Rattle.fold.proofs.BlockLaws.{quarters}
use Rattle.fold.proofs.Induction.{Loose, fold_all}
use Rattle.fold.proofs.Ground.{whole_has, has_whole}

abbrev pub Clear : (ℕ → Bool) → ℕ → ℕ → Type 0
Clear f lo hi = (s : ℕ) → lo ≤ s → s < hi → f s ≡ false

abbrev pub Full : (ℕ → Bool) → ℕ → ℕ → Type 0
Full f lo hi = (s : ℕ) → lo ≤ s → s < hi → f s ≡ true

-- the largest cell that begins at lo, k resolutions above r
pub record Largest (r : ℕ) (f : ℕ → Bool) (lo k : ℕ) : Type 0 where
  pub within : k ≤ r
  pub even : lo % 4 ^ k ≡ 0
  pub full : Full f lo (lo + 4 ^ k)
  pub top : k < r → lo % 4 ^ suc k ≡ 0 → Full f lo (lo + 4 ^ suc k) → ⊥

abbrev pub Along : ℕ → (ℕ → Bool) → ℕ → List Cell → Type 0
Along r f place [] = (s : ℕ) → place ≤ s → f s ≡ false
Along r f place (cell m p ∷ cells) =
    (m ≤ r) × (place ≤ p * 4 ^ (r - m)) × Clear f place (p * 4 ^ (r - m)) × Largest r f (p * 4 ^ (r - m)) (r - m) × Along r f (suc p * 4 ^ (r - m)) cells

module _ (r : ℕ) (f : ℕ → Bool) where
  pub widen : (place to : ℕ) (cells : List Cell) → place ≤ to → Clear f place to → Along r f to cells → Along r f place cells
  widen place to [] h c t = λ s l. elim (dec_lt s to) [
    | yes j ↦ c s l j
    | no j ↦ t s (omega arith)
  ]
  widen place to (cell m p ∷ cells) h c t = (
    t.0,
    N.le_trans h t.1,
    (λ s l j. elim (dec_lt s to) [
      | yes i ↦ c s l i
      | no i ↦ t.2 s (omega arith) j
    ]),
    t.3,
    t.4,
  )

  -- ---- a fold goes so
  module _ (xs : List ℕ) (tells : (s : ℕ) → has xs s ≡ f s) where
    Between : ℕ → ℕ → ℕ → List Cell → Type 0
    Between k m q cells = (rest : List Cell) → Along r f (suc q * 4 ^ k) rest → Along r f (q * 4 ^ k) (cells ++ rest)

    one : (k m q : ℕ) → m + k ≡ r → Loose r xs k q → whole xs k q ≡ true → Between k m q (cell m q ∷ [])
    unfolding Between
    one k m q e loose w rest t =
        let j : r - m ≡ k = omega arith in
        let u = N.suc-mul q (4 ^ k) in
        let full : Full f (q * 4 ^ k) (q * 4 ^ k + 4 ^ k) = λ s h l. sym (tells s) ∙ whole_has xs k q s w (N.div-eq_of_lt-le (4 ^ k) h (rw (add-one q) (omega arith))) in
        let top : k < r → q * 4 ^ k % 4 ^ suc k ≡ 0 → Full f (q * 4 ^ k) (q * 4 ^ k + 4 ^ suc k) → ⊥ =
        λ h i g.
        (let p = four_times_power k in
        let same : q / 4 * 4 ^ suc k ≡ q * 4 ^ k = rw p (quarters q (4 ^ k) (four_power k) (rw p at i)) in
        true≢false (sym (has_whole xs (suc k) (q / 4) (λ s d.
        (let v = ap (λ (x : ℕ). x * 4 ^ suc k) d in
        tells s ∙ g s (omega (arith, N.div-mul-le_self s (4 ^ suc k))) (omega (arith, N.lt-div-mul-add {a = s} (four_power (suc k))))))) ∙ loose h)) in
        rw j (omega arith, N.le_refl _, (λ s h l. let z : ⊥ = omega arith in absurd z), record { within = omega arith; even = N.mul-mod_left q (4 ^ k); full = full; top = top }, t)

    none : (m q : ℕ) → whole xs zero q ≡ false → Between zero m q []
    unfolding Between whole has_all_of
    none m q w rest t =
        let h : has xs (q * 1) ≡ false = rw (N.add-zero, and-true) at w in
        let g : f q ≡ false = sym (tells q) ∙ rw N.mul-one at h in
        widen (q * 1) (suc q * 1) rest (omega arith) (λ s l j. (let e : s ≡ q = omega arith in rw e g)) t

    four : (k m q : ℕ) (a b c d : List Cell) → Between k (suc m) (4 * q) a → Between k (suc m) (4 * q + 1) b → Between k (suc m) (4 * q + 2) c
        → Between k (suc m) (4 * q + 3) d → Between (suc k) m q (a ++ (b ++ (c ++ d)))
    unfolding Between
    four k m q a b c d fa fb fc fd rest t =
        let e : suc (4 * q + 3) * 4 ^ k ≡ suc q * 4 ^ suc k = (let i : suc (4 * q + 3) ≡ suc q * 4 = omega arith in rw (i, four_times_power k) (N.mul_assoc (suc q) 4 (4 ^ k))) in
        let g : 4 * q * 4 ^ k ≡ q * 4 ^ suc k = (let i : 4 * q ≡ q * 4 = omega arith in rw (i, four_times_power k) (N.mul_assoc q 4 (4 ^ k))) in
        let u = fd rest (rw e t) in
        let v = fc (d ++ rest) (rw (← N.add-suc (4 * q) 2) u) in
        let w = fb (c ++ (d ++ rest)) (rw (← N.add-suc (4 * q) 1) v) in
        simp append_assoc (rw g at (fa (b ++ (c ++ (d ++ rest))) (rw (← add-one (4 * q)) w)))

    pub fold_along : ((s : ℕ) → 4 ^ r ≤ s → f s ≡ false) → Along r f 0 (fold_of r xs)
    unfolding Between
    fold_along past =
        let end : Along r f (1 * 4 ^ r) [] = λ s h. past s (omega arith) in
        rw (N.zero-mul (4 ^ r), append-nil) at (fold_all r xs Between one none four [] end)

  -- ---- the next cell
  not_above : {lo k l : ℕ} → Largest r f lo k → Largest r f lo l → k < l → ⊥
  not_above {lo} {k} {l} a b h =
      let d = l - suc k in
      let w = b.within in
      let e : 4 ^ l ≡ 4 ^ d * 4 ^ suc k = (let j : l ≡ d + suc k = omega arith in ap (λ (x : ℕ). 4 ^ x) j ∙ pow-add 4 d (suc k)) in
      let m : lo % 4 ^ l % 4 ^ suc k ≡ lo % 4 ^ suc k = rw e (N.mod-mod_of_dvd (4 ^ suc k) lo (N.dvd-mul_left (4 ^ suc k) (4 ^ d))) in
      let n : 4 ^ suc k ≤ 4 ^ l = N.pow-le-pow_right (omega arith) h in
      a.top (omega arith) (sym m ∙ ap (λ (x : ℕ). x % 4 ^ suc k) b.even ∙ N.zero-mod (4 ^ suc k)) (λ s i j. b.full s i (omega arith))

  largest_unique : {lo k l : ℕ} → Largest r f lo k → Largest r f lo l → k ≡ l
  largest_unique {lo} {k} {l} a b =
      let g = not_above a b in
      let h = not_above b a in
      elim (dec_lt k l) [
        | yes i ↦ absurd (g i)
        | no i ↦ elim (dec_lt l k) [
          | yes j ↦ absurd (h j)
          | no j ↦ omega arith
        ]
      ]

  pub next_cell : {lo k : ℕ} → Largest r f lo k → (cells : List Cell) → Along r f lo cells
      → (cells ≡ cell (r - k) (lo / 4 ^ k) ∷ drop 1 cells) × Along r f (lo + 4 ^ k) (drop 1 cells)
  next_cell {lo} {k} a [] t = absurd (true≢false (sym (a.full lo (omega arith) (omega (arith, four_power k))) ∙ t lo (omega arith)))
  next_cell {lo} {k} a (cell m p ∷ cells) t =
      let b = p * 4 ^ (r - m) in
      let same : b ≡ lo = elim (dec_lt lo b) [
        | yes h ↦ absurd (true≢false (sym (a.full lo (omega arith) (omega (arith, four_power k))) ∙ t.2 lo (omega arith) h))
        | no h ↦ omega (arith, t.1)
      ] in
      let e : r - m ≡ k = largest_unique (subst (λ (x : ℕ). Largest r f x (r - m)) same t.3) a in
      let w = a.within in
      let c : m ≡ r - k = omega (arith, t.0) in
      let d : p ≡ lo / 4 ^ k = sym (N.mul-div_cancel p (four_power k)) ∙ ap (λ (x : ℕ). p * 4 ^ x / 4 ^ k) (sym e) ∙ ap (λ (x : ℕ). x / 4 ^ k) same in
      let g : suc p * 4 ^ (r - m) ≡ lo + 4 ^ k = N.suc-mul p (4 ^ (r - m)) ∙ ap₂ (λ (x y : ℕ). x + 4 ^ y) same e in
      (ap₂ (λ (x y : ℕ). cell x y ∷ cells) c d, subst (λ (x : ℕ). Along r f x cells) g t.4)

  -- cells that go so are apart
  module _ (past : (s : ℕ) → 4 ^ r ≤ s → f s ≡ false) where
    inside_power : (m p : ℕ) → m ≤ r → p * 4 ^ (r - m) < 4 ^ r → p < 4 ^ m
    inside_power m p h l = elim (dec_lt p (4 ^ m)) [
      | yes i ↦ i
      | no i ↦
          (let g : 4 ^ m ≤ p = omega arith in
          let e : m + (r - m) ≡ r = omega arith in
          let z : ⊥ = omega (arith, N.mul-le-mul_right (4 ^ (r - m)) g, pow-add 4 m (r - m), ap (λ (x : ℕ). 4 ^ x) e) in absurd z)
    ]

    pub along_laid : (place : ℕ) (cells : List Cell) → Along r f place cells → Laid r place cells
    along_laid place [] t = tt
    along_laid place (cell m p ∷ cells) t =
        let b = p * 4 ^ (r - m) in
        let l : b < 4 ^ r = elim (dec_lt b (4 ^ r)) [
          | yes h ↦ h
          | no h ↦ absurd (true≢false (sym (t.3.full b (omega arith) (omega (arith, four_power (r - m)))) ∙ past b (omega arith)))
        ] in
        (t.0, inside_power m p t.0 l, t.1, along_laid (suc p * 4 ^ (r - m)) cells t.4)
