-- No list of cells, in any order, overlapping or not, that covers the positions of a list and no others is shorter than the list's fold.
-- In each cell that stands in the fold lies a cell of the other list: the one that covers its first position, which cannot be larger, since the cell above is not whole.
use mathlib.Core.Bool.{Bool, true, false, cond, ◌&&◌, true≢false}
use mathlib.Core.Logic.{◌↔◌, inl, inr, ⊎_elim}
use mathlib.Core.Path.{◌≡◌, sym, ap, ◌∙◌}
use mathlib.Core.List.{List, [], ◌∷◌, ◌++◌}
use Prim.Native.Nat.{ℕ, zero, suc, ◌+◌, ◌-◌, ◌*◌, ◌/◌, ◌^◌, ◌≤◌}
use native.Mathlib.Nat as N
use native.Mathlib.Omega.{arith}
use native.Mathlib.Decide.{dec_le, ℕ_discrete}
use lib.Dec.{leb, eqb}
use lib.ListN.{length, length-append}
use lib.Pow.{pow-add}
use borrow.Author.Tests.{le-leb, lt-leb, eq-eqb, ne_eqb}
use Rattle.whole.proofs.Digits.{four_power}
use Rattle.fold.specs.Cells.{Cell, cell, Covers, Covered}
use Rattle.fold.specs.Folds.{has, whole, fold_of}
use Rattle.fold.proofs.Induction.{Loose, fold_all}
use Rattle.fold.proofs.Ground.{whole_has, has_whole, quarter}

-- ---- digits
pub div_pow : (s a b : ℕ) → s / 4 ^ (a + b) ≡ s / 4 ^ a / 4 ^ b
div_pow s a b = ap (λ (n : ℕ). s / n) (pow-add 4 a b) ∙ sym (N.div-div-eq-div-mul s (4 ^ a) (4 ^ b))

module _ (q k l d : ℕ) where
  -- a cell above, seen from the first position of a cell
  from_above : l ≡ suc k + d → q * 4 ^ k / 4 ^ l ≡ q / 4 / 4 ^ d
  from_above e = rw e (div_pow (q * 4 ^ k) (suc k) d ∙ ap (λ (n : ℕ). n / 4 ^ d) (quarter (q * 4 ^ k) k ∙ ap (λ (n : ℕ). n / 4) (N.mul-div_cancel q (four_power k))))

  -- a cell below, from the same
  from_below : k ≡ d + l → q * 4 ^ k / 4 ^ l * 4 ^ l / 4 ^ k ≡ q
  from_below e =
      let f : q * 4 ^ k ≡ q * 4 ^ d * 4 ^ l = rw (e, pow-add 4 d l) (sym (N.mul_assoc q (4 ^ d) (4 ^ l))) in
      let g : q * 4 ^ k / 4 ^ l ≡ q * 4 ^ d = rw f (N.mul-div_cancel (q * 4 ^ d) (four_power l)) in
      rw (g, ← f) (N.mul-div_cancel q (four_power k))

module _ (r : ℕ) where
  -- ---- the cells of a list that lie in the cell q, k resolutions above r
  abbrev lies : ℕ → ℕ → Cell → Bool
  lies k q (cell m p) = leb m r && (leb (r - m) k && eqb (p * 4 ^ (r - m) / 4 ^ k) q)

  weight : ℕ → ℕ → Cell → ℕ
  weight k q c = cond (lies k q c) 1 0

  count : ℕ → ℕ → List Cell → ℕ
  count k q [] = 0
  count k q (c ∷ cells) = weight k q c + count k q cells

  count_most : (k q : ℕ) (cells : List Cell) → count k q cells ≤ length cells
  unfolding count weight
  count_most k q [] = omega arith
  count_most k q (c ∷ cells) = omega (arith, light (lies k q c), count_most k q cells)
    where
      light : (b : Bool) → cond b 1 0 ≤ 1
      light true = omega arith
      light false = omega arith

  -- ---- in at most one of four children, and then in the parent
  same : ℕ → ℕ → ℕ
  same a b = cond (eqb a b) 1 0

  same_yes : (a b : ℕ) → a ≡ b → same a b ≡ 1
  unfolding same
  same_yes a b e = rw (eq-eqb a b e)

  same_no : (a b : ℕ) → (a ≡ b → ⊥) → same a b ≡ 0
  unfolding same
  same_no a b e = rw (ne_eqb a b e)

  in_one : (t q : ℕ) → same t (4 * q) + (same t (4 * q + 1) + (same t (4 * q + 2) + same t (4 * q + 3))) ≤ same (t / 4) q
  in_one t q = elim (ℕ_discrete (t / 4) q) [
    | yes e ↦ (let y = same_yes (t / 4) q e in elim (ℕ_discrete t (4 * q)) [
      | yes a ↦ omega (arith, same_yes t (4 * q) a, same_no t (4 * q + 1) (omega arith), same_no t (4 * q + 2) (omega arith), same_no t (4 * q + 3) (omega arith))
      | no a ↦ elim (ℕ_discrete t (4 * q + 1)) [
        | yes b ↦ omega (arith, same_no t (4 * q) a, same_yes t (4 * q + 1) b, same_no t (4 * q + 2) (omega arith), same_no t (4 * q + 3) (omega arith))
        | no b ↦ elim (ℕ_discrete t (4 * q + 2)) [
          | yes c ↦ omega (arith, same_no t (4 * q) a, same_no t (4 * q + 1) b, same_yes t (4 * q + 2) c, same_no t (4 * q + 3) (omega arith))
          | no c ↦ omega (arith, same_no t (4 * q) a, same_no t (4 * q + 1) b, same_no t (4 * q + 2) c, same_yes t (4 * q + 3) (omega arith))
        ]
      ]
    ])
    | no e ↦ omega (arith, same_no t (4 * q) (omega arith), same_no t (4 * q + 1) (omega arith), same_no t (4 * q + 2) (omega arith), same_no t (4 * q + 3) (omega arith))
  ]

  -- a cell that is small enough counts by where it begins; any other counts nowhere
  weight_small : (k q m p : ℕ) → m ≤ r → r - m ≤ k → weight k q (cell m p) ≡ same (p * 4 ^ (r - m) / 4 ^ k) q
  unfolding weight same
  weight_small k q m p h l = rw (le-leb m r h, le-leb (r - m) k l)

  weight_large : (k q m p : ℕ) → (m ≤ r → r - m ≤ k → ⊥) → weight k q (cell m p) ≡ 0
  unfolding weight
  weight_large k q m p f = elim (dec_le m r) [
    | yes h ↦ rw (le-leb m r h, lt-leb (r - m) k (let g = f h in omega arith))
    | no h ↦ rw (lt-leb m r (omega arith))
  ]

  weight_four : (k q : ℕ) (c : Cell) → weight k (4 * q) c + (weight k (4 * q + 1) c + (weight k (4 * q + 2) c + weight k (4 * q + 3) c)) ≤ weight (suc k) q c
  weight_four k q (cell m p) = elim (dec_le m r) [
    | yes h ↦ elim (dec_le (r - m) k) [
      | yes l ↦
          (let t = p * 4 ^ (r - m) in
          rw (
            weight_small k (4 * q) m p h l,
            weight_small k (4 * q + 1) m p h l,
            weight_small k (4 * q + 2) m p h l,
            weight_small k (4 * q + 3) m p h l,
            weight_small (suc k) q m p h (omega arith),
            quarter t k,
          ) (in_one (t / 4 ^ k) q))
      | no l ↦ none (λ h j. l j)
    ]
    | no h ↦ none (λ i j. h i)
  ]
    where
      none : (m ≤ r → r - m ≤ k → ⊥) → weight k (4 * q) (cell m p) + (weight k (4 * q + 1) (cell m p) + (weight k (4 * q + 2) (cell m p) + weight k (4 * q + 3) (cell m p))) ≤ weight (suc k) q (cell m p)
      none f = omega (arith, weight_large k (4 * q) m p f, weight_large k (4 * q + 1) m p f, weight_large k (4 * q + 2) m p f, weight_large k (4 * q + 3) m p f)

  count_four : (k q : ℕ) (cells : List Cell) → count k (4 * q) cells + (count k (4 * q + 1) cells + (count k (4 * q + 2) cells + count k (4 * q + 3) cells)) ≤ count (suc k) q cells
  unfolding count
  count_four k q [] = omega arith
  count_four k q (c ∷ cells) = omega (arith, weight_four k q c, count_four k q cells)

  -- ---- another list of cells
  module _ (xs : List ℕ) where
    -- a cell that covers the first position of a cell, and no position that is not there, lies in it if the cell above is not whole
    covers_lies : (k q : ℕ) (c : Cell) → Loose r xs k q → Covers r c (q * 4 ^ k) → ((s : ℕ) → Covers r c s → has xs s ≡ true) → weight k q c ≡ 1
    covers_lies k q (cell m p) f c sound =
        let l = r - m in
        elim (dec_le l k) [
          | yes h ↦ weight_small k q m p c.0 h ∙ same_yes (p * 4 ^ l / 4 ^ k) q (rw (← c.1) (from_below q k l (k - l) (omega arith)))
          | no h ↦
              (let d = l - suc k in
              let e : l ≡ suc k + d = omega arith in
              let w : whole xs (suc k) (q / 4) ≡ true =
              has_whole xs (suc k) (q / 4) (λ s i. sound s (c.0, ap (λ (n : ℕ). s / 4 ^ n) e ∙ div_pow s (suc k) d ∙ ap (λ (n : ℕ). n / 4 ^ d) i ∙ sym (from_above q k l d e) ∙ c.1)) in
              absurd (true≢false (sym w ∙ f (omega arith))))
        ]

    found : (k q : ℕ) → Loose r xs k q → (cells : List Cell) → ((s : ℕ) → Covered r cells s → has xs s ≡ true) → Covered r cells (q * 4 ^ k) → 1 ≤ count k q cells
    unfolding count
    found k q f [] sound h = absurd h
    found k q f (c ∷ cells) sound h =
        ⊎_elim
        (λ (i : Covers r c (q * 4 ^ k)). omega (arith, covers_lies k q c f i (λ s j. sound s (inl j))))
        (λ (i : Covered r cells (q * 4 ^ k)). omega (arith, found k q f cells (λ s j. sound s (inr j)) i))
        h

    module _ (cells : List Cell) (same_ground : (s : ℕ) → Covered r cells s ↔ (has xs s ≡ true)) where
      Fewest : ℕ → ℕ → ℕ → List Cell → Type 0
      Fewest k m q part = length part ≤ count k q cells

      one : (k m q : ℕ) → m + k ≡ r → Loose r xs k q → whole xs k q ≡ true → Fewest k m q (cell m q ∷ [])
      unfolding Fewest
      one k m q e f w =
          found k q f cells (λ s. (same_ground s).0) ((same_ground (q * 4 ^ k)).1 (whole_has xs k q (q * 4 ^ k) w (N.mul-div_cancel q (four_power k))))

      four : (k m q : ℕ) (a b c d : List Cell) → Fewest k (suc m) (4 * q) a → Fewest k (suc m) (4 * q + 1) b → Fewest k (suc m) (4 * q + 2) c
          → Fewest k (suc m) (4 * q + 3) d → Fewest (suc k) m q (a ++ (b ++ (c ++ d)))
      unfolding Fewest
      four k m q a b c d fa fb fc fd = simp length-append (omega (arith, count_four k q cells))

      none : (m q : ℕ) → whole xs zero q ≡ false → Fewest zero m q []
      unfolding Fewest
      none m q w = omega arith

      pub shortest : length (fold_of r xs) ≤ length cells
      unfolding Fewest
      shortest = let h = fold_all r xs Fewest one none four in omega (arith, count_most r 0 cells)
