-- The fold in steps: from an entry on, the largest cell that begins there, and then from the entry after its positions.
use mathlib.Core.Bool.{true, false, and-true, true≢false}
use mathlib.Core.Logic.{⊎_elim}
use mathlib.Core.Path.{◌≡◌, sym, ap, ◌∙◌}
use mathlib.Core.List.{List, [], ◌∷◌, ◌++◌, append_assoc, append-nil}
use Prim.Native.Nat.{ℕ, zero, suc, ◌+◌, ◌-◌, ◌*◌, ◌/◌, ◌%◌, ◌^◌, ◌<◌, ◌≤◌}
use native.Mathlib.Nat as N
use native.Mathlib.Numerals.{add-one}
use native.Mathlib.Omega.{arith}
use lib.ListN.{length, get_or}
use Rattle.whole.proofs.Digits.{four_power, four_times_power}
use Rattle.fold.specs.Cells.{Cell, cell}
use Rattle.fold.specs.Folds.{has, has_all_of, all_below, ascending, whole, fold_of}
use Rattle.fold.specs.Inside.Blocks.{block_at, Level}
use Rattle.fold.proofs.ListLaws.{has_entry, has_at, has_all, place, place_zero, place_end, place_not, place_has, place_all}
use Rattle.fold.proofs.BlockLaws.{which, quarters, block_facts, block_is, block_run}
use Rattle.fold.proofs.Induction.{Loose, fold_all}

-- these cells are what the steps from the entry i on give
abbrev pub Steps : ℕ → List ℕ → ℕ → List Cell → Type 0
Steps r xs i [] = length xs ≤ i
Steps r xs i (cell m p ∷ cells) =
    (m ≤ r) × (i < length xs) × Level r xs i (r - m) × (get_or xs i 0 ≡ p * 4 ^ (r - m)) × Steps r xs (i + 4 ^ (r - m)) cells

module _ (r : ℕ) (xs : List ℕ) (up : ascending xs ≡ true) where
  -- where a whole cell's positions stand
  module _ (k q : ℕ) (all : whole xs k q ≡ true) where
    abbrev start : ℕ
    start = place xs (q * 4 ^ k)

    has_each : (d : ℕ) → d < 4 ^ k → has xs (q * 4 ^ k + d) ≡ true
    unfolding whole
    has_each = has_at xs (q * 4 ^ k) (4 ^ k) all

    stands : (d : ℕ) → d < 4 ^ k → (start + d < length xs) × (get_or xs (start + d) 0 ≡ q * 4 ^ k + d)
    stands d h =
        let e = place_all xs (q * 4 ^ k) d up (has_all xs (q * 4 ^ k) d (λ j l. has_each j (omega arith))) in
        let f = place_has xs (q * 4 ^ k + d) up (has_each d h) in
        rw (← e) (f.2, f.1)

    first : (start < length xs) × (get_or xs start 0 ≡ q * 4 ^ k)
    first = simp N.add-zero at (stands 0 (four_power k))

    next : place xs (suc q * 4 ^ k) ≡ start + 4 ^ k
    unfolding whole
    next = ap (place xs) (N.suc-mul q (4 ^ k)) ∙ place_all xs (q * 4 ^ k) (4 ^ k) up all

    is_block : block_at xs start k ≡ true
    is_block =
        let z = four_power k in
        let l = stands (4 ^ k - 1) (omega arith) in
        block_is xs start k (rw first.1 (N.mul-mod_left q (4 ^ k))) (omega arith) (rw first.1 l.1)

    -- the cell above is whole too, if it begins there and its positions stand
    above : block_at xs start (suc k) ≡ true → whole xs (suc k) (q / 4) ≡ true
    unfolding whole
    above e =
        let p = four_times_power k in
        let m : q * 4 ^ k % (4 * 4 ^ k) ≡ 0 = rw (← p) (rw first.1 at (block_facts xs start (suc k) e).0) in
        let same : q / 4 * 4 ^ suc k ≡ q * 4 ^ k = rw p (quarters q (4 ^ k) (four_power k) m) in
        rw same
        (has_all xs (q * 4 ^ k) (4 ^ suc k) (λ d h.
        (let b = block_run xs start up (suc k) e d h in
        rw (← first.1, ← b.1) (has_entry xs (start + d) b.0))))

    is_level : k ≤ r → Loose r xs k q → Level r xs start k
    is_level h f =
        record {
          within = h;
          block = is_block;
          top = λ l. ⊎_elim (λ e. absurd (true≢false (sym (above e) ∙ f l))) (λ e. e) (which (block_at xs start (suc k)));
        }

    step : (m : ℕ) (cells : List Cell) → m + k ≡ r → Loose r xs k q
        → Steps r xs (place xs (suc q * 4 ^ k)) cells → Steps r xs start (cell m q ∷ cells)
    step m cells e f t =
        let j : r - m ≡ k = omega arith in
        rw (j, ← next) (omega arith, first.0, is_level (omega arith) f, first.1, t)

  -- a position that is not there has no place of its own
  gone : (q : ℕ) → whole xs zero q ≡ false → place xs (suc q * 1) ≡ place xs (q * 1)
  unfolding whole has_all_of
  gone q w =
      let h : has xs (q * 1) ≡ false = rw (N.add-zero, and-true) at w in
      ap (place xs) (N.mul-one (suc q)) ∙ place_not xs q (rw N.mul-one at h) ∙ ap (place xs) (sym (N.mul-one q))

  ends : (k q : ℕ) → suc (4 * q + 3) * 4 ^ k ≡ suc q * 4 ^ suc k
  ends k q =
      let e : suc (4 * q + 3) ≡ suc q * 4 = omega arith in
      rw (e, four_times_power k) (N.mul_assoc (suc q) 4 (4 ^ k))

  begins : (k q : ℕ) → 4 * q * 4 ^ k ≡ q * 4 ^ suc k
  begins k q =
      let e : 4 * q ≡ q * 4 = omega arith in
      rw (e, four_times_power k) (N.mul_assoc q 4 (4 ^ k))

  -- what lies in a cell stands between its place and the next cell's
  Between : ℕ → ℕ → ℕ → List Cell → Type 0
  Between k m q cells = (rest : List Cell) → Steps r xs (place xs (suc q * 4 ^ k)) rest → Steps r xs (place xs (q * 4 ^ k)) (cells ++ rest)

  one : (k m q : ℕ) → m + k ≡ r → Loose r xs k q → whole xs k q ≡ true → Between k m q (cell m q ∷ [])
  unfolding Between
  one k m q e f w rest t = step k q w m rest e f t

  none : (m q : ℕ) → whole xs zero q ≡ false → Between zero m q []
  unfolding Between
  none m q w rest t = rw (gone q w) at t

  four : (k m q : ℕ) (a b c d : List Cell) → Between k (suc m) (4 * q) a → Between k (suc m) (4 * q + 1) b → Between k (suc m) (4 * q + 2) c
      → Between k (suc m) (4 * q + 3) d → Between (suc k) m q (a ++ (b ++ (c ++ d)))
  unfolding Between
  four k m q a b c d fa fb fc fd rest t =
      let u = fd rest (rw (ends k q) t) in
      let v = fc (d ++ rest) (rw (← N.add-suc (4 * q) 2) u) in
      let w = fb (c ++ (d ++ rest)) (rw (← N.add-suc (4 * q) 1) v) in
      simp append_assoc (rw (begins k q) at (fa (b ++ (c ++ (d ++ rest))) (rw (← add-one (4 * q)) w)))

  -- the fold is what the steps from the first entry on give
  pub fold_steps : all_below (4 ^ r) xs ≡ true → Steps r xs 0 (fold_of r xs)
  unfolding Between
  fold_steps below =
      let end : Steps r xs (place xs (1 * 4 ^ r)) [] = rw (N.one-mul (4 ^ r), place_end (4 ^ r) xs below) (N.le_refl (length xs)) in
      let s = fold_all r xs Between one none four [] end in
      rw (N.zero-mul (4 ^ r), place_zero xs, append-nil) at s
