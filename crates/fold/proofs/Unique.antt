-- There is one list of cells alone that unfolds to a list and in which no four siblings follow each other: the fold. So every way of folding that keeps what a list unfolds to, and that goes on while it can, ends with it.
use mathlib.Core.Bool.{true, false}
use mathlib.Core.Logic.{⊎_elim}
use mathlib.Core.Path.{◌≡◌, refl, sym, ap, ap₂, subst, ◌∙◌}
use mathlib.Core.List.Memᴰ
use mathlib.Core.List.{List, [], ◌∷◌, ◌++◌, append_assoc, Memᴰ}
use Prim.Native.Nat.{ℕ, zero, suc, ◌+◌, ◌-◌, ◌*◌, ◌/◌, ◌%◌, ◌^◌, ◌<◌, ◌≤◌}
use native.Mathlib.Nat as N
use native.Mathlib.Omega.{arith}
use native.Mathlib.Decide.{dec_le}
use lib.ListN.{length, get_or, drop, length-append, length-drop}
use lib.Pow.{pow-add}
use lib.Seq.{get_or-drop, drop_at, drop-drop}
use Rattle.whole.proofs.Digits.{four_power, four_times_power, digit_below}
use Rattle.fold.specs.Cells.{Cell, cell}
use Rattle.fold.specs.Folds.{ascending, all_below, fold_of}
use Rattle.fold.specs.Unfolds.{run, unfold_of}
use Rattle.fold.specs.Foldings.{children, Ended, Lone}
use Rattle.fold.specs.Inside.Blocks.{block_at}
use Rattle.fold.proofs.BlockLaws.{which, quarters, block_facts, block_is, block_run, block_less, level_unique}
use Rattle.fold.proofs.RunLaws.{length_run, get_d_run}
use Rattle.fold.proofs.StepLaws.{Steps, fold_steps}

cancel : (a b k : ℕ) → a * 4 ^ k ≡ b * 4 ^ k → a ≡ b
cancel a b k e = sym (N.mul-div_cancel a (four_power k)) ∙ ap (λ (n : ℕ). n / 4 ^ k) e ∙ N.mul-div_cancel b (four_power k)

cons : {x y : Cell} {l t : List Cell} → x ≡ y → l ≡ t → x ∷ l ≡ y ∷ t
cons u v = ap₂ (λ (x : Cell) (l : List Cell). x ∷ l) u v

-- ---- the steps from an entry on are determined
steps_unique : (r : ℕ) (xs : List ℕ) → ascending xs ≡ true → (i : ℕ) (a b : List Cell) → Steps r xs i a → Steps r xs i b → a ≡ b
steps_unique r xs up i [] [] s t = refl
steps_unique r xs up i [] (cell m p ∷ b) s t = let z : ⊥ = omega arith in absurd z
steps_unique r xs up i (cell m p ∷ a) [] s t = let z : ⊥ = omega arith in absurd z
steps_unique r xs up i (cell m p ∷ a) (cell n q ∷ b) s t =
    let e : r - m ≡ r - n = level_unique xs i up s.2 t.2 in
    let f : m ≡ n = omega arith in
    let g : p * 4 ^ (r - m) ≡ q * 4 ^ (r - m) = sym s.3 ∙ t.3 ∙ ap (λ (k : ℕ). q * 4 ^ k) (sym e) in
    let h = cancel p q (r - m) g in
    let rest = steps_unique r xs up (i + 4 ^ (r - m)) a b s.4 (subst (λ (k : ℕ). Steps r xs (i + 4 ^ k) b) (sym e) t.4) in
    cons (ap₂ cell f h) rest

-- ---- cells that lie along a list from an entry on
abbrev Along : ℕ → List ℕ → ℕ → List Cell → Type 0
Along r xs i [] = length xs ≤ i
Along r xs i (cell m p ∷ cells) =
    (m ≤ r) × (i < length xs) × (block_at xs i (r - m) ≡ true) × (get_or xs i 0 ≡ p * 4 ^ (r - m)) × Along r xs (i + 4 ^ (r - m)) cells

-- no cell is finer than the list
abbrev pub Coarse : ℕ → List Cell → Type 0
Coarse r [] = Unit {0}
Coarse r (cell m p ∷ cells) = (m ≤ r) × Coarse r cells

along : (r : ℕ) (xs : List ℕ) (i : ℕ) (cells : List Cell) → Coarse r cells → unfold_of r cells ≡ drop i xs → Along r xs i cells
unfolding unfold_of
along r xs i [] c e = omega (arith, ap length e, length-drop i xs)
along r xs i (cell m p ∷ cells) c e =
    let n = 4 ^ (r - m) in
    let z = four_power (r - m) in
    let s = p * n in
    let long : i + n ≤ length xs = omega (arith, ap length e, length-drop i xs, length-append (run s n) (unfold_of r cells), length_run s n) in
    let at : (d : ℕ) → d < n → get_or xs (i + d) 0 ≡ s + d =
    λ d h. sym (get_or-drop i xs d 0) ∙ ap (λ (l : List ℕ). get_or l d 0) (sym e) ∙ get_d_run n s d (unfold_of r cells) h in
    let first : get_or xs i 0 ≡ s = simp N.add-zero at (at 0 z) in
    let rest : unfold_of r cells ≡ drop (i + n) xs = sym (drop_at (run s n) (unfold_of r cells) n (length_run s n)) ∙ ap (drop n) e ∙ drop-drop n i xs in
    (c.0, omega arith, block_is xs i (r - m) (rw first (N.mul-mod_left p n)) (omega arith) (rw first (at (n - 1) (omega arith))), first, along r xs (i + n) cells c.1 rest)

-- ---- parts of a block
-- its quarters are blocks
block_part : (xs : List ℕ) (i k j : ℕ) → ascending xs ≡ true → block_at xs i (suc k) ≡ true → j < 4
    → (block_at xs (i + j * 4 ^ k) k ≡ true) × (get_or xs (i + j * 4 ^ k) 0 ≡ get_or xs i 0 + j * 4 ^ k)
block_part xs i k j up e h =
    let n = 4 ^ k in
    let z = four_power k in
    let q = four_times_power k in
    let first = block_run xs i up (suc k) e (j * n) (omega (arith, digit_below n j 0 h z)) in
    let last = block_run xs i up (suc k) e (j * n + (n - 1)) (omega (arith, digit_below n j (n - 1) h (omega arith))) in
    let even = (block_facts xs i k (block_less xs i up k e)).0 in
    let at = ap (λ (x : ℕ). get_or xs x 0) (N.add_assoc i (j * n) (n - 1)) in
    (block_is xs (i + j * n) k (rw first.1 (N.add-mul-mod_self_right (get_or xs i 0) j n ∙ even)) (omega (arith, last.0)) (omega (arith, first.1, last.1)), first.1)

-- ---- where no four siblings stand together, the first cell is the largest that there is
abbrev First : ℕ → ℕ → List Cell → Type 0
First r k [] = ⊥
First r k (cell m p ∷ cells) = k ≤ r - m

-- cells that stand at the end of a list
abbrev Behind : List Cell → List Cell → Type 0
Behind cells all = (front : List Cell) × (all ≡ front ++ cells)

behind_rest : (c : Cell) (cells all : List Cell) → Behind (c ∷ cells) all → Behind cells all
behind_rest c cells all w = (w.0 ++ (c ∷ []), w.1 ∙ sym (append_assoc w.0 (c ∷ []) cells))

behind_next : (cells all : List Cell) → Behind cells all → Behind (drop 1 cells) all
behind_next [] all w = w
behind_next (c ∷ cells) all w = behind_rest c cells all w

-- four siblings, told one after another
siblings : (k m p : ℕ) (cells : List Cell) → 0 < m → k ≡ m → p / 4 * 4 ≡ p → cells ≡ cell k (p + 1) ∷ drop 1 cells → drop 1 cells ≡ cell k (p + 2) ∷ drop 1 (drop 1 cells)
    → drop 1 (drop 1 cells) ≡ cell k (p + 3) ∷ drop 1 (drop 1 (drop 1 cells)) → cell m p ∷ cells ≡ children (m - 1) (p / 4) (drop 1 (drop 1 (drop 1 cells)))
siblings k m p cells h e f a b c =
    let same : m ≡ suc (m - 1) = omega arith in
    let next : (j : ℕ) → cell k (p + j) ≡ cell (suc (m - 1)) (4 * (p / 4) + j) = λ j. ap₂ cell (e ∙ same) (omega arith) in
    cons (ap₂ cell same (omega arith)) (a ∙ cons (next 1) (b ∙ cons (next 2) (c ∙ cons (next 3) refl)))

module _ (r : ℕ) (xs : List ℕ) (up : ascending xs ≡ true) where
  -- a cell that begins where no larger one can
  exact : (k q i : ℕ) (cells : List Cell) → k ≤ r → Along r xs i cells → First r k cells → get_or xs i 0 ≡ q * 4 ^ k → (q % 4 ≡ 0 → ⊥)
      → (cells ≡ cell (r - k) q ∷ drop 1 cells) × Along r xs (i + 4 ^ k) (drop 1 cells)
  exact k q i [] h l f e z = absurd f
  exact k q i (cell m p ∷ cells) h l f e z = elim (dec_le (r - m) k) [
    | yes g ↦
        (let j : r - m ≡ k = omega arith in
        let t : p ≡ q = cancel p q k (rw j at (sym l.3) ∙ e) in
        (ap₂ (λ (x y : ℕ). cell x y ∷ cells) (omega arith) t, rw j at l.4))
    | no g ↦
        (let d = r - m - suc k in
        let j : r - m ≡ d + suc k = omega arith in
        let t : p * 4 ^ (r - m) ≡ p * 4 ^ d * 4 * 4 ^ k =
        ap (λ (x : ℕ). p * 4 ^ x) j ∙ ap (λ (x : ℕ). p * x) (pow-add 4 d (suc k) ∙ ap (λ (x : ℕ). 4 ^ d * x) (four_times_power k)) ∙ sym (N.mul_assoc p (4 ^ d) (4 * 4 ^ k))
        ∙ sym (N.mul_assoc (p * 4 ^ d) 4 (4 ^ k)) in
        let u : q ≡ p * 4 ^ d * 4 = cancel q (p * 4 ^ d * 4) k (sym e ∙ l.3 ∙ t) in
        absurd (z (rw u (N.mul-mod_left (p * 4 ^ d) 4))))
  ]

  module _ (all : List Cell) (ended : Ended all) where
    Front : ℕ → Type 0
    Front k = (i : ℕ) (cells : List Cell) → Behind cells all → Along r xs i cells → block_at xs i k ≡ true → k ≤ r → First r k cells

    front_zero : Front zero
    unfolding Front
    front_zero i [] w l b h = let f = block_facts xs i zero b in omega arith
    front_zero i (cell m p ∷ cells) w l b h = omega arith

    front_suc : (k : ℕ) → Front k → Front (suc k)
    unfolding Front
    front_suc k front i [] w l b h = let f = block_facts xs i (suc k) b in omega (arith, four_power (suc k))
    front_suc k front i (cell m p ∷ cells) w l b h = elim (dec_le (suc k) (r - m)) [
      | yes g ↦ g
      | no g ↦
          (let n = 4 ^ k in
          let f = front i (cell m p ∷ cells) w l (block_less xs i up k b) (omega arith) in
          let e : r - m ≡ k = omega arith in
          let s : get_or xs i 0 ≡ p * n = rw e at l.3 in
          let four : p / 4 * 4 ≡ p = cancel (p / 4 * 4) p k
          (N.mul_assoc (p / 4) 4 n ∙ quarters p n (four_power k) (rw (← s, ← four_times_power k) (block_facts xs i (suc k) b).0)) in
          let next : (j : ℕ) → 0 < j → j < 4 → (rest : List Cell) → Behind rest all → Along r xs (i + j * n) rest
          → (rest ≡ cell (r - k) (p + j) ∷ drop 1 rest) × Along r xs (i + suc j * n) (drop 1 rest) =
          λ j y u rest v t.
          (let part = block_part xs i k j up b u in
          let x = exact k (p + j) (i + j * n) rest (omega arith) t (front (i + j * n) rest v t part.0 (omega arith))
          (part.1 ∙ ap (λ (x : ℕ). x + j * n) s ∙ sym (N.add-mul p j n)) (omega arith) in
          let far : i + j * n + n ≡ i + suc j * n = omega (arith, N.suc-mul j n) in
          (x.0, rw far at x.1)) in
          let w0 = behind_rest (cell m p) cells all w in
          let w1 = behind_next cells all w0 in
          let w2 = behind_next (drop 1 cells) all w1 in
          let near : i + 4 ^ (r - m) ≡ i + 1 * n = rw e (omega arith) in
          let a = next 1 (omega arith) (omega arith) cells w0 (rw near at l.4) in
          let b = next 2 (omega arith) (omega arith) (drop 1 cells) w1 a.1 in
          let c = next 3 (omega arith) (omega arith) (drop 1 (drop 1 cells)) w2 b.1 in
          let all_four = siblings (r - k) m p cells (omega arith) (omega arith) four a.0 b.0 c.0 in
          absurd (ended _ (record { m = m - 1; p = p / 4; front = w.0; back = _; four = w.1 ∙ ap (λ (x : List Cell). w.0 ++ x) all_four; one = refl })))
    ]

    front : (k : ℕ) → Front k
    front zero = front_zero
    front (suc k) = front_suc k (front k)

    steps : (i : ℕ) (cells : List Cell) → Behind cells all → Along r xs i cells → Steps r xs i cells
    unfolding Front
    steps i [] w l = l
    steps i (cell m p ∷ cells) w l =
        let top : r - m < r → block_at xs i (suc (r - m)) ≡ false =
        λ h. ⊎_elim
        (λ (b : block_at xs i (suc (r - m)) ≡ true). (let f = front (suc (r - m)) i (cell m p ∷ cells) w l b h in let z : ⊥ = omega arith in absurd z))
        (λ b. b) (which (block_at xs i (suc (r - m)))) in
        (l.0, l.1, record { within = omega arith; block = l.2; top = top }, l.3, steps (i + 4 ^ (r - m)) cells (behind_rest (cell m p) cells all w) l.4)

  pub only_fold : all_below (4 ^ r) xs ≡ true → (cells : List Cell) → Coarse r cells → unfold_of r cells ≡ xs → Ended cells → cells ≡ fold_of r xs
  only_fold below cells coarse e ended =
      steps_unique r xs up 0 cells (fold_of r xs) (steps cells ended 0 cells ([], refl) (along r xs 0 cells coarse e)) (fold_steps r xs up below)

-- ---- where no four siblings stand together, none follow each other
mem_child : (m p : ℕ) (back : List Cell) (j : ℕ) → j < 4 → Memᴰ (cell (suc m) (4 * p + j)) (children m p back)
mem_child m p back zero h = Memᴰ.head (ap (cell (suc m)) (N.add-zero (4 * p)))
mem_child m p back (suc zero) h = Memᴰ.tail (Memᴰ.head refl)
mem_child m p back (suc (suc zero)) h = Memᴰ.tail (Memᴰ.tail (Memᴰ.head refl))
mem_child m p back (suc (suc (suc zero))) h = Memᴰ.tail (Memᴰ.tail (Memᴰ.tail (Memᴰ.head refl)))
mem_child m p back (suc (suc (suc (suc j)))) h = let z : ⊥ = omega arith in absurd z

pub lone_ended : (cells : List Cell) → Lone cells → Ended cells
lone_ended cells lone next s =
    lone s.m s.p (λ j h. subst (Memᴰ (cell (suc s.m) (4 * s.p + j))) (sym s.four) (Memᴰ.append_right s.front (mem_child s.m s.p s.back j h)))
