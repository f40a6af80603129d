-- Folding four children into their parent, again and again and in any order, comes to the fold, and where no step goes on it has come there.
use mathlib.Core.Bool.{true}
use mathlib.Core.Path.{◌≡◌, refl, sym, ap, ap₂, subst, ◌∙◌}
use mathlib.Core.List.{List, [], ◌∷◌, ◌++◌, append_assoc}
use Prim.Native.Nat.{ℕ, zero, suc, ◌+◌, ◌-◌, ◌*◌, ◌^◌, ◌≤◌}
use native.Mathlib.Nat as N
use native.Mathlib.Omega.{arith}
use lib.ListN.{length, length-append}
use Rattle.whole.proofs.Digits.{four_times_power}
use Rattle.fold.specs.Cells.{Cell, cell}
use Rattle.fold.specs.Folds.{all_below, ascending, fold_of}
use Rattle.fold.specs.Unfolds.{run, unfold_of}
use Rattle.fold.specs.Foldings.{cells_of, children, Step, Foldings, ended, further, Ended}
use Rattle.fold.proofs.StepLaws.{Steps, fold_steps}
use Rattle.fold.proofs.GivenBack.{unfold_fold}
use Rattle.fold.proofs.Unique.{Coarse, only_fold}

-- ---- runs of positions, cut
run_cut : (s n k : ℕ) → run s (n + k) ≡ run s n ++ run (s + n) k
unfolding run
run_cut s zero k = rw (N.zero-add, N.add-zero)
run_cut s (suc n) k = rw (N.suc-add n k) (ap (λ (l : List ℕ). s ∷ l) (run_cut (suc s) n k ∙ ap (λ (t : ℕ). run (suc s) n ++ run t k) (omega arith)))

-- a cell's positions are its four children's
run_four : (p k : ℕ) → run (p * 4 ^ suc k) (4 ^ suc k)
    ≡ run (4 * p * 4 ^ k) (4 ^ k) ++ (run ((4 * p + 1) * 4 ^ k) (4 ^ k) ++ (run ((4 * p + 2) * 4 ^ k) (4 ^ k) ++ run ((4 * p + 3) * 4 ^ k) (4 ^ k)))
run_four p k =
    let n = 4 ^ k in
    let s = 4 * p * n in
    let e : p * 4 ^ suc k ≡ s = rw (four_times_power k) (omega (arith, N.mul_assoc p 4 n, ap (λ (x : ℕ). x * n) (N.mul_comm 4 p))) in
    let f : 4 ^ suc k ≡ n + (n + (n + n)) = omega (arith, four_times_power k) in
    let e1 : (4 * p + 1) * n ≡ s + n = omega (arith, N.add-mul (4 * p) 1 n) in
    let e2 : (4 * p + 2) * n ≡ s + n + n = omega (arith, N.add-mul (4 * p) 2 n) in
    let e3 : (4 * p + 3) * n ≡ s + n + n + n = omega (arith, N.add-mul (4 * p) 3 n) in
    rw (e, f, e1, e2, e3, run_cut s n (n + (n + n)), run_cut (s + n) n (n + n), run_cut (s + n + n) n n)

-- ---- what a list unfolds to stays
unfold_append : (r : ℕ) (a b : List Cell) → unfold_of r (a ++ b) ≡ unfold_of r a ++ unfold_of r b
unfolding unfold_of
unfold_append r [] b = refl
unfold_append r (cell m p ∷ a) b =
    ap (λ (l : List ℕ). run (p * 4 ^ (r - m)) (4 ^ (r - m)) ++ l) (unfold_append r a b) ∙ sym (append_assoc (run (p * 4 ^ (r - m)) (4 ^ (r - m))) (unfold_of r a) (unfold_of r b))

coarse_back : (r : ℕ) (a b : List Cell) → Coarse r (a ++ b) → Coarse r b
coarse_back r [] b c = c
coarse_back r (cell m p ∷ a) b c = coarse_back r a b c.1

coarse_change : (r : ℕ) (a b d : List Cell) → Coarse r (a ++ b) → Coarse r d → Coarse r (a ++ d)
coarse_change r [] b d c e = e
coarse_change r (cell m p ∷ a) b d c e = (c.0, coarse_change r a b d c.1 e)

unfold_children : (r m p : ℕ) (back : List Cell) → suc m ≤ r → unfold_of r (children m p back) ≡ unfold_of r (cell m p ∷ back)
unfolding unfold_of
unfold_children r m p back h =
    let k = r - suc m in
    let e : r - m ≡ suc k = omega arith in
    rw (e, run_four p k) (simp append_assoc)

module _ (r : ℕ) (last : List Cell) where
  keeps : (cells : List Cell) → Foldings last cells → Coarse r cells → (unfold_of r cells ≡ unfold_of r last) × Coarse r last
  keeps cells (ended e) c = (ap (unfold_of r) e, subst (Coarse r) e c)
  keeps cells (further next s t) c =
      let front = s.front in
      let four = children s.m s.p s.back in
      let one = cell s.m s.p ∷ s.back in
      let d : Coarse r (front ++ four) = subst (Coarse r) s.four c in
      let h = coarse_back r front four d in
      let j : Coarse r next = subst (Coarse r) (sym s.one) (coarse_change r front four one d (omega arith, h.1.1.1.1)) in
      let i = keeps next t j in (
        ap (unfold_of r) s.four ∙ unfold_append r front four ∙ ap (λ (l : List ℕ). unfold_of r front ++ l) (unfold_children r s.m s.p s.back h.0)
            ∙ sym (unfold_append r front one) ∙ ap (unfold_of r) (sym s.one) ∙ i.0,
        i.1,
      )

unfold_cells : (r : ℕ) (xs : List ℕ) → unfold_of r (cells_of r xs) ≡ xs
unfolding unfold_of run
unfold_cells r [] = refl
unfold_cells r (s ∷ xs) = rw (N.sub_self r, N.mul-one s) (ap (λ (l : List ℕ). s ∷ l) (unfold_cells r xs))

coarse_cells : (r : ℕ) (xs : List ℕ) → Coarse r (cells_of r xs)
coarse_cells r [] = tt
coarse_cells r (s ∷ xs) = (N.le_refl r, coarse_cells r xs)

-- ---- one after another, and side by side
after : {c b a : List Cell} → Foldings c b → Foldings b a → Foldings c a
after {c} {b} {a} s (ended e) = subst (Foldings c) (sym e) s
after {c} {b} {a} s (further next t u) = further next t (after s u)

before : (x : List Cell) {c a : List Cell} → Foldings c a → Foldings (x ++ c) (x ++ a)
before x (ended e) = ended (ap (λ (l : List Cell). x ++ l) e)
before x (further next s t) =
    further (x ++ next)
    (record {
      m = s.m;
      p = s.p;
      front = x ++ s.front;
      back = s.back;
      four = ap (λ (l : List Cell). x ++ l) s.four ∙ sym (append_assoc x s.front (children s.m s.p s.back));
      one = ap (λ (l : List Cell). x ++ l) s.one ∙ sym (append_assoc x s.front (cell s.m s.p ∷ s.back));
    })
    (before x t)

behind : (y : List Cell) {c a : List Cell} → Foldings c a → Foldings (c ++ y) (a ++ y)
behind y (ended e) = ended (ap (λ (l : List Cell). l ++ y) e)
behind y (further next s t) =
    further (next ++ y)
    (record {
      m = s.m;
      p = s.p;
      front = s.front;
      back = s.back ++ y;
      four = ap (λ (l : List Cell). l ++ y) s.four ∙ append_assoc s.front (children s.m s.p s.back) y;
      one = ap (λ (l : List Cell). l ++ y) s.one ∙ append_assoc s.front (cell s.m s.p ∷ s.back) y;
    })
    (behind y t)

beside : {c d a b : List Cell} → Foldings c a → Foldings d b → Foldings (c ++ d) (a ++ b)
beside {c} {d} {a} {b} s t = after (before c t) (behind b s)

cells_append : (r : ℕ) (a b : List ℕ) → cells_of r (a ++ b) ≡ cells_of r a ++ cells_of r b
cells_append r [] b = refl
cells_append r (s ∷ a) b = ap (λ (l : List Cell). cell r s ∷ l) (cells_append r a b)

module _ (r : ℕ) where
  -- the positions of a cell come to the cell
  to_cell : (k m q : ℕ) → m + k ≡ r → Foldings (cell m q ∷ []) (cells_of r (run (q * 4 ^ k) (4 ^ k)))
  unfolding run
  to_cell zero m q e = let same : r ≡ m = omega arith in ended (ap₂ (λ (x y : ℕ). cell x y ∷ []) same (N.mul-one q))
  to_cell (suc k) m q e =
      let child : (p : ℕ) → Foldings (cell (suc m) p ∷ []) (cells_of r (run (p * 4 ^ k) (4 ^ k))) = λ p. to_cell k (suc m) p (omega arith) in
      let four = beside (child (4 * q)) (beside (child (4 * q + 1)) (beside (child (4 * q + 2)) (child (4 * q + 3)))) in
      let up : Foldings (cell m q ∷ []) (children m q []) = further (cell m q ∷ []) (record { m = m; p = q; front = []; back = []; four = refl; one = refl }) (ended refl) in
      rw (run_four q k) (simp (cells_append r) (after up four))

  to_cells : (cells : List Cell) → Coarse r cells → Foldings cells (cells_of r (unfold_of r cells))
  unfolding unfold_of
  to_cells [] c = ended refl
  to_cells (cell m p ∷ cells) c =
      rw (cells_append r (run (p * 4 ^ (r - m)) (4 ^ (r - m))) (unfold_of r cells)) (beside (to_cell (r - m) m p (omega arith)) (to_cells cells c.1))

  coarse_steps : (xs : List ℕ) (i : ℕ) (cells : List Cell) → Steps r xs i cells → Coarse r cells
  coarse_steps xs i [] s = tt
  coarse_steps xs i (cell m p ∷ cells) s = (s.0, coarse_steps xs (i + 4 ^ (r - m)) cells s.4)

  -- folding comes to the fold
  module _ (xs : List ℕ) (inside : all_below (4 ^ r) xs ≡ true) (up : ascending xs ≡ true) where
    pub folding_reaches : Foldings (fold_of r xs) (cells_of r xs)
    folding_reaches = rw (unfold_fold r xs inside up) at (to_cells (fold_of r xs) (coarse_steps xs 0 (fold_of r xs) (fold_steps r xs up inside)))

    -- and to nothing else where no step goes on
    pub folding_ends : (last : List Cell) → Foldings last (cells_of r xs) → Ended last → last ≡ fold_of r xs
    folding_ends last t none =
        let i = keeps r last (cells_of r xs) t (coarse_cells r xs) in
        only_fold r xs up inside last i.1 (sym i.0 ∙ unfold_cells r xs) none

-- each step takes three cells away, so folding ends
pub step_shorter : (cells next : List Cell) → Step cells next → length cells ≡ length next + 3
step_shorter cells next s =
    omega
    (arith, ap length s.four, ap length s.one, length-append s.front (children s.m s.p s.back), length-append s.front (cell s.m s.p ∷ s.back))
