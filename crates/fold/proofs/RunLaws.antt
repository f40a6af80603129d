-- Runs of positions one after another, and how many a list of cells has of them.
use mathlib.Core.Path.{◌≡◌, refl, ap, ap₂, ◌∙◌}
use mathlib.Core.List.{List, [], ◌∷◌, ◌++◌}
use Prim.Native.Nat.{ℕ, zero, suc, ◌+◌, ◌-◌, ◌*◌, ◌^◌, ◌<◌, ◌≤◌}
use native.Mathlib.Nat as N
use native.Mathlib.Omega.{arith}
use lib.ListN.{length, get_or, length-append}
use Rattle.fold.specs.Cells.{Cell, cell}
use Rattle.fold.specs.Unfolds.{run, unfold_of}
use Rattle.fold.specs.Inside.Pairs.{Laid}
use Rattle.fold.proofs.PairTestLaws.{ends_inside}

pub length_run : (s n : ℕ) → length (run s n) ≡ n
unfolding run
length_run s zero = refl
length_run s (suc n) = ap suc (length_run (suc s) n)

pub get_d_run : (n s d : ℕ) (rest : List ℕ) → d < n → get_or (run s n ++ rest) d 0 ≡ s + d
unfolding run
get_d_run zero s d rest h = let z : ⊥ = omega arith in absurd z
get_d_run (suc n) s zero rest h = rw N.add-zero
get_d_run (suc n) s (suc d) rest h = get_d_run n (suc s) d rest (omega arith) ∙ omega arith

-- a list that counts from s is a run
pub run_is : (n s : ℕ) (xs : List ℕ) → length xs ≡ n → ((k : ℕ) → k < n → get_or xs k 0 ≡ s + k) → xs ≡ run s n
unfolding run
run_is zero s [] e f = refl
run_is zero s (x ∷ xs) e f = let z : ⊥ = omega arith in absurd z
run_is (suc n) s [] e f = let z : ⊥ = omega arith in absurd z
run_is (suc n) s (x ∷ xs) e f = ap₂ ◌∷◌ (rw N.add-zero at (f 0 (omega arith))) (run_is n (suc s) xs (omega arith) (λ k h. f (suc k) (omega arith) ∙ omega arith))

-- ---- all runs of a list of cells
pub length_unfold : (r m p : ℕ) (cells : List Cell) → length (unfold_of r (cell m p ∷ cells)) ≡ 4 ^ (r - m) + length (unfold_of r cells)
unfolding unfold_of
length_unfold r m p cells = omega (arith, length-append (run (p * 4 ^ (r - m)) (4 ^ (r - m))) (unfold_of r cells), length_run (p * 4 ^ (r - m)) (4 ^ (r - m)))

-- cells that are apart have no more positions than there are
pub unfold_inside : (r place : ℕ) (cells : List Cell) → Laid r place cells → place ≤ 4 ^ r → place + length (unfold_of r cells) ≤ 4 ^ r
unfolding unfold_of
unfold_inside r place [] l h = omega arith
unfold_inside r place (cell m p ∷ cells) l h =
    let n = 4 ^ (r - m) in
    let low = l.2 in
    omega (arith, length_unfold r m p cells, N.suc-mul p n, unfold_inside r (suc p * n) cells l.3 (ends_inside r m p l.0 l.1))

-- they are laid from an earlier place on too
pub laid_earlier : (r a b : ℕ) (cells : List Cell) → b ≤ a → Laid r a cells → Laid r b cells
laid_earlier r a b [] h l = tt
laid_earlier r a b (cell m p ∷ cells) h l = let low = l.2 in (l.0, l.1, omega arith, l.3)
