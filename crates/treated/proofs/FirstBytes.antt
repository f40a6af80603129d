-- The verdict needs no byte behind those of 512 codes and one more, since the reader looks at no byte behind the ninth.
use mathlib.Core.Path.{◌≡◌, refl, ap, ◌∙◌}
use mathlib.Core.List.{List, [], ◌∷◌, ◌++◌}
use Prim.Native.Nat.{ℕ, zero, suc, ◌-◌, ◌*◌, ◌<◌}
use native.Mathlib.Omega.{arith}
use lib.ListN.{length, take, drop}
use lib.Seq.{take-nil}
use Rattle.std.specs.Prelude.{Result, Ok, Err}
use Rattle.whole.proofs.Slices.{drop_take}
use Rattle.triple.specs.Refusals.{Told, told}
use Rattle.code.specs.declared.Reading.{Reading}
use Rattle.code.specs.Codes.{read_of}
use Rattle.code.proofs.FrontLaws.{read_same, read_few}
use Rattle.treated.specs.Treated.{judge_of, faulty, judged, check_from, check_of}
use Rattle.treated.proofs.JudgeLaws.{right_fine}
use Rattle.treated.specs.declared.Fault.{Fault}

abbrev Same : ℕ → Type 0
Same k = (before : List Reading) (rest : List ℕ) (m : ℕ) → 9 * k < m → check_from k before (take m rest) ≡ check_from k before rest

same_zero : Same zero
unfolding check_from
same_zero before [] m h = ap (check_from zero before) (take-nil m)
same_zero before (b ∷ rest) zero h = let z : ⊥ = omega arith in absurd z
same_zero before (b ∷ rest) (suc m) h = refl

same_suc : (k : ℕ) → Same k → Same (suc k)
unfolding check_from
same_suc k later before [] m h = ap (check_from (suc k) before) (take-nil m)
same_suc k later before (b ∷ bytes) zero h = let z : ⊥ = omega arith in absurd z
same_suc k later before (b ∷ bytes) (suc m) h =
    let rest = b ∷ bytes in
    let r = read_same (suc m) rest (omega arith) in
    ap (λ (t : Told Reading). judged (judge_of before t) (λ f. told (faulty f (length before))) (λ x. check_from k (before ++ (x ∷ [])) (drop x.used (take (suc m) rest)))) r
    ∙ by (judge_of before (read_of rest)) refl
  where
    by : (j : Result Reading Fault) → judge_of before (read_of (b ∷ bytes)) ≡ j
        → judged j (λ f. told (faulty f (length before))) (λ x. check_from k (before ++ (x ∷ [])) (drop x.used (take (suc m) (b ∷ bytes))))
        ≡ judged j (λ f. told (faulty f (length before))) (λ x. check_from k (before ++ (x ∷ [])) (drop x.used (b ∷ bytes)))
    by (Err f) e = refl
    by (Ok x) e =
        let few = read_few (b ∷ bytes) (right_fine before (read_of (b ∷ bytes)) e).sound in
        ap (check_from k (before ++ (x ∷ []))) (drop_take (suc m) x.used (b ∷ bytes)) ∙ later (before ++ (x ∷ [])) (drop x.used (b ∷ bytes)) (suc m - x.used) (omega (arith, few))

same : (k : ℕ) → Same k
same zero = same_zero
same (suc k) = same_suc k (same k)

-- the first 4609 bytes tell it
pub check_front : (list : List ℕ) → check_of (take 4609 list) ≡ check_of list
unfolding check_of
check_front list = same 512 [] list 4609 (omega arith)
