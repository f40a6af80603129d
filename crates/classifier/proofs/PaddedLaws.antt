-- Lists with a filler behind them.
use mathlib.Core.Path.{◌≡◌, refl, ap}
use mathlib.Core.List.{List, [], ◌∷◌, ◌++◌, map}
use Prim.Native.Nat.{ℕ, zero, suc, ◌-◌, ◌≤◌}
use native.Mathlib.Nat.{not-suc-le-zero}
use native.Mathlib.Omega.{arith}
use lib.ListN.{length, replicate, take}
use Rattle.turtle.specs.declared.AB.{AB}
use Rattle.classifier.specs.declared.Corner.{Corner}
use Rattle.classifier.specs.Shapes.{point_of, no_corner, padded}

pub padded_points : (n : ℕ) (ps : List AB) → length ps ≤ n → map point_of (take (length ps) (padded n ps)) ≡ ps
padded_points zero [] h = refl
padded_points zero (p ∷ ps) h = absurd (not-suc-le-zero h)
padded_points (suc n) [] h = refl
padded_points (suc n) (p ∷ ps) h = ap (λ (l : List AB). p ∷ l) (padded_points n ps (omega arith))

padded_none : (n : ℕ) → replicate n no_corner ≡ padded n []
padded_none zero = refl
padded_none (suc n) = ap (λ (l : List Corner). no_corner ∷ l) (padded_none n)

pub padded_by : (n : ℕ) (cs : List Corner) → length cs ≤ n → cs ++ replicate (n - length cs) no_corner ≡ padded n (map point_of cs)
padded_by n [] h = let all : n - 0 ≡ n = omega arith in rw all (padded_none n)
padded_by zero (c ∷ cs) h = absurd (not-suc-le-zero h)
padded_by (suc n) (c ∷ cs) h =
    let next : suc n - suc (length cs) ≡ n - length cs = omega arith in
    rw next (ap (λ (l : List Corner). c ∷ l) (padded_by n cs (omega arith)))
