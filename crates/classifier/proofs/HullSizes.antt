-- How long chains and hulls are: a hull of twelve points has room among 24.
use mathlib.Core.Path.{refl, ◌≡◌}
use mathlib.Core.Bool.{Bool, true, false, cond}
use mathlib.Core.List.{List, [], ◌∷◌, ◌++◌, reverse, tail}
use Prim.Native.Nat.{◌+◌, ◌-◌, ◌≤◌}
use native.Mathlib.Omega.{arith}
use lib.Dec.{ltb}
use lib.IntN.{pos}
use lib.Signed.{le_z}
use lib.ListN.{length, length-append, length-reverse}
use Rattle.turtle.specs.declared.AB.{AB}
use Rattle.classifier.specs.Hulls.{sorted, cross, popped, chained, half, hull}
use Rattle.classifier.proofs.HullLaws.{sorted_long}

pub popped_long : (q : AB) (chain : List AB) → length (popped q chain) ≤ length chain
unfolding popped
popped_long q [] = omega arith
popped_long q (p ∷ []) = omega arith
popped_long q (p ∷ (o ∷ chain)) = go (le_z (cross o p q) (pos 0)) (popped_long q (o ∷ chain))
  where
    go : (t : Bool) → length (popped q (o ∷ chain)) ≤ length (o ∷ chain) → length (cond t (popped q (o ∷ chain)) (p ∷ o ∷ chain)) ≤ length (p ∷ o ∷ chain)
    go true h = omega arith
    go false h = omega arith

chained_long : (chain qs : List AB) → length (chained chain qs) ≤ length chain + length qs
unfolding chained
chained_long chain [] = omega arith
chained_long chain (q ∷ qs) = omega (arith, chained_long (q ∷ popped q chain) qs, popped_long q chain)

tail_long : (l : List AB) → length (tail l) ≡ length l - 1
tail_long [] = refl
tail_long (p ∷ l) = omega arith

pub half_long : (ps : List AB) → length (half ps) ≤ length ps - 1
half_long ps = rw length-reverse (omega (arith, tail_long (chained [] ps), chained_long [] ps))

pub hull_long : (points : List AB) → length points ≤ 12 → length (hull points) ≤ 24
unfolding hull
hull_long points h =
    let few : length (sorted points) ≤ 12 = omega (arith, sorted_long points) in
    go (ltb (length (sorted points)) 3) few
  where
    go : (t : Bool) → length (sorted points) ≤ 12 → length (cond t (sorted points) (half (sorted points) ++ half (reverse (sorted points)))) ≤ 24
    go true few = omega arith
    go false few =
        omega (arith, length-append (half (sorted points)) (half (reverse (sorted points))), half_long (sorted points), half_long (reverse (sorted points)), length-reverse (sorted points))
