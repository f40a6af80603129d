-- Two pairs that the test finds the same are the same, and the same pairs are found so.
use mathlib.Core.Path.{◌≡◌, subst}
use mathlib.Core.Bool.{Bool}
use lib.Dec.{T}
use Rattle.whole.specs.Tests.{equal}
use Rattle.whole.proofs.Bools.{both_left, both_right, both}
use Rattle.whole.proofs.Equals.{equal_sound, equal_same}
use Rattle.turtle.specs.declared.AB.{AB}
use Rattle.turtle.specs.Plane.{ab, equal_ab}

module _ (p q : AB) where
  abbrev same_a : Bool
  same_a = equal p.a q.a

  abbrev same_b : Bool
  same_b = equal p.b q.b

  pub equal_pairs : T (equal_ab p q) → p ≡ q
  equal_pairs t =
      let a = equal_sound p.a q.a (both_left same_a same_b t) in
      let b = equal_sound p.b q.b (both_right same_a same_b t) in
      λ i. ab (a i) (b i)

pub pairs_equal : (p q : AB) → p ≡ q → T (equal_ab p q)
pairs_equal p q e = subst (λ q. T (equal_ab p q)) e (both (equal p.a p.a) (equal p.b p.b) (equal_same p.a) (equal_same p.b))
