-- Each contract on pairs and corner sums allows one result alone. What an answer says has a left inverse: so two answers that say the same are the same.
use mathlib.Core.Path.{◌≡◌, sym, ◌∙◌}
use mathlib.Core.Bool.{Bool}
use lib.IntN.{ℤ}
use Rattle.std.specs.Prelude.{Option, Result}
use Rattle.triple.specs.declared.Triple.{Triple}
use Rattle.triple.proofs.Determined.{determined, said_one_to_one}
use Rattle.turtle.specs.declared.AB.{AB}
use Rattle.turtle.specs.Plane.{ab, far}
use Rattle.turtle.specs.Corners.{corner_sum_of, narrowed, triple_of}
use Rattle.triple.specs.Refusals.{said}
use Rattle.triple.specs.declared.refusal.Refusal.{Refusal}

pub new_determined : (a b : ℤ) (p q : AB) → p ≡ ab a b → q ≡ ab a b → p ≡ q
new_determined a b p q e f = e ∙ sym f

pub is_far_determined : (p : AB) (a b : Bool) → a ≡ far p → b ≡ far p → a ≡ b
is_far_determined p a b e f = e ∙ sym f

pub corner_sum_determined : (t : Triple) (a b : Result AB Refusal) → said a ≡ corner_sum_of t → said b ≡ corner_sum_of t → a ≡ b
corner_sum_determined t = determined said said_one_to_one

pub narrowed_determined : (t : Triple) (a b : Option Triple) → a ≡ narrowed t → b ≡ narrowed t → a ≡ b
narrowed_determined t a b p q = p ∙ sym q

pub triple_determined : (p : AB) (a b : Result Triple Refusal) → said a ≡ triple_of p → said b ≡ triple_of p → a ≡ b
triple_determined p = determined said said_one_to_one
