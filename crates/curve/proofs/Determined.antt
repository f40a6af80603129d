-- Each contract on points allows one result alone. What an answer says has a left inverse: so two answers that say the same are the same.
use mathlib.Core.Path.{◌≡◌, sym, ◌∙◌}
use Prim.Native.Nat.{ℕ}
use lib.Ieee.{Float}
use Rattle.std.specs.Prelude.{Result}
use Rattle.triple.proofs.Determined.{determined, said_one_to_one}
use Rattle.curve.specs.declared.PointCell.{PointCell}
use Rattle.curve.specs.Points.{mark_of, point_of}
use Rattle.curve.specs.ExactPoints.{exact_point_of}
use Rattle.triple.specs.Refusals.{said}
use Rattle.triple.specs.declared.refusal.Refusal.{Refusal}

pub mark_determined : (p : PointCell) (a b : ℕ) → a ≡ mark_of p → b ≡ mark_of p → a ≡ b
mark_determined p a b e f = e ∙ sym f

pub point_determined : (r : ℕ) (i j : Float) (a b : Result PointCell Refusal) → said a ≡ point_of r i j → said b ≡ point_of r i j → a ≡ b
point_determined r i j = determined said said_one_to_one

pub exact_point_determined : (r : ℕ) (i j : Float) (a b : Result PointCell Refusal) → said a ≡ exact_point_of r i j → said b ≡ exact_point_of r i j → a ≡ b
exact_point_determined r i j = determined said said_one_to_one
