-- The contracts of the letters and of a step leave one answer each: what equals the definition's is that.
use mathlib.Core.Path.{◌≡◌, sym, ◌∙◌}
use Prim.Native.Nat.{ℕ}
use Rattle.std.specs.Prelude.{Option, Result}
use Rattle.turtle.specs.declared.walk.Turtle.{Turtle}
use Rattle.turtle.specs.declared.walk.Stepped.{Stepped}
use Rattle.turtle.specs.declared.walk.Corners.{Corners}
use Rattle.turtle.specs.declared.walk.Unhosted.{Unhosted}
use Rattle.turtle.specs.Letters.{stroke_of}
use Rattle.turtle.specs.Walk.{step_of, corners_of}
use Rattle.turtle.specs.declared.letter.Stroke.{Stroke}

pub stroke_determined : (b : ℕ) {l m : Option Stroke} → l ≡ stroke_of b → m ≡ stroke_of b → l ≡ m
stroke_determined b h k = h ∙ sym k

pub step_determined : (b : ℕ) (t : Turtle) {r s : Stepped} → r ≡ step_of b t → s ≡ step_of b t → r ≡ s
step_determined b t h k = h ∙ sym k

pub corners_determined : (b : ℕ) (t : Turtle) {r s : Result Corners Unhosted} → r ≡ corners_of b t → s ≡ corners_of b t → r ≡ s
corners_determined b t h k = h ∙ sym k
