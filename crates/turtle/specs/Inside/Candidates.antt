-- What is answered of a triple that can have a corner sum.
use Rattle.std.specs.Prelude.{cond, ℕ, Option, Some, None}
use Rattle.triple.specs.declared.Triple.{Triple}
use Rattle.turtle.specs.declared.AB.{AB}
use Rattle.turtle.specs.Corners.{candidate, has_corner_sum}

-- the candidate of sum s, where it has the corner sum p
abbrev pub with_sum : ℕ → AB → Option Triple
with_sum s p = cond (has_corner_sum p (candidate s p)) (Some (candidate s p)) None
