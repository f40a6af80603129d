-- Several comparisons of whole numbers, as one test that computes.
use Rattle.std.specs.Prelude.{Bool, true, ◌&&◌, List, [], ◌∷◌, ℤ}
use Rattle.std.specs.Int.Signed.{le_z}

infix 5 ◌≤?◌
pub data Test : Type 0 where
  ◌≤?◌ : ℤ → ℤ → Test

-- all of them pass
abbrev pub pass : List Test → Bool
pass [] = true
pass ((a ≤? b) ∷ l) = le_z a b && pass l

-- whether two whole numbers are the same
abbrev pub equal : ℤ → ℤ → Bool
equal x y = le_z x y && le_z y x
