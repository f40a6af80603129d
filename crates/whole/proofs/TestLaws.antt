-- What a list of comparisons decides: all of its facts hold, or not all do.
use mathlib.Core.Path.{◌≡◌}
use mathlib.Core.Bool.{true, false}
use mathlib.Core.List.{List, [], ◌∷◌}
use lib.Dec.{T}
use lib.Signed.{le_z, ◌≤ℤ◌, le_z_yes}
use Rattle.whole.specs.Tests.{Test, ◌≤?◌, pass}
use Rattle.whole.proofs.Bools.{both_left, both_right, both, is_true, is_false, from_true}

-- all of them hold
abbrev pub Hold : List Test → Type 0
Hold [] = Unit {0}
Hold ((a ≤? b) ∷ l) = (a ≤ℤ b) × Hold l

pub hold : (l : List Test) → T (pass l) → Hold l
hold [] t = tt
hold ((a ≤? b) ∷ l) t = (le_z_yes (both_left (le_z a b) (pass l) t), hold l (both_right (le_z a b) (pass l) t))

passed : (l : List Test) → Hold l → T (pass l)
passed [] h = tt
passed ((a ≤? b) ∷ l) h = both (le_z a b) (pass l) h.0.le (passed l h.1)

-- the flag to return
pub true_pass : (l : List Test) → Hold l → true ≡ pass l
true_pass l h = is_true (pass l) (passed l h)

pub false_pass : (l : List Test) → (Hold l → ⊥) → false ≡ pass l
false_pass l h = is_false (pass l) (λ t. h (hold l t))

-- what a caller reads off the flag
pub pass_true : (l : List Test) → pass l ≡ true → Hold l
pass_true l e = hold l (from_true e)
