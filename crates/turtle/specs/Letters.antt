-- The ten draw letters: what each draws at heading 0.
use Rattle.std.specs.Prelude.{cond, List, [], ◌∷◌, ℕ, ◌+◌, ◌*◌, ◌/◌, ◌%◌, eqb, pos, negsuc, Option, Some, None}
use Rattle.turtle.specs.declared.AB.{AB}
use Rattle.turtle.specs.declared.letter.Stroke.{Stroke}
use Rattle.turtle.specs.Plane.{ab}

-- b with its lowest bit turned over h times: b xor h's low bit
unfoldable pub toggled : ℕ → ℕ → ℕ
toggled h b = b / 2 * 2 + (b + h) % 2

-- an uppercase letter has its base for its flavor; a lowercase one has that turned over once
abbrev pub uppercase : ℕ → Option ℕ
uppercase base = Some base

abbrev pub lowercase : ℕ → Option ℕ
unfolding toggled
lowercase base = Some (toggled 1 base)

-- a letter's byte, its step, the three corners of its cell, its flavor
pub record Row : Type 0 where
  pub byte : ℕ
  pub stroke : Stroke

abbrev pub row : ℕ → AB → AB → AB → AB → Option ℕ → Row
row letter s p q r f = record { byte = letter; stroke = record { step = s; p = p; q = q; r = r; flavor = f } }

-- E e S s U u D d T t
unfoldable pub letters : List Row
letters =
    row 69 (ab (pos 4) (pos 0)) (ab (pos 0) (pos 0)) (ab (pos 4) (pos 0)) (ab (pos 4) (negsuc 3)) (uppercase 2)
    ∷ row 101 (ab (pos 4) (pos 0)) (ab (pos 0) (pos 0)) (ab (pos 4) (pos 0)) (ab (pos 0) (pos 4)) (lowercase 2)
    ∷ row 83 (ab (pos 4) (negsuc 1)) (ab (pos 0) (pos 0)) (ab (pos 4) (pos 0)) (ab (pos 4) (negsuc 3)) (uppercase 0)
    ∷ row 115 (ab (pos 4) (negsuc 1)) (ab (pos 4) (negsuc 1)) (ab (pos 0) (pos 2)) (ab (pos 0) (negsuc 1)) (lowercase 0)
    ∷ row 85 (ab (pos 0) (pos 2)) (ab (pos 0) (pos 2)) (ab (pos 0) (negsuc 1)) (ab (pos 4) (negsuc 1)) None
    ∷ row 117 (ab (pos 0) (pos 2)) (ab (pos 0) (pos 0)) (ab (pos 0) (pos 4)) (ab (negsuc 3) (pos 4)) None
    ∷ row 68 (ab (pos 0) (negsuc 1)) (ab (pos 0) (pos 2)) (ab (pos 0) (negsuc 1)) (ab (pos 4) (negsuc 1)) (uppercase 1)
    ∷ row 100 (ab (pos 0) (negsuc 1)) (ab (pos 0) (pos 0)) (ab (pos 0) (negsuc 3)) (ab (negsuc 3) (pos 0)) (lowercase 1)
    ∷ row 84 (ab (negsuc 3) (pos 0)) (ab (pos 0) (negsuc 3)) (ab (negsuc 3) (pos 0)) (ab (negsuc 3) (negsuc 3)) (uppercase 3)
    ∷ row 116 (ab (negsuc 3) (pos 0)) (ab (negsuc 3) (pos 4)) (ab (pos 0) (pos 0)) (ab (pos 0) (pos 4)) (lowercase 3)
    ∷ []

-- the stroke of the first row that has the byte
abbrev pub lookup : List Row → ℕ → Option Stroke
lookup [] b = None
lookup (l ∷ ls) b = cond (eqb l.byte b) (Some l.stroke) (lookup ls b)

unfoldable pub stroke_of : ℕ → Option Stroke
unfolding letters
stroke_of b = lookup letters b
