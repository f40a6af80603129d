-- The digits of a number in any base, and what is put in front of them.
use Rattle.std.specs.Prelude.{Bool, true, false, List, [], ◌∷◌, ◌++◌, ℕ, zero, suc, ◌/◌, ◌%◌}
use Rattle.text.specs.Digits.{digit_byte}

-- a byte in front of a text, or none
abbrev pub led : Bool → ℕ → List ℕ → List ℕ
led true b text = b ∷ text
led false b text = text

-- the n lowest digits of a number in a base, the highest first
unfoldable pub lowest : ℕ → ℕ → ℕ → List ℕ
lowest base zero v = []
lowest base (suc n) v = lowest base n (v / base) ++ (digit_byte (v % base) ∷ [])
