-- The bits of an f64 as 16 uppercase hex digits.
use Rattle.std.specs.Prelude.{◌&&◌, cond, List, [], ◌∷◌, ◌++◌, ℕ, zero, suc, ◌/◌, ◌%◌, eqb, Float, length, Option, Some, None}
use Rattle.std.specs.Float.{binary64}
use Rattle.std.specs.Float.Ieee.{of_bits, to_bits}
use Rattle.text.specs.Digits.{digit_byte, all_digits, value_after}

-- THE FLOAT that a word is; every pattern of a NaN is the one NaN
unfoldable pub f64 : List ℕ → Option Float
f64 w = cond (eqb (length w) 16 && all_digits 16 w) (Some (of_bits binary64 (value_after 16 0 w))) None

-- the n lowest hex digits of a number, the highest first
unfoldable pub hex_digits : ℕ → ℕ → List ℕ
hex_digits zero v = []
hex_digits (suc n) v = hex_digits n (v / 16) ++ (digit_byte (v % 16) ∷ [])

-- THE PATTERN of a float
unfoldable pub pattern : Float → List ℕ
pattern x = hex_digits 16 (to_bits binary64 x)
