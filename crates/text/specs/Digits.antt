-- Digits as bytes, of a base up to 16.
use Rattle.std.specs.Prelude.{Bool, true, ◌&&◌, cond, List, [], ◌∷◌, ℕ, ◌+◌, ◌-◌, ◌*◌, leb, ltb}

-- what a byte stands for: 0 to 9, A to F; any other byte is no digit, and has 16
unfoldable pub digit_of : ℕ → ℕ
digit_of b = cond (leb 48 b && leb b 57) (b - 48) (cond (leb 65 b && leb b 70) (b - 55) 16)

-- the byte that stands for a digit below 16
unfoldable pub digit_byte : ℕ → ℕ
digit_byte d = cond (ltb d 10) (48 + d) (55 + d)

-- all are digits of the base
abbrev pub all_digits : ℕ → List ℕ → Bool
all_digits base [] = true
all_digits base (b ∷ w) = ltb (digit_of b) base && all_digits base w

-- the number that they write after v
abbrev pub value_after : ℕ → ℕ → List ℕ → ℕ
value_after base v [] = v
value_after base v (b ∷ w) = value_after base (v * base + digit_of b) w
