-- Decimals without leading zeros or -0: read from a word and at a place, and written.
use Rattle.std.specs.Prelude.{Bool, false, not, ◌&&◌, cond, List, [], ◌∷◌, ℕ, zero, suc, ◌+◌, ◌-◌, ◌/◌, ◌%◌, ◌^◌, leb, ltb, eqb, ℤ, pos, negsuc, take, drop, Option, Some, None}
use Rattle.text.specs.Digits.{digit_of, all_digits, value_after}

-- ---- read
-- one digit, or several of which the first is not 0
unfoldable pub is_decimal : List ℕ → Bool
is_decimal [] = false
is_decimal (b ∷ []) = all_digits 10 (b ∷ [])
is_decimal (b ∷ c ∷ w) = not (eqb b 48) && all_digits 10 (b ∷ c ∷ w)

-- the number that a decimal writes, if it is at most a bound
unfoldable pub up_to : ℕ → List ℕ → Option ℕ
up_to most w = let v = value_after 10 0 w in cond (is_decimal w && leb v most) (Some v) None

-- the number itself, and after a minus sign, which no 0 has
abbrev pub plain : Option ℕ → Option ℤ
plain None = None
plain (Some n) = Some (pos n)

abbrev pub negated : Option ℕ → Option ℤ
negated None = None
negated (Some zero) = None
negated (Some (suc n)) = Some (negsuc n)

-- a number from - bound up to bound - 1
unfoldable pub signed : ℕ → List ℕ → Option ℤ
signed bound [] = None
signed bound (b ∷ w) = cond (eqb b 45) (negated (up_to bound w)) (plain (up_to (bound - 1) (b ∷ w)))

-- THE NUMBER that a word is
abbrev pub u8 : List ℕ → Option ℕ
u8 w = up_to (2 ^ 8 - 1) w

abbrev pub u64 : List ℕ → Option ℕ
u64 w = up_to (2 ^ 64 - 1) w

abbrev pub i32 : List ℕ → Option ℤ
i32 w = signed (2 ^ 31) w

abbrev pub i64 : List ℕ → Option ℤ
i64 w = signed (2 ^ 63) w

-- ---- read at a place
-- how many digits stand in front
unfoldable pub digit_count : List ℕ → ℕ
digit_count [] = 0
digit_count (b ∷ w) = cond (ltb (digit_of b) 10) (suc (digit_count w)) 0

-- the same with a minus sign before them
unfoldable pub decimal_length : List ℕ → ℕ
decimal_length [] = 0
decimal_length (b ∷ w) = cond (eqb b 45) (suc (digit_count w)) (digit_count (b ∷ w))

abbrev pub with_place : ℕ → Option ℤ → Option (ℤ × ℕ)
with_place next None = None
with_place next (Some z) = Some (z, next)

-- THE NUMBER that stands at a place, up to the next byte that is no digit, and that byte's place
unfoldable pub decimal_at : List ℕ → ℕ → Option (ℤ × ℕ)
decimal_at s at = let n = decimal_length (drop at s) in with_place (at + n) (i64 (take n (drop at s)))

-- ---- written
-- the digits of n, the highest first, in front of w; most is n at least
unfoldable pub digits : ℕ → ℕ → List ℕ → List ℕ
digits zero n w = (48 + n) ∷ w
digits (suc most) n w = let higher = digits most (n / 10) ((48 + n % 10) ∷ w) in cond (ltb n 10) ((48 + n) ∷ w) higher

-- THE DECIMAL of a number
unfoldable pub natural : ℕ → List ℕ
natural n = digits n n []

unfoldable pub integer : ℤ → List ℕ
integer (pos n) = natural n
integer (negsuc n) = 45 ∷ natural (suc n)
