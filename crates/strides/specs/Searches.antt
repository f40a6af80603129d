-- A search for the digits on the way to a spot, from tile to tile by the bits of the spot's three numbers, highest first, and what three levels at once come to.
use Rattle.std.specs.Prelude.{cond, ℕ, zero, suc, ◌+◌, ◌*◌, ◌/◌, ◌%◌, ◌^◌, ltb}
use Rattle.std.specs.Int.Bits.{bit_xor}
use Rattle.a5.specs.Inside.Spots.{Spot}
use Rattle.strides.specs.Inside.Tiles.{tile_below, digit_below, last_of}
use Rattle.strides.specs.declared.Search.{Search}

-- ---- levels
-- on the tile t, whose row has 64 entries
abbrev pub on_tile : ℕ → Search
on_tile t = record { row = 64 * t; s = 0 }

-- a level down, by the pair of bits i
unfoldable pub below : Search → ℕ → Search
below q i = let t = q.row / 64 in record { row = 64 * tile_below t i; s = 4 * q.s + digit_below t i }

-- the pair of bits of the numbers x, y and g: the bit of g is the sum of those of x and y or one more, so that two say which of the four tiles below has the spot
unfoldable pub turn_of : ℕ → ℕ → ℕ → ℕ
turn_of x y g = (x + g) % 2 + 2 * ((y + g) % 2)

unfoldable pub turn_at : ℕ → Spot → ℕ
turn_at n p = turn_of (p.x / 2 ^ n) (p.y / 2 ^ n) (p.g / 2 ^ n)

-- the digits of the search by the bits n - 1 to 0, and the leaf's
unfoldable pub digits_after : ℕ → Spot → Search → ℕ
digits_after zero p q = 4 * q.s + last_of (q.row / 64)
digits_after (suc n) p q = digits_after n p (below q (turn_at n p))

-- ---- three levels, by three bits a and three bits b, as c = a + 8 * b; and those of a spot from bit n up
unfoldable pub three_below : Search → ℕ → Search
three_below q c = below (below (below q (c / 4 % 2 + 2 * (c / 32))) (c / 2 % 2 + 2 * (c / 16 % 2))) (c % 2 + 2 * (c / 8 % 2))

unfoldable pub turns_at : ℕ → Spot → ℕ
turns_at n p = bit_xor p.x p.g / 2 ^ n % 8 + 8 * (bit_xor p.y p.g / 2 ^ n % 8)

unfoldable pub digits_below : Search → ℕ → ℕ
digits_below q c = let r = three_below q c in 4 * r.s + last_of (r.row / 64)

-- THE TABLES, of 41 rows; past them, zeros
unfoldable pub search_step : ℕ → Search
search_step i = cond (ltb i 2624) (three_below (on_tile (i / 64)) (i % 64)) (on_tile 0)

unfoldable pub search_end : ℕ → ℕ
search_end i = cond (ltb i 2624) (digits_below (on_tile (i / 64)) (i % 64)) 0
