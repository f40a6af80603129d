-- The tiles of A5's footprints. A tile is one of the four triangles of a state's footprint; those from which every search goes on alike are one tile, and there are 32.
-- Tiles 32, 33 and 34 stand above the axioms A, C and B and lead to their four triangles. From a tile after those any bits lead to the tile three before it.
-- The numbers are written by tools/strides; that they are those of A5's table is proved in `TileLaws`.
use Rattle.std.specs.Prelude.{cond, List, [], ◌∷◌, ℕ, ◌+◌, ◌-◌, ◌*◌, ◌/◌, ◌%◌, ◌^◌, ltb, get_or}

-- the tile of the state k and of the triangle that is its leaf d: a state and its half turn have the same
unfoldable pub kinds : List ℕ
kinds =
    0 ∷ 1 ∷ 2 ∷ 3 ∷ 4 ∷ 5 ∷ 6 ∷ 7
    ∷ 8 ∷ 9 ∷ 10 ∷ 11 ∷ 12 ∷ 13 ∷ 14 ∷ 11
    ∷ 8 ∷ 15 ∷ 16 ∷ 3 ∷ 0 ∷ 1 ∷ 14 ∷ 11
    ∷ 17 ∷ 18 ∷ 19 ∷ 20 ∷ 17 ∷ 18 ∷ 21 ∷ 22
    ∷ 23 ∷ 24 ∷ 25 ∷ 11 ∷ 4 ∷ 26 ∷ 27 ∷ 28
    ∷ 4 ∷ 29 ∷ 19 ∷ 20 ∷ 17 ∷ 30 ∷ 31 ∷ 28
    ∷ 4 ∷ 29 ∷ 21 ∷ 22 ∷ 12 ∷ 13 ∷ 2 ∷ 3 ∷ []

unfoldable pub tile_of : ℕ → ℕ → ℕ
tile_of k d = get_or kinds (4 * (k / 2) + d) 0

-- four tiles below a tile, each in 8 bits: the tile in 6 and the digit in 2
unfoldable pub tile_words : List ℕ
tile_words =
    0x0f4b0810 ∷ 0x4003414e ∷ 0x81828083 ∷ 0xc5c4c6c7 ∷ 0x05040607 ∷ 0x4f8b4850 ∷ 0x8043818e ∷ 0xc1c2c0c3
    ∷ 0x0f510810 ∷ 0x54035352 ∷ 0x8c8b8d8e ∷ 0xd9cbd8d7 ∷ 0x164b151d ∷ 0x4004414e ∷ 0x898b888a ∷ 0x5f035c5e
    ∷ 0x85848687 ∷ 0x190b1817 ∷ 0x55525651 ∷ 0x96cb959d ∷ 0xc084c1ce ∷ 0x96d1959d ∷ 0xdf84dcde ∷ 0x15121611
    ∷ 0x5691555d ∷ 0x9f449c9e ∷ 0x5444535d ∷ 0x8cd18d82 ∷ 0xdf83dcde ∷ 0x5b445c5a ∷ 0x594b5857 ∷ 0x8fd18890
    ∷ 0x01020003 ∷ 0x090b080a ∷ 0x05040607 ∷ []

unfoldable pub entry_below : ℕ → ℕ → ℕ
entry_below t i = cond (ltb t 35) (get_or tile_words t 0 / 2 ^ (8 * i) % 256) (t - 3)

unfoldable pub tile_below : ℕ → ℕ → ℕ
tile_below t i = entry_below t i % 64

unfoldable pub digit_below : ℕ → ℕ → ℕ
digit_below t i = entry_below t i / 64

-- the digit of the leaf that a tile is, two bits a tile
unfoldable pub last_of : ℕ → ℕ
last_of t = 0x97993b9264e4e4e4 / 4 ^ t % 4
