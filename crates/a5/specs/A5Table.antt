-- A5's table as the code has it: 28 states of 41 numbers, four lines a state. It is what the compiler makes of A5's text (`A5Compiled`).
-- Of a state: the children's states and offsets; the leaves' corner sums and flavors; the separators; the child for each pattern.
use Rattle.std.specs.Prelude.{List, [], ◌∷◌, ℤ, pos, negsuc}

unfoldable pub a5_table : List ℤ
a5_table =
    -- A
    pos 8 ∷ pos 10 ∷ pos 0 ∷ pos 2 ∷ pos 0 ∷ pos 0 ∷ pos 8 ∷ negsuc 3 ∷ pos 8 ∷ negsuc 7 ∷ pos 16 ∷ negsuc 7
    ∷ pos 8 ∷ negsuc 3 ∷ pos 16 ∷ negsuc 7 ∷ pos 20 ∷ negsuc 15 ∷ pos 20 ∷ negsuc 3 ∷ pos 0 ∷ pos 1 ∷ pos 2 ∷ pos 2
    ∷ pos 12 ∷ pos 12 ∷ negsuc 287 ∷ pos 0 ∷ negsuc 23 ∷ negsuc 287 ∷ pos 0 ∷ negsuc 23 ∷ negsuc 575
    ∷ pos 0 ∷ pos 3 ∷ pos 1 ∷ pos 3 ∷ pos 0 ∷ pos 3 ∷ pos 2 ∷ pos 3
    -- A, flipped
    ∷ pos 9 ∷ pos 11 ∷ pos 1 ∷ pos 3 ∷ pos 0 ∷ pos 0 ∷ negsuc 7 ∷ pos 4 ∷ negsuc 7 ∷ pos 8 ∷ negsuc 15 ∷ pos 8
    ∷ negsuc 7 ∷ pos 4 ∷ negsuc 15 ∷ pos 8 ∷ negsuc 19 ∷ pos 16 ∷ negsuc 19 ∷ pos 4 ∷ pos 1 ∷ pos 0 ∷ pos 3 ∷ pos 3
    ∷ negsuc 11 ∷ negsuc 11 ∷ negsuc 287 ∷ pos 0 ∷ pos 24 ∷ negsuc 287 ∷ pos 0 ∷ pos 24 ∷ negsuc 575
    ∷ pos 0 ∷ pos 3 ∷ pos 1 ∷ pos 3 ∷ pos 0 ∷ pos 3 ∷ pos 2 ∷ pos 3
    -- B
    ∷ pos 2 ∷ pos 9 ∷ pos 11 ∷ pos 0 ∷ pos 0 ∷ pos 0 ∷ pos 0 ∷ pos 8 ∷ negsuc 7 ∷ pos 12 ∷ negsuc 7 ∷ pos 16
    ∷ negsuc 3 ∷ pos 8 ∷ negsuc 7 ∷ pos 16 ∷ negsuc 15 ∷ pos 20 ∷ negsuc 3 ∷ pos 20 ∷ pos 2 ∷ pos 1 ∷ pos 0 ∷ pos 2
    ∷ pos 0 ∷ pos 24 ∷ negsuc 575 ∷ pos 12 ∷ pos 12 ∷ negsuc 287 ∷ pos 0 ∷ pos 24 ∷ negsuc 863
    ∷ pos 0 ∷ pos 1 ∷ pos 0 ∷ pos 3 ∷ pos 0 ∷ pos 2 ∷ pos 0 ∷ pos 3
    -- B, flipped
    ∷ pos 3 ∷ pos 8 ∷ pos 10 ∷ pos 1 ∷ pos 0 ∷ pos 0 ∷ pos 0 ∷ negsuc 7 ∷ pos 8 ∷ negsuc 11 ∷ pos 8 ∷ negsuc 15
    ∷ pos 4 ∷ negsuc 7 ∷ pos 8 ∷ negsuc 15 ∷ pos 16 ∷ negsuc 19 ∷ pos 4 ∷ negsuc 19 ∷ pos 3 ∷ pos 0 ∷ pos 1 ∷ pos 3
    ∷ pos 0 ∷ negsuc 23 ∷ negsuc 575 ∷ negsuc 11 ∷ negsuc 11 ∷ negsuc 287 ∷ pos 0 ∷ negsuc 23 ∷ negsuc 863
    ∷ pos 0 ∷ pos 1 ∷ pos 0 ∷ pos 3 ∷ pos 0 ∷ pos 2 ∷ pos 0 ∷ pos 3
    -- C
    ∷ pos 8 ∷ pos 13 ∷ pos 7 ∷ pos 17 ∷ pos 0 ∷ pos 0 ∷ pos 8 ∷ negsuc 3 ∷ pos 12 ∷ negsuc 3 ∷ pos 16 ∷ negsuc 7
    ∷ pos 8 ∷ negsuc 3 ∷ pos 16 ∷ negsuc 7 ∷ pos 20 ∷ negsuc 3 ∷ pos 20 ∷ negsuc 15 ∷ pos 0 ∷ pos 1 ∷ pos 2 ∷ pos 2
    ∷ pos 12 ∷ pos 12 ∷ negsuc 287 ∷ pos 0 ∷ negsuc 23 ∷ negsuc 287 ∷ pos 0 ∷ negsuc 23 ∷ negsuc 575
    ∷ pos 0 ∷ pos 2 ∷ pos 1 ∷ pos 2 ∷ pos 0 ∷ pos 2 ∷ pos 3 ∷ pos 2
    -- C, flipped
    ∷ pos 9 ∷ pos 12 ∷ pos 6 ∷ pos 16 ∷ pos 0 ∷ pos 0 ∷ negsuc 7 ∷ pos 4 ∷ negsuc 11 ∷ pos 4 ∷ negsuc 15 ∷ pos 8
    ∷ negsuc 7 ∷ pos 4 ∷ negsuc 15 ∷ pos 8 ∷ negsuc 19 ∷ pos 4 ∷ negsuc 19 ∷ pos 16 ∷ pos 1 ∷ pos 0 ∷ pos 3 ∷ pos 3
    ∷ negsuc 11 ∷ negsuc 11 ∷ negsuc 287 ∷ pos 0 ∷ pos 24 ∷ negsuc 287 ∷ pos 0 ∷ pos 24 ∷ negsuc 575
    ∷ pos 0 ∷ pos 2 ∷ pos 1 ∷ pos 2 ∷ pos 0 ∷ pos 2 ∷ pos 3 ∷ pos 2
    -- M
    ∷ pos 24 ∷ pos 10 ∷ pos 5 ∷ pos 16 ∷ pos 0 ∷ pos 0 ∷ pos 0 ∷ negsuc 3 ∷ pos 0 ∷ negsuc 7 ∷ negsuc 7 ∷ pos 0
    ∷ negsuc 3 ∷ negsuc 3 ∷ pos 4 ∷ negsuc 7 ∷ negsuc 7 ∷ negsuc 7 ∷ negsuc 7 ∷ pos 4 ∷ pos 0 ∷ pos 1 ∷ pos 3 ∷ pos 3
    ∷ negsuc 11 ∷ negsuc 11 ∷ negsuc 287 ∷ pos 0 ∷ negsuc 23 ∷ negsuc 287 ∷ pos 0 ∷ pos 24 ∷ pos 0
    ∷ pos 0 ∷ pos 2 ∷ pos 1 ∷ pos 2 ∷ pos 3 ∷ pos 2 ∷ pos 1 ∷ pos 2
    -- M, flipped
    ∷ pos 25 ∷ pos 11 ∷ pos 4 ∷ pos 17 ∷ pos 0 ∷ pos 0 ∷ pos 0 ∷ pos 4 ∷ pos 0 ∷ pos 8 ∷ pos 8 ∷ pos 0
    ∷ pos 4 ∷ pos 4 ∷ negsuc 3 ∷ pos 8 ∷ pos 8 ∷ pos 8 ∷ pos 8 ∷ negsuc 3 ∷ pos 1 ∷ pos 0 ∷ pos 2 ∷ pos 2
    ∷ pos 12 ∷ pos 12 ∷ negsuc 287 ∷ pos 0 ∷ pos 24 ∷ negsuc 287 ∷ pos 0 ∷ negsuc 23 ∷ pos 0
    ∷ pos 0 ∷ pos 2 ∷ pos 1 ∷ pos 2 ∷ pos 3 ∷ pos 2 ∷ pos 1 ∷ pos 2
    -- P
    ∷ pos 8 ∷ pos 22 ∷ pos 2 ∷ pos 3 ∷ pos 0 ∷ pos 0 ∷ pos 8 ∷ negsuc 3 ∷ pos 16 ∷ negsuc 7 ∷ pos 16 ∷ pos 0
    ∷ pos 8 ∷ negsuc 3 ∷ pos 16 ∷ negsuc 7 ∷ pos 20 ∷ negsuc 3 ∷ pos 28 ∷ negsuc 7 ∷ pos 0 ∷ pos 1 ∷ pos 2 ∷ pos 3
    ∷ pos 12 ∷ pos 12 ∷ negsuc 287 ∷ pos 24 ∷ pos 0 ∷ negsuc 1151 ∷ pos 0 ∷ negsuc 23 ∷ negsuc 287
    ∷ pos 0 ∷ pos 2 ∷ pos 0 ∷ pos 3 ∷ pos 1 ∷ pos 2 ∷ pos 1 ∷ pos 3
    -- P, flipped
    ∷ pos 9 ∷ pos 23 ∷ pos 3 ∷ pos 2 ∷ pos 0 ∷ pos 0 ∷ negsuc 7 ∷ pos 4 ∷ negsuc 15 ∷ pos 8 ∷ negsuc 15 ∷ pos 0
    ∷ negsuc 7 ∷ pos 4 ∷ negsuc 15 ∷ pos 8 ∷ negsuc 19 ∷ pos 4 ∷ negsuc 27 ∷ pos 8 ∷ pos 1 ∷ pos 0 ∷ pos 3 ∷ pos 2
    ∷ negsuc 11 ∷ negsuc 11 ∷ negsuc 287 ∷ negsuc 23 ∷ pos 0 ∷ negsuc 1151 ∷ pos 0 ∷ pos 24 ∷ negsuc 287
    ∷ pos 0 ∷ pos 2 ∷ pos 0 ∷ pos 3 ∷ pos 1 ∷ pos 2 ∷ pos 1 ∷ pos 3
    -- Q
    ∷ pos 8 ∷ pos 10 ∷ pos 5 ∷ pos 17 ∷ pos 0 ∷ pos 0 ∷ pos 8 ∷ negsuc 3 ∷ pos 8 ∷ negsuc 7 ∷ pos 0 ∷ pos 0
    ∷ pos 8 ∷ negsuc 3 ∷ pos 16 ∷ negsuc 7 ∷ pos 4 ∷ negsuc 7 ∷ negsuc 3 ∷ negsuc 3 ∷ pos 0 ∷ pos 1 ∷ pos 3 ∷ pos 2
    ∷ negsuc 11 ∷ negsuc 11 ∷ pos 0 ∷ negsuc 23 ∷ pos 0 ∷ pos 0 ∷ pos 0 ∷ negsuc 23 ∷ negsuc 287
    ∷ pos 0 ∷ pos 2 ∷ pos 0 ∷ pos 3 ∷ pos 1 ∷ pos 2 ∷ pos 1 ∷ pos 3
    -- Q, flipped
    ∷ pos 9 ∷ pos 11 ∷ pos 4 ∷ pos 16 ∷ pos 0 ∷ pos 0 ∷ negsuc 7 ∷ pos 4 ∷ negsuc 7 ∷ pos 8 ∷ pos 0 ∷ pos 0
    ∷ negsuc 7 ∷ pos 4 ∷ negsuc 15 ∷ pos 8 ∷ negsuc 3 ∷ pos 8 ∷ pos 4 ∷ pos 4 ∷ pos 1 ∷ pos 0 ∷ pos 2 ∷ pos 3
    ∷ pos 12 ∷ pos 12 ∷ pos 0 ∷ pos 24 ∷ pos 0 ∷ pos 0 ∷ pos 0 ∷ pos 24 ∷ negsuc 287
    ∷ pos 0 ∷ pos 2 ∷ pos 0 ∷ pos 3 ∷ pos 1 ∷ pos 2 ∷ pos 1 ∷ pos 3
    -- R
    ∷ pos 16 ∷ pos 15 ∷ pos 24 ∷ pos 10 ∷ pos 0 ∷ pos 0 ∷ pos 0 ∷ pos 8 ∷ negsuc 7 ∷ pos 8 ∷ negsuc 7 ∷ pos 4
    ∷ pos 4 ∷ pos 4 ∷ negsuc 3 ∷ pos 8 ∷ negsuc 15 ∷ pos 8 ∷ negsuc 7 ∷ pos 4 ∷ pos 3 ∷ pos 2 ∷ pos 0 ∷ pos 1
    ∷ negsuc 23 ∷ pos 0 ∷ pos 0 ∷ negsuc 23 ∷ negsuc 23 ∷ pos 0 ∷ pos 0 ∷ negsuc 23 ∷ pos 288
    ∷ pos 0 ∷ pos 1 ∷ pos 0 ∷ pos 2 ∷ pos 0 ∷ pos 1 ∷ pos 0 ∷ pos 3
    -- R, flipped
    ∷ pos 17 ∷ pos 14 ∷ pos 25 ∷ pos 11 ∷ pos 0 ∷ pos 0 ∷ pos 0 ∷ negsuc 7 ∷ pos 8 ∷ negsuc 7 ∷ pos 8 ∷ negsuc 3
    ∷ negsuc 3 ∷ negsuc 3 ∷ pos 4 ∷ negsuc 7 ∷ pos 16 ∷ negsuc 7 ∷ pos 8 ∷ negsuc 3 ∷ pos 2 ∷ pos 3 ∷ pos 1 ∷ pos 0
    ∷ pos 24 ∷ pos 0 ∷ pos 0 ∷ pos 24 ∷ pos 24 ∷ pos 0 ∷ pos 0 ∷ pos 24 ∷ pos 288
    ∷ pos 0 ∷ pos 1 ∷ pos 0 ∷ pos 2 ∷ pos 0 ∷ pos 1 ∷ pos 0 ∷ pos 3
    -- a
    ∷ pos 16 ∷ pos 14 ∷ pos 24 ∷ pos 22 ∷ pos 0 ∷ pos 0 ∷ pos 0 ∷ pos 8 ∷ pos 8 ∷ pos 8 ∷ pos 8 ∷ pos 4
    ∷ pos 4 ∷ pos 4 ∷ pos 4 ∷ pos 16 ∷ pos 8 ∷ pos 8 ∷ pos 16 ∷ pos 4 ∷ pos 3 ∷ pos 3 ∷ pos 0 ∷ pos 1
    ∷ pos 24 ∷ pos 24 ∷ negsuc 575 ∷ pos 0 ∷ negsuc 23 ∷ pos 576 ∷ pos 0 ∷ negsuc 23 ∷ pos 288
    ∷ pos 0 ∷ pos 1 ∷ pos 0 ∷ pos 2 ∷ pos 0 ∷ pos 1 ∷ pos 0 ∷ pos 3
    -- a, flipped
    ∷ pos 17 ∷ pos 15 ∷ pos 25 ∷ pos 23 ∷ pos 0 ∷ pos 0 ∷ pos 0 ∷ negsuc 7 ∷ negsuc 7 ∷ negsuc 7 ∷ negsuc 7 ∷ negsuc 3
    ∷ negsuc 3 ∷ negsuc 3 ∷ negsuc 3 ∷ negsuc 15 ∷ negsuc 7 ∷ negsuc 7 ∷ negsuc 15 ∷ negsuc 3 ∷ pos 2 ∷ pos 2 ∷ pos 1 ∷ pos 0
    ∷ negsuc 23 ∷ negsuc 23 ∷ negsuc 575 ∷ pos 0 ∷ pos 24 ∷ pos 576 ∷ pos 0 ∷ pos 24 ∷ pos 288
    ∷ pos 0 ∷ pos 1 ∷ pos 0 ∷ pos 2 ∷ pos 0 ∷ pos 1 ∷ pos 0 ∷ pos 3
    -- b
    ∷ pos 14 ∷ pos 25 ∷ pos 23 ∷ pos 16 ∷ pos 0 ∷ pos 0 ∷ pos 8 ∷ pos 0 ∷ pos 8 ∷ pos 4 ∷ pos 0 ∷ pos 8
    ∷ pos 4 ∷ pos 4 ∷ pos 16 ∷ pos 4 ∷ pos 8 ∷ pos 8 ∷ pos 4 ∷ pos 16 ∷ pos 3 ∷ pos 1 ∷ pos 0 ∷ pos 3
    ∷ pos 24 ∷ pos 24 ∷ negsuc 575 ∷ pos 0 ∷ pos 24 ∷ negsuc 287 ∷ pos 0 ∷ pos 24 ∷ negsuc 575
    ∷ pos 0 ∷ pos 1 ∷ pos 0 ∷ pos 2 ∷ pos 0 ∷ pos 1 ∷ pos 0 ∷ pos 3
    -- b, flipped
    ∷ pos 15 ∷ pos 24 ∷ pos 22 ∷ pos 17 ∷ pos 0 ∷ pos 0 ∷ negsuc 7 ∷ pos 0 ∷ negsuc 7 ∷ negsuc 3 ∷ pos 0 ∷ negsuc 7
    ∷ negsuc 3 ∷ negsuc 3 ∷ negsuc 15 ∷ negsuc 3 ∷ negsuc 7 ∷ negsuc 7 ∷ negsuc 3 ∷ negsuc 15 ∷ pos 2 ∷ pos 0 ∷ pos 1 ∷ pos 2
    ∷ negsuc 23 ∷ negsuc 23 ∷ negsuc 575 ∷ pos 0 ∷ negsuc 23 ∷ negsuc 287 ∷ pos 0 ∷ negsuc 23 ∷ negsuc 575
    ∷ pos 0 ∷ pos 1 ∷ pos 0 ∷ pos 2 ∷ pos 0 ∷ pos 1 ∷ pos 0 ∷ pos 3
    -- c
    ∷ pos 3 ∷ pos 21 ∷ pos 27 ∷ pos 22 ∷ pos 0 ∷ pos 0 ∷ pos 0 ∷ negsuc 7 ∷ pos 4 ∷ negsuc 11 ∷ pos 8 ∷ negsuc 11
    ∷ pos 4 ∷ negsuc 7 ∷ pos 4 ∷ negsuc 19 ∷ pos 8 ∷ negsuc 15 ∷ pos 16 ∷ negsuc 19 ∷ pos 3 ∷ pos 3 ∷ pos 0 ∷ pos 1
    ∷ pos 0 ∷ negsuc 23 ∷ negsuc 575 ∷ pos 24 ∷ pos 24 ∷ pos 576 ∷ pos 0 ∷ negsuc 23 ∷ negsuc 863
    ∷ pos 0 ∷ pos 1 ∷ pos 0 ∷ pos 2 ∷ pos 0 ∷ pos 1 ∷ pos 0 ∷ pos 3
    -- c, flipped
    ∷ pos 2 ∷ pos 20 ∷ pos 26 ∷ pos 23 ∷ pos 0 ∷ pos 0 ∷ pos 0 ∷ pos 8 ∷ negsuc 3 ∷ pos 12 ∷ negsuc 7 ∷ pos 12
    ∷ negsuc 3 ∷ pos 8 ∷ negsuc 3 ∷ pos 20 ∷ negsuc 7 ∷ pos 16 ∷ negsuc 15 ∷ pos 20 ∷ pos 2 ∷ pos 2 ∷ pos 1 ∷ pos 0
    ∷ pos 0 ∷ pos 24 ∷ negsuc 575 ∷ negsuc 23 ∷ negsuc 23 ∷ pos 576 ∷ pos 0 ∷ pos 24 ∷ negsuc 863
    ∷ pos 0 ∷ pos 1 ∷ pos 0 ∷ pos 2 ∷ pos 0 ∷ pos 1 ∷ pos 0 ∷ pos 3
    -- m
    ∷ pos 2 ∷ pos 19 ∷ pos 24 ∷ pos 10 ∷ pos 0 ∷ pos 0 ∷ pos 0 ∷ pos 8 ∷ negsuc 7 ∷ pos 16 ∷ negsuc 7 ∷ pos 12
    ∷ negsuc 3 ∷ pos 8 ∷ negsuc 3 ∷ pos 20 ∷ negsuc 15 ∷ pos 20 ∷ negsuc 7 ∷ pos 16 ∷ pos 2 ∷ pos 2 ∷ pos 0 ∷ pos 1
    ∷ pos 0 ∷ pos 24 ∷ negsuc 575 ∷ negsuc 23 ∷ negsuc 23 ∷ pos 576 ∷ pos 0 ∷ negsuc 23 ∷ pos 864
    ∷ pos 0 ∷ pos 1 ∷ pos 0 ∷ pos 2 ∷ pos 0 ∷ pos 1 ∷ pos 0 ∷ pos 3
    -- m, flipped
    ∷ pos 3 ∷ pos 18 ∷ pos 25 ∷ pos 11 ∷ pos 0 ∷ pos 0 ∷ pos 0 ∷ negsuc 7 ∷ pos 8 ∷ negsuc 15 ∷ pos 8 ∷ negsuc 11
    ∷ pos 4 ∷ negsuc 7 ∷ pos 4 ∷ negsuc 19 ∷ pos 16 ∷ negsuc 19 ∷ pos 8 ∷ negsuc 15 ∷ pos 3 ∷ pos 3 ∷ pos 1 ∷ pos 0
    ∷ pos 0 ∷ negsuc 23 ∷ negsuc 575 ∷ pos 24 ∷ pos 24 ∷ pos 576 ∷ pos 0 ∷ pos 24 ∷ pos 864
    ∷ pos 0 ∷ pos 1 ∷ pos 0 ∷ pos 2 ∷ pos 0 ∷ pos 1 ∷ pos 0 ∷ pos 3
    -- p
    ∷ pos 17 ∷ pos 16 ∷ pos 8 ∷ pos 22 ∷ pos 0 ∷ pos 0 ∷ pos 0 ∷ negsuc 7 ∷ pos 0 ∷ pos 0 ∷ pos 8 ∷ negsuc 3
    ∷ negsuc 3 ∷ negsuc 3 ∷ pos 4 ∷ negsuc 7 ∷ pos 8 ∷ negsuc 3 ∷ pos 16 ∷ negsuc 7 ∷ pos 2 ∷ pos 3 ∷ pos 0 ∷ pos 1
    ∷ pos 24 ∷ pos 0 ∷ pos 0 ∷ pos 24 ∷ pos 24 ∷ pos 0 ∷ pos 0 ∷ negsuc 23 ∷ negsuc 287
    ∷ pos 0 ∷ pos 1 ∷ pos 0 ∷ pos 2 ∷ pos 0 ∷ pos 1 ∷ pos 0 ∷ pos 3
    -- p, flipped
    ∷ pos 16 ∷ pos 17 ∷ pos 9 ∷ pos 23 ∷ pos 0 ∷ pos 0 ∷ pos 0 ∷ pos 8 ∷ pos 0 ∷ pos 0 ∷ negsuc 7 ∷ pos 4
    ∷ pos 4 ∷ pos 4 ∷ negsuc 3 ∷ pos 8 ∷ negsuc 7 ∷ pos 4 ∷ negsuc 15 ∷ pos 8 ∷ pos 3 ∷ pos 2 ∷ pos 1 ∷ pos 0
    ∷ negsuc 23 ∷ pos 0 ∷ pos 0 ∷ negsuc 23 ∷ negsuc 23 ∷ pos 0 ∷ pos 0 ∷ pos 24 ∷ negsuc 287
    ∷ pos 0 ∷ pos 1 ∷ pos 0 ∷ pos 2 ∷ pos 0 ∷ pos 1 ∷ pos 0 ∷ pos 3
    -- q
    ∷ pos 3 ∷ pos 19 ∷ pos 24 ∷ pos 22 ∷ pos 0 ∷ pos 0 ∷ pos 0 ∷ negsuc 7 ∷ negsuc 7 ∷ pos 0 ∷ negsuc 7 ∷ negsuc 3
    ∷ pos 4 ∷ negsuc 7 ∷ negsuc 3 ∷ negsuc 3 ∷ negsuc 15 ∷ negsuc 3 ∷ negsuc 7 ∷ negsuc 7 ∷ pos 3 ∷ pos 2 ∷ pos 0 ∷ pos 1
    ∷ negsuc 23 ∷ pos 0 ∷ pos 0 ∷ negsuc 23 ∷ negsuc 23 ∷ negsuc 575 ∷ pos 0 ∷ negsuc 23 ∷ negsuc 287
    ∷ pos 0 ∷ pos 1 ∷ pos 0 ∷ pos 2 ∷ pos 0 ∷ pos 1 ∷ pos 0 ∷ pos 3
    -- q, flipped
    ∷ pos 2 ∷ pos 18 ∷ pos 25 ∷ pos 23 ∷ pos 0 ∷ pos 0 ∷ pos 0 ∷ pos 8 ∷ pos 8 ∷ pos 0 ∷ pos 8 ∷ pos 4
    ∷ negsuc 3 ∷ pos 8 ∷ pos 4 ∷ pos 4 ∷ pos 16 ∷ pos 4 ∷ pos 8 ∷ pos 8 ∷ pos 2 ∷ pos 3 ∷ pos 1 ∷ pos 0
    ∷ pos 24 ∷ pos 0 ∷ pos 0 ∷ pos 24 ∷ pos 24 ∷ negsuc 575 ∷ pos 0 ∷ pos 24 ∷ negsuc 287
    ∷ pos 0 ∷ pos 1 ∷ pos 0 ∷ pos 2 ∷ pos 0 ∷ pos 1 ∷ pos 0 ∷ pos 3
    -- r
    ∷ pos 24 ∷ pos 10 ∷ pos 1 ∷ pos 2 ∷ pos 0 ∷ pos 0 ∷ pos 0 ∷ negsuc 3 ∷ pos 0 ∷ negsuc 7 ∷ negsuc 7 ∷ negsuc 7
    ∷ negsuc 3 ∷ negsuc 3 ∷ pos 4 ∷ negsuc 7 ∷ negsuc 7 ∷ negsuc 7 ∷ negsuc 15 ∷ negsuc 3 ∷ pos 0 ∷ pos 1 ∷ pos 3 ∷ pos 2
    ∷ negsuc 11 ∷ negsuc 11 ∷ negsuc 287 ∷ negsuc 23 ∷ pos 0 ∷ negsuc 575 ∷ pos 0 ∷ negsuc 23 ∷ negsuc 287
    ∷ pos 0 ∷ pos 2 ∷ pos 0 ∷ pos 3 ∷ pos 1 ∷ pos 2 ∷ pos 1 ∷ pos 3
    -- r, flipped
    ∷ pos 25 ∷ pos 11 ∷ pos 0 ∷ pos 3 ∷ pos 0 ∷ pos 0 ∷ pos 0 ∷ pos 4 ∷ pos 0 ∷ pos 8 ∷ pos 8 ∷ pos 8
    ∷ pos 4 ∷ pos 4 ∷ negsuc 3 ∷ pos 8 ∷ pos 8 ∷ pos 8 ∷ pos 16 ∷ pos 4 ∷ pos 1 ∷ pos 0 ∷ pos 2 ∷ pos 3
    ∷ pos 12 ∷ pos 12 ∷ negsuc 287 ∷ pos 24 ∷ pos 0 ∷ negsuc 575 ∷ pos 0 ∷ pos 24 ∷ negsuc 287
    ∷ pos 0 ∷ pos 2 ∷ pos 0 ∷ pos 3 ∷ pos 1 ∷ pos 2 ∷ pos 1 ∷ pos 3 ∷ []
