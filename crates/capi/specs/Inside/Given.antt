-- How the code makes a frame of the numbers that it is given.
use Rattle.std.specs.Prelude.{cond, ℕ, suc, ltb, ℤ, pos, negsuc, Float}
use Rattle.nodes.specs.declared.Frame.{Frame}

-- a number from 0 to the greatest; one more than the greatest for every other
unfoldable pub clipped : ℕ → ℤ → ℕ
clipped greatest (pos n) = cond (ltb greatest n) (suc greatest) n
clipped greatest (negsuc n) = suc greatest

abbrev pub frame_clipped : ℤ → ℤ → Float → Float → Frame
frame_clipped m f a b = record { motif = clipped 13 m; flip = clipped 1 f; pos_a = a; pos_b = b }
