-- The position code, through its bits: its bytes, what a writer does and what a reader answers.
use Rattle.std.specs.Prelude.{cond, List, [], ◌∷◌, ◌++◌, ℕ, zero, suc, ◌+◌, ◌-◌, ◌*◌, ◌/◌, ◌%◌, ◌^◌, ◌<◌, leb, ltb, eqb, length, get_or, take, drop, replicate}
use Rattle.triple.specs.declared.refusal.Refusal.TheVariants as Is
use Rattle.triple.specs.Refusals.{Told, told, refuse, ◌>>=◌}
use Rattle.triple.specs.Domain.{in_domain}
use Rattle.triple.specs.Orientations.{is_backward, curve_place}
use Rattle.code.specs.declared.Reading.{Reading}

-- ---- bits, the most significant first
-- the low n bits of v
unfoldable pub bits_of : ℕ → ℕ → List ℕ
bits_of zero v = []
bits_of (suc n) v = v / 2 ^ n % 2 ∷ bits_of n v

-- the number that the bits write after those of v
abbrev pub value_after : ℕ → List ℕ → ℕ
value_after v [] = v
value_after v (b ∷ bits) = value_after (2 * v + b) bits

unfoldable pub value_of : List ℕ → ℕ
value_of bits = value_after 0 bits

-- the first 8 n bits as n bytes, and the bits of bytes
unfoldable pub bytes_of : ℕ → List ℕ → List ℕ
bytes_of zero bits = []
bytes_of (suc n) bits = value_of (take 8 bits) ∷ bytes_of n (drop 8 bits)

unfoldable pub all_bits : List ℕ → List ℕ
all_bits [] = []
all_bits (b ∷ bytes) = bits_of 8 b ++ all_bits bytes

-- ---- the code: orientation in 3 bits, resolution in 5, then the 2 r bits of s, then spare bits to the end of the byte, zero
-- 1 + ceil (r / 4)
unfoldable pub code_length : ℕ → ℕ
code_length r = 1 + (r + 3) / 4

unfoldable pub code_bits : ℕ → ℕ → ℕ → List ℕ
code_bits o r s = bits_of 3 o ++ (bits_of 5 r ++ (bits_of (2 * r) s ++ replicate (8 * code_length r - (8 + 2 * r)) 0))

unfoldable pub code_bytes : ℕ → ℕ → ℕ → List ℕ
code_bytes o r s = bytes_of (code_length r) (code_bits o r s)

-- ---- the orientations of codes: VU, WU and VW are written no more
-- the orientation that runs the same curve forward: UV of VU, UW of WU, WV of VW
unfoldable pub forward_of : ℕ → ℕ
forward_of o = cond (eqb o 1) 0 (cond (eqb o 3) 2 (cond (eqb o 4) 5 o))

-- what a code says of s in the orientation o: the same cell's place on the curve run forward, and whether it was turned
unfoldable pub reading_of : ℕ → ℕ → ℕ → Reading
reading_of o r s = record { orientation = forward_of o; resolution = r; s = curve_place o r s; used = code_length r; old = is_backward o }

-- ---- the writer
-- THE CODE's bytes; Lent has how many are written, and the buffer afterwards
unfoldable pub code_of : ℕ → ℕ → ℕ → Told (List ℕ)
code_of o r s =
    in_domain o r
    (refuse (is_backward o) Is.Retired
    (refuse (leb (4 ^ r) s) Is.Position
    (told (code_bytes o r s))))

-- ---- the reader; its tests in order: empty, resolution, orientation, cut short, spare bits
-- what the code at the front says: spare bits and later bytes are not looked at
unfoldable pub loose_of : List ℕ → Told Reading
loose_of bytes =
    let bits = all_bits bytes in
    let o = value_of (take 3 bits) in
    let r = value_of (take 5 (drop 3 bits)) in
    refuse (eqb (length bytes) 0) Is.Code
    (in_domain o r
    (refuse (ltb (length bytes) (code_length r)) Is.Code
    (told (reading_of o r (value_of (take (2 * r) (drop 8 bits)))))))

-- the number that the spare bits write, behind the 8 + 2 r bits of a code: 0 where all of them are zero
unfoldable pub spare_of : ℕ → List ℕ → ℕ
spare_of r bytes = value_of (take (8 * code_length r - (8 + 2 * r)) (drop (8 + 2 * r) (all_bits bytes)))

-- THE READING: no spare bit is set, and later bytes are not looked at
unfoldable pub read_of : List ℕ → Told Reading
read_of bytes = do
  x ← loose_of bytes
  refuse (ltb 0 (spare_of x.resolution bytes)) Is.Spare (told x)

-- a byte is below 256
abbrev pub Bytes : List ℕ → Type 0
Bytes bytes = (k : ℕ) → get_or bytes k 0 < 256
