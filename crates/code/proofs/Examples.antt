-- Worked examples of document 01 on the position code, by computation.
use mathlib.Core.Path.{◌≡◌, refl}
use mathlib.Core.Bool.{Bool, true, false}
use mathlib.Core.List.{[], ◌∷◌}
use Prim.Native.Nat.{ℕ, ◌-◌, ◌^◌}
use Rattle.triple.specs.Refusals.{Told, told, refused, number_of}
use Rattle.triple.specs.Orientations.{is_backward, place_from, curve_place}
use Rattle.triple.specs.Lent.{count_of, after_call}
use Rattle.code.specs.declared.Reading.{Reading}
use Rattle.code.specs.Codes.{bits_of, value_of, bytes_of, all_bits, code_length, code_bits, code_bytes, forward_of, reading_of, code_of, spare_of, loose_of, read_of}

abbrev reading : ℕ → ℕ → ℕ → ℕ → Bool → Told Reading
reading o r s n old = told (record { orientation = o; resolution = r; s = s; used = n; old = old })

-- case 11, the code of the one cell at resolution 0, and the longest
pub code_examples :
    (code_bytes 0 2 6 ≡ 0x02 ∷ 0x60 ∷ [])
    × (code_bytes 5 1 3 ≡ 0xA1 ∷ 0xC0 ∷ [])
    × (code_bytes 3 0 0 ≡ 0x60 ∷ [])
    × (code_bytes 5 30 (4 ^ 30 - 1) ≡ 0xBE ∷ 0xFF ∷ 0xFF ∷ 0xFF ∷ 0xFF ∷ 0xFF ∷ 0xFF ∷ 0xFF ∷ 0xF0 ∷ [])
unfolding bits_of value_of bytes_of code_length code_bits code_bytes
code_examples = (refl, refl, refl, refl)

-- a writer's count and its buffer afterwards, and the refusals in their order
pub write_examples :
    (count_of (code_of 0 2 6) (7 ∷ 8 ∷ 9 ∷ []) ≡ told 2)
    × (after_call (code_of 0 2 6) (7 ∷ 8 ∷ 9 ∷ []) ≡ 0x02 ∷ 0x60 ∷ 9 ∷ [])
    × (count_of (code_of 6 31 (4 ^ 31)) [] ≡ refused 1)
    × (count_of (code_of 6 30 (4 ^ 30)) [] ≡ refused 2)
    × (count_of (code_of 1 30 (4 ^ 30)) [] ≡ refused 28)
    × (count_of (code_of 3 0 0) (7 ∷ []) ≡ refused 28)
    × (count_of (code_of 4 0 0) [] ≡ refused 28)
    × (count_of (code_of 5 30 (4 ^ 30)) [] ≡ refused 3)
    × (count_of (code_of 5 1 3) (7 ∷ []) ≡ refused 10)
    × (after_call (code_of 5 1 3) (7 ∷ []) ≡ 7 ∷ [])
unfolding number_of is_backward bits_of value_of bytes_of code_length code_bits code_bytes code_of count_of after_call
write_examples = (refl, refl, refl, refl, refl, refl, refl, refl, refl, refl)

-- a reader's answers, with later bytes there; old codes, which are turned: s 6 of VU at resolution 2 is s 9 of UV; the refusals in their order. The
-- spare bits are the last to be looked at, and each of them is.
pub read_examples :
    (read_of (0x02 ∷ 0x60 ∷ []) ≡ reading 0 2 6 2 false)
    × (read_of (0xA1 ∷ 0xC0 ∷ 0xFF ∷ []) ≡ reading 5 1 3 2 false)
    × (read_of (0x22 ∷ 0x60 ∷ []) ≡ reading 0 2 9 2 true)
    × (read_of (0x60 ∷ []) ≡ reading 2 0 0 1 true)
    × (read_of (0x81 ∷ 0xC0 ∷ []) ≡ reading 5 1 0 2 true)
    × (read_of [] ≡ refused 11)
    × (read_of (0xDF ∷ []) ≡ refused 1)
    × (read_of (0xDE ∷ []) ≡ refused 2)
    × (read_of (0xBE ∷ 0xFF ∷ []) ≡ refused 11)
    × (read_of (0xA1 ∷ 0xC1 ∷ []) ≡ refused 24)
    × (read_of (0xA1 ∷ 0xE0 ∷ []) ≡ refused 24)
unfolding number_of is_backward place_from curve_place bits_of value_of all_bits code_length forward_of reading_of spare_of loose_of read_of
read_examples = (refl, refl, refl, refl, refl, refl, refl, refl, refl, refl, refl)
