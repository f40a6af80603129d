-- A worked list, by computation: a sound code, spare bits set, an old code, a byte that begins none, both faults, and a code cut short before a sound one.
use mathlib.Core.Path.{◌≡◌, refl}
use mathlib.Core.List.{List, [], ◌∷◌}
use Prim.Native.Nat.{ℕ}
use Rattle.triple.specs.Refusals.{told, refused, number_of}
use Rattle.triple.specs.Orientations.{is_backward, place_from, curve_place}
use Rattle.triple.specs.Lent.{count_of, after_call}
use Rattle.code.specs.Codes.{bits_of, value_of, bytes_of, all_bits, code_length, code_bits, code_bytes, forward_of, reading_of, spare_of, loose_of, read_of}
use Rattle.mend.specs.declared.Change.{Change}
use Rattle.mend.specs.declared.Change.TheVariants.{Kept, Spare, Turned, Both, Dropped}
use Rattle.mend.specs.Mends.{unread_of, piece_of, pieces_in, pieces_of, mend_of, tellings, Line, changes_of, step_of, mend_call, mended_to}

abbrev old : List ℕ
old = 0x02 ∷ 0x60 ∷ 0xA1 ∷ 0xC1 ∷ 0x22 ∷ 0x60 ∷ 0xFF ∷ 0x81 ∷ 0xC1 ∷ 0xBE ∷ 0x00 ∷ []

abbrev line : ℕ → Change → Line
line at c = record { offset = at; change = c }

pub mend_examples :
    (mend_of old ≡ 0x02 ∷ 0x60 ∷ 0xA1 ∷ 0xC0 ∷ 0x02 ∷ 0x90 ∷ 0xA1 ∷ 0x00 ∷ 0x00 ∷ [])
    × (changes_of old ≡ line 2 Spare ∷ line 4 Turned ∷ line 6 Dropped ∷ line 7 Spare ∷ line 7 Turned ∷ line 9 Dropped ∷ [])
    × (mend_of [] ≡ [])
    × (mended_to (0xFF ∷ 0x00 ∷ []) (7 ∷ []) ≡ refused 10)
    × (mended_to (0xFF ∷ 0x00 ∷ []) (7 ∷ 8 ∷ 9 ∷ []) ≡ told (record { written = 1; changes = 1 }))
    × (after_call (mend_call (0xFF ∷ 0x00 ∷ []) (7 ∷ 8 ∷ 9 ∷ [])) (7 ∷ 8 ∷ 9 ∷ []) ≡ 0x00 ∷ 8 ∷ 9 ∷ [])
unfolding number_of is_backward place_from curve_place count_of after_call bits_of value_of bytes_of all_bits code_length code_bits code_bytes forward_of reading_of spare_of loose_of read_of unread_of piece_of pieces_in pieces_of mend_of tellings changes_of mend_call mended_to
mend_examples = (refl, refl, refl, refl, refl, refl)

-- one step: of both faults, with room for what it writes and without; of a byte that is dropped, which needs none; of nothing
pub step_examples :
    (step_of (0x81 ∷ 0xC1 ∷ 0xFF ∷ []) (7 ∷ 8 ∷ []) ≡ told (record { taken = 2; written = 2; change = Both }))
    × (step_of (0x81 ∷ 0xC1 ∷ 0xFF ∷ []) (7 ∷ []) ≡ refused 10)
    × (step_of (0xFF ∷ 0x81 ∷ []) [] ≡ told (record { taken = 1; written = 0; change = Dropped }))
    × (step_of [] [] ≡ told (record { taken = 0; written = 0; change = Kept }))
unfolding number_of is_backward place_from curve_place count_of bits_of value_of bytes_of all_bits code_length code_bits code_bytes forward_of reading_of spare_of loose_of read_of unread_of piece_of step_of
step_examples = (refl, refl, refl, refl)
