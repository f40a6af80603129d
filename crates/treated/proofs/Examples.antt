-- Worked lists, by computation.
use mathlib.Core.Path.{◌≡◌, refl}
use mathlib.Core.List.{[], ◌∷◌}
use Rattle.triple.specs.Refusals.{told, refused, number_of}
use Rattle.triple.specs.Orientations.{is_backward, place_from, curve_place}
use Rattle.code.specs.Codes.{bits_of, value_of, all_bits, code_length, forward_of, reading_of, spare_of, loose_of, read_of}
use Rattle.treated.specs.declared.Fault.TheVariants.{Unsound, Marked, Orientation, Overlap}
use Rattle.treated.specs.Treated.{contains, overlaps, strays, judge_of, good, faulty, check_from, check_of}

-- good lists: none, three cells beside each other at two resolutions, and the one cell of resolution 0
pub good_examples :
    (check_of [] ≡ told (good 0))
    × (check_of (0x01 ∷ 0x00 ∷ 0x02 ∷ 0x80 ∷ 0x01 ∷ 0x40 ∷ []) ≡ told (good 3))
    × (check_of (0xA0 ∷ []) ≡ told (good 1))
unfolding number_of is_backward place_from curve_place bits_of value_of all_bits code_length forward_of reading_of spare_of loose_of read_of contains overlaps strays judge_of check_from check_of
good_examples = (refl, refl, refl)

-- overlaps: a cell in one before it, around one before it, and equal to one; found at the third code
pub overlap_examples :
    (check_of (0x01 ∷ 0x40 ∷ 0x01 ∷ 0x00 ∷ 0x02 ∷ 0x70 ∷ []) ≡ told (faulty Overlap 2))
    × (check_of (0x02 ∷ 0x70 ∷ 0x01 ∷ 0x00 ∷ 0x01 ∷ 0x40 ∷ []) ≡ told (faulty Overlap 2))
    × (check_of (0x02 ∷ 0x70 ∷ 0x01 ∷ 0x00 ∷ 0x02 ∷ 0x70 ∷ []) ≡ told (faulty Overlap 2))
unfolding number_of is_backward place_from curve_place bits_of value_of all_bits code_length forward_of reading_of spare_of loose_of read_of contains overlaps strays judge_of check_from check_of
overlap_examples = (refl, refl, refl)

-- the earliest of several: spare bits set in an old code; an old code of another orientation; one of another orientation at the same place; and a code
-- cut short behind a good one
pub earliest_examples :
    (check_of (0x21 ∷ 0x41 ∷ []) ≡ told (faulty Unsound 0))
    × (check_of (0x01 ∷ 0x00 ∷ 0x61 ∷ 0xC0 ∷ []) ≡ told (faulty Marked 1))
    × (check_of (0x01 ∷ 0x00 ∷ 0x41 ∷ 0x00 ∷ []) ≡ told (faulty Orientation 1))
    × (check_of (0x01 ∷ 0x00 ∷ 0x01 ∷ []) ≡ told (faulty Unsound 1))
unfolding number_of is_backward place_from curve_place bits_of value_of all_bits code_length forward_of reading_of spare_of loose_of read_of contains overlaps strays judge_of check_from check_of
earliest_examples = (refl, refl, refl, refl)

-- where two codes may come: a byte behind them, whatever it is, a fault among them, and none behind them
pub long_examples :
    (check_from 2 [] (0x01 ∷ 0x00 ∷ 0x01 ∷ 0x40 ∷ 0xFF ∷ []) ≡ refused 29)
    × (check_from 2 [] (0x01 ∷ 0x00 ∷ 0x01 ∷ 0x00 ∷ 0xFF ∷ []) ≡ told (faulty Overlap 1))
    × (check_from 2 [] (0x01 ∷ 0x00 ∷ 0x01 ∷ 0x40 ∷ []) ≡ told (good 2))
unfolding number_of is_backward place_from curve_place bits_of value_of all_bits code_length forward_of reading_of spare_of loose_of read_of contains overlaps strays judge_of check_from
long_examples = (refl, refl, refl)
