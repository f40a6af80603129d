-- Calls by computation: what is written, what is left as it was, and the order of the refusals.
use mathlib.Core.Path.{◌≡◌, refl}
use mathlib.Core.List.{[], ◌∷◌}
use Prim.Native.Nat.{◌+◌, ◌^◌}
use lib.IntN.{pos, negsuc}
use lib.Ieee.{nan}
use Rattle.triple.specs.Refusals.{number_of}
use Rattle.triple.specs.Orientations.{is_backward}
use Rattle.turtle.specs.Plane.{far}
use Rattle.turtle.specs.Corners.{corner_sum, candidate, has_corner_sum, triple_of}
use Rattle.code.specs.Codes.{bits_of, value_of, bytes_of, code_length, code_bits, code_bytes, code_of}
use Rattle.text.specs.Words.{words_of as fields_of}
use Rattle.grammar.specs.Texts.{rows_of, shaped}
use Rattle.grammar.specs.Tests.{bad_shape, text_tests}
use Rattle.tables.specs.Verdicts.{verdict}
use Rattle.nodes.specs.Nodes.{good_position, good_frame, good_node, can_step, child_step_of}
use Rattle.triple.specs.Lent.{status_of, after_call, first_of, second_of}
use Rattle.capi.specs.Calls.{triple_call, step_call, write_call, compile_status}
use Rattle.tables.specs.Compiler.{compiled_in}

-- the corner sum (20, -16) into four places and into two; (14, -4), refused before the room is looked at
pub triple_examples :
    (status_of (triple_call (pos 20) (negsuc 15)) (pos 7 ∷ pos 7 ∷ pos 7 ∷ pos 7 ∷ []) ≡ 0)
    × (after_call (triple_call (pos 20) (negsuc 15)) (pos 7 ∷ pos 7 ∷ pos 7 ∷ pos 7 ∷ []) ≡ negsuc 0 ∷ pos 1 ∷ pos 0 ∷ pos 7 ∷ [])
    × (status_of (triple_call (pos 20) (negsuc 15)) (pos 7 ∷ pos 7 ∷ []) ≡ 10)
    × (after_call (triple_call (pos 20) (negsuc 15)) (pos 7 ∷ pos 7 ∷ []) ≡ pos 7 ∷ pos 7 ∷ [])
    × (status_of (triple_call (pos 14) (negsuc 3)) [] ≡ 6)
unfolding number_of far corner_sum candidate has_corner_sum triple_of status_of after_call
triple_examples = (refl, refl, refl, refl, refl)

-- the code of UV r 2 s 6 and its count: with room for both; with none for the count; with none for the code
pub write_examples :
    (status_of (first_of (write_call 0 2 6) (7 ∷ [])) (7 ∷ 8 ∷ 9 ∷ []) ≡ 0)
    × (after_call (first_of (write_call 0 2 6) (7 ∷ [])) (7 ∷ 8 ∷ 9 ∷ []) ≡ 0x02 ∷ 0x60 ∷ 9 ∷ [])
    × (after_call (second_of (write_call 0 2 6) (7 ∷ 8 ∷ 9 ∷ [])) (7 ∷ []) ≡ 2 ∷ [])
    × (status_of (first_of (write_call 0 2 6) []) (7 ∷ 8 ∷ 9 ∷ []) ≡ 10)
    × (after_call (first_of (write_call 0 2 6) []) (7 ∷ 8 ∷ 9 ∷ []) ≡ 7 ∷ 8 ∷ 9 ∷ [])
    × (after_call (second_of (write_call 0 2 6) (7 ∷ [])) (7 ∷ []) ≡ 7 ∷ [])
    × (status_of (first_of (write_call 5 30 (4 ^ 30)) []) [] ≡ 3)
    × (status_of (first_of (write_call 4 30 (4 ^ 30)) []) [] ≡ 28)
unfolding number_of is_backward bits_of value_of bytes_of code_length code_bits code_bytes code_of status_of after_call first_of second_of
write_examples = (refl, refl, refl, refl, refl, refl, refl, refl)

-- a child step of a motif or flip that is negative, refused after the resolution and the orientation and before the digit; of one that is too large the same
pub step_examples :
    (status_of (first_of (step_call 5 0 (negsuc 0) (pos 0) nan nan 4) []) [] ≡ 7)
    × (status_of (first_of (step_call 5 0 (pos 0) (negsuc 0) nan nan 4) []) [] ≡ 7)
    × (status_of (first_of (step_call 5 0 (pos 14) (pos 0) nan nan 4) []) [] ≡ 7)
    × (status_of (first_of (step_call 6 0 (pos 0) (pos 0) nan nan 4) []) [] ≡ 7)
    × (status_of (first_of (step_call 5 30 (pos 0) (pos 0) nan nan 4) []) [] ≡ 7)
unfolding number_of good_position good_frame good_node can_step child_step_of step_call status_of first_of
step_examples = (refl, refl, refl, refl, refl)

-- the empty text: 12, line 0; `A` alone, ended by LF: 12, line 1, wherever it was to go
pub compile_examples :
    (compile_status [] 0 0 [] ≡ 12)
    × (compile_status (65 ∷ 10 ∷ []) 0 7 [] ≡ 256 + 12)
unfolding rows_of fields_of shaped bad_shape text_tests verdict status_of compiled_in compile_status
compile_examples = (refl, refl)
