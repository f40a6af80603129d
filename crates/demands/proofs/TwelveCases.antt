-- THE DOZEN. All but case 6 by computation; case 6 by the law that a position's cell is its digits' walk through the footprints (`cell_at_lem`), which
-- computes in thirty steps where the drawing has 4 ^ 30 cells.
use mathlib.Core.Path.{◌≡◌, refl}
use Prim.Native.Nat.{◌-◌, ◌^◌, ◌<◌}
use native.Mathlib.Omega.{arith}
use lib.IntN.{pos, negsuc}
use Rattle.triple.specs.Refusals.{refused, number_of}
use Rattle.triple.specs.Orientations.{is_backward, place_from, curve_place}
use Rattle.triple.specs.Triples.{color_of, closed_flavor}
use Rattle.lsystem.specs.Cells.{cell_at, cell_of}
use Rattle.lsystem.proofs.Examples.{cell_examples, corner_examples}
use Rattle.tables.proofs.Examples.{no_split}
use Rattle.tables.specs.Compiler.{compiled_in}
use Rattle.tables.specs.Descent.{entry}
use Rattle.a5.specs.A5Table.{a5_table}
use Rattle.a5.specs.Inside.Footprints.{before_x, before_y, before_g, begins, at_x, at_y, at_g, leaf_x, leaf_y, leaf_g}
use Rattle.a5.specs.Inside.Spots.{moved, leaf, walk, triple_at}
use Rattle.a5.proofs.Once.{cell_triple}
use Rattle.lsystem.proofs.CellLaws.{axiom_in, cell_at_lem}
use Rattle.curve.proofs.Examples.{point_examples}
use Rattle.code.proofs.Examples.{code_examples}
use Rattle.demands.specs.Dozen.{Dozen, cell}

last : 4 ^ 30 - 1 < 4 ^ 30
last = omega arith

-- the walk by the thirty digits of the last position
last_cell : cell_at 0 30 (4 ^ 30 - 1) ≡ cell (pos 0) (pos 1073741823) (negsuc 1073741822) 2
unfolding axiom_in is_backward place_from curve_place cell_triple triple_at walk moved leaf before_x before_y before_g begins at_x at_y at_g leaf_x leaf_y leaf_g entry a5_table color_of closed_flavor
last_cell = cell_at_lem 0 29 (4 ^ 30 - 1) (omega arith) (omega arith) last

last_told : cell_of 0 30 (4 ^ 30 - 1) ≡ cell (pos 0) (pos 1073741823) (negsuc 1073741822) 2
unfolding cell_of
last_told = last_cell

past_last : cell_of 0 30 (4 ^ 30) ≡ refused 3
unfolding cell_of number_of
past_last = refl

pub dozen : Dozen
dozen =
    let c = cell_examples in
    record {
      case_1 = (c.0, c.1, c.2, c.3);
      case_2 = (c.4, c.5, c.6, c.7);
      case_3 = (c.8, c.9, c.10, c.11);
      case_4 = c.12;
      case_5 = c.13;
      case_6 = (last_told, past_last);
      case_7 = corner_examples.0;
      case_8 = corner_examples.1;
      case_9 = point_examples.0;
      case_10 = point_examples.1;
      case_11 = (code_examples.0, code_examples.1);
      case_12 = λ table start. unfold compiled_in in rw no_split;
    }
