-- `cell::triple_at`: the column counts from the rows, and no number leaves the range of an i32.
use native.Mathlib.Omega.{arith}
use mathlib.Core.Path.{◌∙◌}
use Prim.Native.Nat.{◌+◌, ◌^◌}
use mir.Syntax.{w32, w64}
use Rattle.whole.proofs.View.{seen, v_unsigned, fits, eq_by}
use Rattle.turtle.proofs.CornerLaws.{triple_is}
use Rattle.triple.proofs.DomainLaws.{v_power, v_rows}
use Rattle.lsystem.specs.Inside.CellParts.{triple_by}
use Rattle.lsystem.proofs.cell.triple_at.Goals as goal

pub overflow_cast-column-2 : goal.overflow_cast-column-2
overflow_cast-column-2 c =
    let x = v_unsigned w64 (c.args.x + 1) (2 ^ 30) (omega (arith, c.requires.1.0)) in
    let rows = (v_rows _ c.requires.0 c.row_count.ensures) in
    fits (search seen depth 12) tt

pub overflow_cast-up-3 : goal.overflow_cast-up-3
overflow_cast-up-3 c =
    let x = v_unsigned w64 (c.args.x + 1) (2 ^ 30) (omega (arith, c.requires.1.0)) in
    let y = v_unsigned w64 c.args.y (2 ^ 30) (omega (arith, c.requires.1.1.0)) in
    let q = v_unsigned w64 c.args.parity 1 (omega (arith, c.requires.1.1.1)) in
    let rows = (v_rows _ c.requires.0 c.row_count.ensures) in
    fits (search seen depth 16) tt

pub returns : goal.returns
unfolding triple_by
returns c =
    let x = v_unsigned w64 (c.args.x + 1) (2 ^ 30) (omega (arith, c.requires.1.0)) in
    let y = v_unsigned w64 c.args.y (2 ^ 30) (omega (arith, c.requires.1.1.0)) in
    let row = v_unsigned w32 c.args.y (2 ^ 30) (omega (arith, c.requires.1.1.0)) in
    let q = v_unsigned w64 c.args.parity 1 (omega (arith, c.requires.1.1.1)) in
    let rows = (v_rows _ c.requires.0 c.row_count.ensures) in
    let power = v_power _ c.requires.0 in
    c.new.ensures
    ∙ triple_is (eq_by (search seen depth 14) (search seen depth 9) tt (omega arith)) (eq_by (search seen depth 9) (search seen depth 9) tt (omega arith)) (eq_by (search seen depth 18) (search seen depth 12) tt (omega arith))
