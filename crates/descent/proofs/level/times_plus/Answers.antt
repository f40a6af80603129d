-- `times_plus`: all three numbers are small.
use mathlib.Core.Path.{refl}
use lib.IntN.{◌+ℤ◌, ◌*ℤ◌}
use mir.Syntax.{w64}
use mir.Val.{to_z, of_z}
use Prim.Native.Nat.{◌^◌}
use Rattle.whole.proofs.View.{seen, v_abs, v_add, v_prod, fits, kept}
use Rattle.descent.proofs.level.times_plus.Goals as goal

pub overflow_mul-result : goal.overflow_mul-result
overflow_mul-result c =
    let n = v_abs c.args.n 3 c.requires.0 in
    let p = v_abs c.args.place (2 ^ 42) c.requires.1.0 in
    fits (search (seen, v_prod)) tt

pub overflow_add-result : goal.overflow_add-result
overflow_add-result c =
    let n = v_abs c.args.n 3 c.requires.0 in
    let p = v_abs c.args.place (2 ^ 42) c.requires.1.0 in
    let o = v_abs c.args.entry 4096 c.requires.1.1 in
    fits (search (seen, v_prod)) tt

pub returns : goal.returns
returns c =
    let n = v_abs c.args.n 3 c.requires.0 in
    let p = v_abs c.args.place (2 ^ 42) c.requires.1.0 in
    let o = v_abs c.args.entry 4096 c.requires.1.1 in
    let product = kept w64 {z = to_z w64 (of_z w64 c.args.n) *ℤ to_z w64 (of_z w64 c.args.place)} (rw (kept w64 refl n tt, kept w64 refl p tt) refl) (v_prod n p) tt in
    kept w64 {z = to_z w64 (of_z w64 (to_z w64 (of_z w64 c.args.n) *ℤ to_z w64 (of_z w64 c.args.place))) +ℤ to_z w64 (of_z w64 c.args.entry)} (rw (product, kept w64 refl o tt) refl) (v_add (v_prod n p) o) tt
