-- THE DRAWING, of every text that the compiler answers with a number of states: what it answers says that the text is accepted and the part
-- is within the table (`when_states`), and there `tables`' laws hold.
use mathlib.Core.Path.{◌≡◌, sym, subst}
use mathlib.Core.List.{List}
use Prim.Native.Nat.{ℕ, ◌+◌, ◌*◌, ◌≤◌}
use native.Mathlib.Omega.{arith}
use lib.IntN.{ℤ}
use lib.ListN.{length}
use Rattle.tables.specs.Compiler.{states, compiled_to, state_count}
use Rattle.tables.proofs.Drawing.{drawing_length}
use Rattle.tables.proofs.CompilerLaws.{when_states}
use Rattle.tables.proofs.CompileDetermined.{compiled_draws}
use Rattle.tables.proofs.PartsAlone.{compiled_length, compiled_outside}
use Rattle.demands.specs.Parts.{Grammar}

pub grammar : (text : List ℕ) (table : List ℤ) (start n : ℕ) → compiled_to text table start ≡ states n → Grammar text table start n
grammar text table start n e =
    let w = when_states text (length table) start (sym e) in
    let p = w.0 in
    let count : n ≡ state_count text = w.1.1 in
    let within : start + 41 * state_count text ≤ length table = subst (λ n. start + 41 * n ≤ length table) count w.1.0 in
    record {
      count = count;
      cells = λ r m b. drawing_length text p r m (omega arith);
      drawn = λ r m s h l b k. rw count (compiled_draws text p table start within r m s h l (omega arith) k);
      outside = compiled_outside text table start e;
      long = compiled_length text table start e;
    }
