-- The compiler's contract allows one result alone; and what it writes is what the drawing asks.
use mathlib.Core.Path.{◌≡◌, refl, sym, ap, ◌∙◌}
use mathlib.Core.Bool.{Bool}
use mathlib.Core.List.{List}
use Prim.Native.Nat.{ℕ, ◌+◌, ◌*◌, ◌^◌, ◌<◌, ◌≤◌}
use native.Mathlib.Omega.{arith}
use lib.IntN.{ℤ}
use lib.ListN.{length, get_or}
use borrow.Author.Tests.{le-ltb}
use Rattle.std.specs.Prelude.{Result, Ok, Err}
use Rattle.triple.specs.Refusals.{told}
use Rattle.triple.proofs.Determined.{one_to_one, determined, refusal_of, numbered}
use Rattle.grammar.specs.Texts.{lines_of}
use Rattle.grammar.specs.Curves.{drawing, token_bytes, letter_of}
use Rattle.grammar.specs.Tests.{fine}
use Rattle.tables.specs.declared.compiler.CompileError.{CompileError}
use Rattle.tables.specs.Children.{no_cell}
use Rattle.tables.specs.Compiler.{Compiled, states, faulty, refused, said_compiled, compiled_in, compiled_to, after_compile, table_for, state_count}
use Rattle.tables.specs.Descent.{descent_in}
use Rattle.tables.specs.Parts.{is_past, with_part}
use Rattle.tables.specs.Table.{leaf_of}
use Rattle.tables.specs.Verdicts.{verdict}
use Rattle.tables.proofs.Compiled.{compiled_descends}
use Rattle.tables.proofs.Entries.{length_table}
use Rattle.tables.proofs.PartLaws.{with_part_length, with_part_back}

answer_of : Compiled → Result ℕ CompileError
answer_of (states n) = Ok n
answer_of (faulty n line) = Err (CompileError.Fault (record { refusal = refusal_of n; line = line }))
answer_of (refused n) = Err (CompileError.Refused (refusal_of n))

answered : (a : Result ℕ CompileError) → answer_of (said_compiled a) ≡ a
unfolding answer_of
answered (Ok n) = refl
answered (Err (CompileError.Fault f)) = ap (λ e. Err (CompileError.Fault (record { refusal = e; line = f.line }))) (numbered f.refusal)
answered (Err (CompileError.Refused e)) = ap (λ e. Err (CompileError.Refused e)) (numbered e)

said_compiled_one_to_one : (a b : Result ℕ CompileError) → said_compiled a ≡ said_compiled b → a ≡ b
said_compiled_one_to_one = one_to_one said_compiled answer_of answered

pub compile_determined : (text : List ℕ) (table : List ℤ) (start : ℕ) (a b : Result ℕ CompileError) (x y : List ℤ)
    → (said_compiled a ≡ compiled_to text table start) × (x ≡ after_compile text table start) → (said_compiled b ≡ compiled_to text table start) × (y ≡ after_compile text table start) → (a ≡ b) × (x ≡ y)
compile_determined text table start a b x y p q = (said_compiled_one_to_one a b (p.0 ∙ sym q.0), p.1 ∙ sym q.1)

pub judge_determined : (text : List ℕ) (size start : ℕ) (a b : Result ℕ CompileError) → said_compiled a ≡ compiled_in text size start → said_compiled b ≡ compiled_in text size start → a ≡ b
judge_determined text size start = determined said_compiled said_compiled_one_to_one

pub past_determined : (size start count : ℕ) (a b : Bool) → a ≡ is_past size start count → b ≡ is_past size start count → a ≡ b
past_determined size start count a b p q = p ∙ sym q

-- ---- every accepted text, compiled into any part of a table and descended there, gives its drawing
module _ (text : List ℕ) (p : verdict text ≡ fine) (table : List ℤ) (start : ℕ) (within : start + 41 * state_count text ≤ length table) where
  pub compiled_states : compiled_to text table start ≡ states (state_count text)
  unfolding compiled_in
  compiled_states = rw (p, le-ltb (length table) (start + 41 * state_count text) within) refl

  pub compiled_table : after_compile text table start ≡ with_part table start (table_for text)
  unfolding after_compile
  compiled_table = rw compiled_states refl

  table_size : length (table_for text) ≡ 41 * state_count text
  table_size = omega (arith, length_table (lines_of text))

  pub compiled_fits : start + length (table_for text) ≤ length table
  compiled_fits = omega (arith, table_size)

  pub compiled_draws : (r m s : ℕ) → 1 ≤ r → r ≤ 30 → m < length (token_bytes (lines_of text)) → s < 4 ^ r
      → descent_in (after_compile text table start) start (state_count text) r m s ≡ told (leaf_of (get_or (drawing (lines_of text) r (letter_of (lines_of text) m)) s no_cell))
  unfolding descent_in
  compiled_draws r m s h l b k =
      let size : length (with_part table start (table_for text)) ≡ length table = with_part_length table start (table_for text) compiled_fits in
      rw (
        compiled_table,
        le-ltb (length (with_part table start (table_for text))) (start + 41 * state_count text) (omega (arith, size)),
        with_part_back table start (table_for text) compiled_fits (state_count text) table_size,
      ) (compiled_descends text p r m s h l b k)
