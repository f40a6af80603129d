-- A text's table and its number of states, written into two slices: both, or none. Where the number has no place nothing is compiled, and
-- the text and the part are tested all the same, as room is the last test. Each law is in the form of what the code has in hand.
use mathlib.Core.Path.{◌≡◌, refl, sym, ap, ◌∙◌}
use mathlib.Core.Bool.{Bool, true, false, cond}
use mathlib.Core.List.{List, [], ◌∷◌}
use Prim.Native.Nat.{ℕ, ◌+◌, ◌*◌, ◌/◌, ◌%◌, ◌<◌, ◌≤◌}
use native.Mathlib.Omega.{arith}
use lib.Dec.{ltb}
use lib.IntN.{ℤ}
use lib.ListN.{length}
use borrow.Author.Tests.{le-ltb, lt-ltb}
use Rattle.std.specs.Prelude.{Result, Ok, Err}
use Rattle.triple.specs.declared.refusal.Refusal.{Refusal}
use Rattle.triple.specs.declared.refusal.Refusal.TheVariants.{Room, Part}
use Rattle.triple.specs.Refusals.{told, number_of}
use Rattle.triple.specs.Lent.{status_of, after_call}
use Rattle.grammar.specs.Tests.{Verdict, fine, fault}
use Rattle.grammar.specs.declared.tests.Fault.{Fault}
use Rattle.tables.specs.declared.compiler.CompileError.{CompileError}
use Rattle.tables.specs.Compiler.{Compiled, states, faulty, said_compiled, compiled_in, after_compile, state_count, unless}
use Rattle.tables.specs.Compiler as Compiler
use Rattle.tables.specs.Parts.{is_past}
use Rattle.tables.specs.Verdicts.{verdict}
use Rattle.tables.proofs.CompilerLaws.{when_faulty}
use Rattle.capi.specs.Calls.{count_values, compiled_values, fault_line, compile_status, table_after, count_after}
use Rattle.capi.proofs.FaultLaws.{Few, verdict_few, fault_few}

-- ---- the status and the number's slice, by what the compiler answers
module _ (text : List ℕ) (size start : ℕ) (out : List ℕ) where
  status_by : {c : Compiled} → c ≡ compiled_in text size start → 256 * fault_line c + status_of (compiled_values c) out ≡ compile_status text size start out
  unfolding compile_status
  status_by says = ap (λ c. 256 * fault_line c + status_of (compiled_values c) out) says

  count_by : {c : Compiled} → c ≡ compiled_in text size start → after_call (compiled_values c) out ≡ count_after text size start out
  unfolding count_after
  count_by says = ap (λ c. after_call (compiled_values c) out) says

  module _ {a : Result ℕ CompileError} (says : said_compiled a ≡ compiled_in text size start) where
    module _ {k : ℕ} (e : a ≡ Ok k) where
      told_states : states k ≡ compiled_in text size start
      told_states = ap said_compiled (sym e) ∙ says

      pub states_status : {n : ℕ} → n ≡ status_of (told (count_values k)) out → n ≡ compile_status text size start out
      states_status p = omega (arith, status_by told_states)

      pub states_count : {y : List ℕ} → y ≡ after_call (told (count_values k)) out → y ≡ count_after text size start out
      states_count p = p ∙ count_by told_states

    module _ {d : Fault} (e : a ≡ Err (CompileError.Fault d)) where
      told_faulty : faulty (number_of d.refusal) d.line ≡ compiled_in text size start
      told_faulty = ap said_compiled (sym e) ∙ says

      pub faulty_status : {n : ℕ} → n ≡ 256 * d.line + number_of d.refusal → n ≡ compile_status text size start out
      unfolding status_of
      faulty_status p = p ∙ status_by told_faulty

      pub faulty_count : out ≡ count_after text size start out
      unfolding after_call
      faulty_count = count_by told_faulty

      -- a line goes into a byte
      pub line_small : d.line ≤ 9
      line_small = (fault_few text (when_faulty text size start told_faulty)).1

    module _ {f : Refusal} (e : a ≡ Err (CompileError.Refused f)) where
      told_refused : Compiler.refused (number_of f) ≡ compiled_in text size start
      told_refused = ap said_compiled (sym e) ∙ says

      pub refused_status : {n : ℕ} → n ≡ number_of f → n ≡ compile_status text size start out
      unfolding status_of
      refused_status p = omega (arith, status_by told_refused)

      pub refused_count : out ≡ count_after text size start out
      unfolding after_call
      refused_count = count_by told_refused

-- ---- no place for the number
none : (out : List ℕ) → length out < 1 → out ≡ []
none [] h = refl
none (x ∷ out) h = let z : ⊥ = omega arith in absurd z

module _ (text : List ℕ) (size start : ℕ) where
  pub place_status : {a : Result ℕ CompileError} → said_compiled a ≡ compiled_in text size start → {k : ℕ} → a ≡ Ok k → {n : ℕ} → n ≡ number_of Room → n ≡ compile_status text size start []
  unfolding status_of
  place_status says e p = states_status text size start [] says e p

  pub none_status : (out : List ℕ) → length out < 1 → {n : ℕ} → n ≡ compile_status text size start [] → n ≡ compile_status text size start out
  none_status out h p = p ∙ ap (compile_status text size start) (sym (none out h))

  pub none_count : (out : List ℕ) → length out < 1 → out ≡ count_after text size start out
  unfolding after_call
  none_count out h = none out h ∙ go (compiled_in text size start) refl ∙ ap (count_after text size start) (sym (none out h))
    where
      go : (c : Compiled) → c ≡ compiled_in text size start → [] ≡ count_after text size start []
      go (states n) e = count_by text size start [] e
      go (faulty n line) e = count_by text size start [] e
      go (Compiler.refused n) e = count_by text size start [] e

-- ---- the table
module _ (text : List ℕ) (table : List ℤ) (start : ℕ) (out : List ℕ) where
  pub none_table : length out < 1 → table ≡ table_after text table start out
  unfolding table_after
  none_table h = rw (lt-ltb (length out) 1 h) refl

  pub left_table : 1 ≤ length out → {last : List ℤ} → last ≡ after_compile text table start → last ≡ table_after text table start out
  unfolding table_after
  left_table h e = rw (le-ltb (length out) 1 h) e

pub ruleset compiling = (states_status, states_count, faulty_status, faulty_count, line_small, refused_status, refused_count, place_status, none_status, none_count, none_table, left_table)

-- ---- a status has the number and the line apart
module _ (text : List ℕ) (size start : ℕ) (out : List ℕ) where
  -- the number goes into a byte
  number_small : status_of (compiled_values (compiled_in text size start)) out < 256
  unfolding compiled_in status_of number_of
  number_small = go (verdict text) (is_past size start (state_count text)) (verdict_few text)
    where
      put : (b : Bool) → cond b (number_of Room) 0 < 256
      put true = omega arith
      put false = omega arith

      go : (v : Verdict) (b : Bool) → Few v → status_of (compiled_values (unless v (cond b (Compiler.refused (number_of Part)) (states (state_count text))))) out < 256
      go fine true f = omega arith
      go fine false f = put (ltb (length out) 1)
      go (fault n line) b f = omega (arith, f.0)

  pub status_number : compile_status text size start out % 256 ≡ status_of (compiled_values (compiled_in text size start)) out
  unfolding compile_status
  status_number = omega (arith, number_small)

  pub status_line : compile_status text size start out / 256 ≡ fault_line (compiled_in text size start)
  unfolding compile_status
  status_line = omega (arith, number_small)
