-- PARTS OF A TABLE: 26 exactly, two runs that agree in a part, and two grammars in one table; from `tables`' law that a part is a table of its own.
use mathlib.Core.Path.{◌≡◌, refl, sym, ap, ◌∙◌}
use mathlib.Core.Logic.{◌↔◌, ◌⊎◌, inl, inr, ⊎_elim}
use mathlib.Core.List.{List}
use Prim.Native.Nat.{ℕ, ◌+◌, ◌*◌, ◌<◌, ◌≤◌}
use native.Mathlib.Decide.{dec_lt}
use native.Mathlib.Omega.{arith}
use lib.Dec.{T}
use lib.IntN.{ℤ}
use lib.ListN.{length}
use Rattle.triple.specs.Refusals.{Told, refused, number_of}
use Rattle.grammar.specs.Tests.{fine, fault}
use Rattle.tables.specs.Compiler.{Compiled, states, faulty, compiled_in, compiled_to, after_compile, state_count}
use Rattle.tables.specs.Compiler as Compiler
use Rattle.tables.specs.Descent.{descent_in}
use Rattle.tables.specs.Verdicts.{verdict}
use Rattle.tables.proofs.CompileDetermined.{compiled_states}
use Rattle.tables.proofs.PartsAlone.{compile_past, compile_kept, compiled_length, compiled_outside, compile_same, after_same, descent_past, descent_within, descent_same}
use Rattle.demands.specs.Demands.{AnsweredOr, answer, refusal, is_among}
use Rattle.demands.specs.Parts.{Draws, Outside, Apart, AgreeIn, Parts, TwoGrammars}
use Rattle.demands.proofs.Refused.{descent_inside}
use Rattle.demands.proofs.Drawn.{grammar}

-- ---- 26
-- a refusal is by one of the numbers
by_number : {A : Type 0} {numbers : List ℕ} {t : Told A} → AnsweredOr numbers t → {n : ℕ} → t ≡ refused n → T (is_among n numbers)
by_number answer e = absurd (let z : ◌≡◌ {A = ℕ} 0 1 = cc in omega arith)
by_number {numbers = numbers} (refusal {n = m} h) {n} e = let same : m ≡ n = cc in rw same at h

past_end : (size start n : ℕ) → (size < start) ⊎ (size < start + 41 * n) → size < start + 41 * n
past_end size start n h = ⊎_elim (λ k. omega arith) (λ k. k) h

past : (table : List ℤ) (start n r token s : ℕ) → (descent_in table start n r token s ≡ refused 26) ↔ ((length table < start) ⊎ (length table < start + 41 * n))
unfolding number_of
past table start n r token s = (out, λ h. descent_past table start n r token s (past_end (length table) start n h))
  where
    out : descent_in table start n r token s ≡ refused 26 → (length table < start) ⊎ (length table < start + 41 * n)
    out e = elim (dec_lt (length table) (start + 41 * n)) [
      | yes h ↦ inr h
      | no h ↦ absurd (by_number (descent_inside _ n r token s) (sym (descent_within table start n r token s (omega arith)) ∙ e))
    ]

faults_first : (text : List ℕ) (table : List ℤ) (start n line : ℕ) → verdict text ≡ fault n line → compiled_to text table start ≡ faulty n line
unfolding compiled_in
faults_first text table start n line e = rw e refl

compiler_past : (text : List ℕ) (table : List ℤ) (start : ℕ) → verdict text ≡ fine → (compiled_to text table start ≡ Compiler.refused 26) ↔ ((length table < start) ⊎ (length table < start + 41 * state_count text))
unfolding number_of
compiler_past text table start p = (out, λ h. compile_past text (length table) start p (past_end (length table) start (state_count text) h))
  where
    out : compiled_to text table start ≡ Compiler.refused 26 → (length table < start) ⊎ (length table < start + 41 * state_count text)
    out e = elim (dec_lt (length table) (start + 41 * state_count text)) [
      | yes h ↦ inr h
      | no h ↦ absurd (let f = compiled_states text p table start (omega arith) in let z : ◌≡◌ {A = ℕ} 0 1 = cc in omega arith)
    ]

-- ---- two runs
after_length : (text : List ℕ) (table : List ℤ) (start : ℕ) → length (after_compile text table start) ≡ length table
after_length text table start = go (compiled_to text table start) refl
  where
    kept : ((n : ℕ) → compiled_to text table start ≡ states n → ⊥) → length (after_compile text table start) ≡ length table
    kept none = ap length (compile_kept text table start none)

    go : (c : Compiled) → compiled_to text table start ≡ c → length (after_compile text table start) ≡ length table
    go (states n) e = compiled_length text table start e
    go (faulty n line) e = kept (λ m f. let z : ◌≡◌ {A = ℕ} 0 1 = cc in omega arith)
    go (Compiler.refused n) e = kept (λ m f. let z : ◌≡◌ {A = ℕ} 0 1 = cc in omega arith)

tables_same : (text : List ℕ) (t u : List ℤ) (start n : ℕ) → AgreeIn start n t u → AgreeIn start n (after_compile text t start) (after_compile text u start)
tables_same text t u start n agree = record {
  long = after_length text t start ∙ agree.long ∙ sym (after_length text u start);
  same = λ i h k. after_same text t u start agree.long i (agree.same i h k);
}

pub parts : Parts
parts = record {
  past = past;
  faults_first = faults_first;
  compiler_past = compiler_past;
  compiler_same = λ text t u start n agree. compile_same text t u start agree.long;
  tables_same = tables_same;
  descent_same = λ t u start n r token s agree. descent_same t u start n r token s agree.long agree.same;
}

-- ---- two grammars
pub two_grammars : (text other : List ℕ) (table : List ℤ) (start n place m : ℕ) → compiled_to text table start ≡ states n → compiled_to other (after_compile text table start) place ≡ states m → Apart start n place m
    → TwoGrammars text other table start n place m
two_grammars text other table start n place m e f apart = record { first = first; second = (grammar other left place m f).drawn }
  where
    left : List ℤ
    left = after_compile text table start

    outside : (i : ℕ) → start ≤ i → i < start + 41 * n → Outside place m i
    outside i h k = ⊎_elim (λ a. inl (omega arith)) (λ a. inr (omega arith)) apart

    first : Draws text (after_compile other left place) start n
    first r k s h l b d =
        descent_same (after_compile other left place) left start n r k s (compiled_length other left place f) (λ i x y. compiled_outside other left place f i (outside i x y))
        ∙ (grammar text table start n e).drawn r k s h l b d
