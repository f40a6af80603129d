-- A PART IS A TABLE OF ITS OWN: the compiler leaves every entry outside its part as it was, a descent looks at its part alone, and neither
-- answers anything else where the rest of the table differs.
use mathlib.Core.Path.{◌≡◌, refl, sym, ap, ◌∙◌}
use mathlib.Core.Logic.{◌⊎◌, inl, inr, ⊎_elim}
use mathlib.Core.List.{List}
use Prim.Native.Nat.{ℕ, ◌+◌, ◌-◌, ◌*◌, ◌<◌, ◌≤◌}
use native.Mathlib.Decide.{dec_lt}
use native.Mathlib.Omega.{arith}
use lib.IntN.{ℤ, pos}
use lib.ListN.{length, get_or}
use borrow.Author.Tests.{lt-ltb, le-ltb}
use Rattle.triple.specs.declared.refusal.Refusal.TheVariants.{Part}
use Rattle.triple.specs.Refusals.{refused, number_of}
use Rattle.grammar.specs.Texts.{lines_of}
use Rattle.grammar.specs.Tests.{fine}
use Rattle.tables.specs.Compiler.{Compiled, states, faulty, compiled_in, compiled_to, after_compile, table_for, state_count, written}
use Rattle.tables.specs.Compiler as Compiler
use Rattle.tables.specs.Descent.{descent_of, descent_in}
use Rattle.tables.specs.Parts.{part_of, with_part}
use Rattle.tables.specs.Verdicts.{verdict}
use Rattle.tables.proofs.Entries.{length_table}
use Rattle.tables.proofs.PartLaws.{part_same, with_part_length, with_part_back, before_part, in_part, past_part}
use Rattle.tables.proofs.CompilerLaws.{when_states}

-- ---- the compiler
-- a part past the table is refused once the text is accepted
pub compile_past : (text : List ℕ) (size start : ℕ) → verdict text ≡ fine → size < start + 41 * state_count text → compiled_in text size start ≡ Compiler.refused (number_of Part)
unfolding compiled_in
compile_past text size start p h = rw (p, lt-ltb size (start + 41 * state_count text) h) refl

module _ (text : List ℕ) (table : List ℤ) (start : ℕ) where
  -- what is refused leaves the table as it was
  pub compile_kept : ((n : ℕ) → compiled_to text table start ≡ states n → ⊥) → after_compile text table start ≡ table
  unfolding after_compile
  compile_kept none = go (compiled_to text table start) refl
    where
      go : (c : Compiled) → compiled_to text table start ≡ c → written c (with_part table start (table_for text)) table ≡ table
      go (states n) e = absurd (none n e)
      go (faulty n line) e = refl
      go (Compiler.refused n) e = refl

  module _ {n : ℕ} (answered : compiled_to text table start ≡ states n) where
    numbers : length (table_for text) ≡ 41 * n
    numbers = omega (arith, length_table (lines_of text), (when_states text (length table) start (sym answered)).1.1)

    within : start + length (table_for text) ≤ length table
    within = omega (arith, numbers, (when_states text (length table) start (sym answered)).1.0)

    after_is : after_compile text table start ≡ with_part table start (table_for text)
    unfolding after_compile
    after_is = rw answered refl

    pub compiled_length : length (after_compile text table start) ≡ length table
    compiled_length = ap length after_is ∙ with_part_length table start (table_for text) within

    -- the part has the text's table, whatever was there
    pub compiled_part : part_of (after_compile text table start) start n ≡ table_for text
    compiled_part = ap (λ t. part_of t start n) after_is ∙ with_part_back table start (table_for text) within n numbers

    pub compiled_outside : (i : ℕ) → (i < start) ⊎ (start + 41 * n ≤ i) → get_or (after_compile text table start) i (pos 0) ≡ get_or table i (pos 0)
    compiled_outside i h =
        ap (λ t. get_or t i (pos 0)) after_is
        ∙ ⊎_elim (before_part table start (table_for text) within i) (λ k. past_part table start (table_for text) within i (omega (arith, numbers))) h

    compiled_inside : (i : ℕ) → start ≤ i → i < start + 41 * n → get_or (after_compile text table start) i (pos 0) ≡ get_or (table_for text) (i - start) (pos 0)
    compiled_inside i h k = ap (λ t. get_or t i (pos 0)) after_is ∙ in_part table start (table_for text) within i h (omega (arith, numbers))

-- two tables of one length: the answer is the same, and an entry in which they agreed they agree in afterwards
module _ (text : List ℕ) (t u : List ℤ) (start : ℕ) (long : length t ≡ length u) where
  pub compile_same : compiled_to text t start ≡ compiled_to text u start
  compile_same = ap (λ size. compiled_in text size start) long

  pub after_same : (i : ℕ) → get_or t i (pos 0) ≡ get_or u i (pos 0) → get_or (after_compile text t start) i (pos 0) ≡ get_or (after_compile text u start) i (pos 0)
  after_same i same = go (compiled_to text t start) refl
    where
      kept : (v : List ℤ) → compiled_to text v start ≡ compiled_to text t start → ((n : ℕ) → compiled_to text t start ≡ states n → ⊥) → after_compile text v start ≡ v
      kept v e none = compile_kept text v start (λ n f. none n (sym e ∙ f))

      refused_same : ((n : ℕ) → compiled_to text t start ≡ states n → ⊥) → get_or (after_compile text t start) i (pos 0) ≡ get_or (after_compile text u start) i (pos 0)
      refused_same none = ap (λ v. get_or v i (pos 0)) (kept t refl none) ∙ same ∙ ap (λ v. get_or v i (pos 0)) (sym (kept u (sym compile_same) none))

      outside : {n : ℕ} → compiled_to text t start ≡ states n → (i < start) ⊎ (start + 41 * n ≤ i) → get_or (after_compile text t start) i (pos 0) ≡ get_or (after_compile text u start) i (pos 0)
      outside e h = compiled_outside text t start e i h ∙ same ∙ sym (compiled_outside text u start (sym compile_same ∙ e) i h)

      go : (c : Compiled) → compiled_to text t start ≡ c → get_or (after_compile text t start) i (pos 0) ≡ get_or (after_compile text u start) i (pos 0)
      go (faulty n line) e = refused_same (λ m f. let z : ◌≡◌ {A = ℕ} 0 1 = cc in omega arith)
      go (Compiler.refused n) e = refused_same (λ m f. let z : ◌≡◌ {A = ℕ} 0 1 = cc in omega arith)
      go (states n) e = elim (dec_lt i start) [
        | yes h ↦ outside e (inl h)
        | no h ↦ elim (dec_lt i (start + 41 * n)) [
          | yes k ↦ (compiled_inside text t start e i (omega arith) k ∙ sym (compiled_inside text u start (sym compile_same ∙ e) i (omega arith) k))
          | no k ↦ outside e (inr (omega arith))
        ]
      ]

-- ---- the descent
pub descent_past : (table : List ℤ) (start count r token s : ℕ) → length table < start + 41 * count → descent_in table start count r token s ≡ refused (number_of Part)
unfolding descent_in
descent_past table start count r token s h = rw (lt-ltb (length table) (start + 41 * count) h) refl

pub descent_within : (table : List ℤ) (start count r token s : ℕ) → start + 41 * count ≤ length table → descent_in table start count r token s ≡ descent_of (part_of table start count) count r token s
unfolding descent_in
descent_within table start count r token s h = rw (le-ltb (length table) (start + 41 * count) h) refl

pub descent_same : (t u : List ℤ) (start count r token s : ℕ) → length t ≡ length u → ((i : ℕ) → start ≤ i → i < start + 41 * count → get_or t i (pos 0) ≡ get_or u i (pos 0))
    → descent_in t start count r token s ≡ descent_in u start count r token s
unfolding descent_in
descent_same t u start count r token s long same = rw (long, part_same t u start count long same) refl
