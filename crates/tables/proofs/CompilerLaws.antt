-- What the compiler answers, in the form of what the code has in hand: by the tests 12 to 19, by 20, by the part; and what an answer says.
use mathlib.Core.Path.{◌≡◌, refl, sym, ap, ◌∙◌, subst}
use mathlib.Core.Bool.{Bool, true, false, cond}
use mathlib.Core.List.{List}
use Prim.Native.Nat.{ℕ, ◌+◌, ◌-◌, ◌*◌, ◌^◌, ◌<◌, ◌≤◌}
use native.Mathlib.Omega.{arith}
use lib.IntN.{ℤ}
use lib.ListN.{length, take, drop, length-drop}
use mir.Syntax.{w64}
use mir.Val.{Fits}
use borrow.Author.Tests.{ltb-false}
use borrow.Rule.Slice.PartMut.{put_mid}
use Rattle.std.specs.Prelude.{Result, Ok, Err}
use Rattle.triple.specs.declared.refusal.Refusal.TheVariants.{Part, Split}
use Rattle.triple.specs.Refusals.{number_of}
use Rattle.grammar.specs.declared.lines.Lines.{Lines}
use Rattle.grammar.specs.declared.tests.Fault.{Fault}
use Rattle.grammar.specs.Texts.{lines_of}
use Rattle.grammar.specs.Curves.{token_bytes}
use Rattle.grammar.specs.Scans.{scan_of}
use Rattle.grammar.specs.Tests.{Verdict, fine, fault, first, fault_at, text_tests}
use Rattle.grammar.specs.TextAnswers.{said_text}
use Rattle.grammar.specs.Inside.Places.{lines_by, Sized}
use Rattle.grammar.proofs.TestOrderLaws.{stopped}
use Rattle.grammar.proofs.DecidedLaws.{fine_passes, fault_stops}
use Rattle.grammar.proofs.PlaceLaws.{Places, places_lines, scan_places}
use Rattle.grammar.proofs.GoodLineLaws.{rows_fine}
use Rattle.whole.proofs.Fill.{fronted}
use Rattle.whole.proofs.Slices.{all_from}
use Rattle.tables.specs.declared.Source.{Source}
use Rattle.tables.specs.declared.compiler.CompileError.{CompileError}
use Rattle.tables.specs.Compiler.{Compiled, states, faulty, refused, said_compiled, compiled_in, compiled_to, after_compile, table_for, state_count, unless, written}
use Rattle.tables.specs.Inside.Sources.{letters_in, Ready}
use Rattle.tables.specs.Parts.{is_past, with_part}
use Rattle.tables.specs.Verdicts.{bad_split, split_tests, verdict}
use Rattle.tables.proofs.Entries.{length_table}
use Rattle.tables.proofs.PartLaws.{part_put}
use Rattle.tables.proofs.RuleChildLaws.{length_letters}
use Rattle.tables.proofs.StateWriteLaws.{table_long}

-- ---- by 12 to 19
module _ (text : List ℕ) {a : Result (Unit {0}) Fault} (says : said_text a ≡ text_tests text fine) where
  module _ {d : Fault} (f : a ≡ Err d) where
    faulty_text : verdict text ≡ fault (number_of d.refusal) d.line
    unfolding verdict
    faulty_text = fault_stops text (sym says ∙ ap said_text f) (split_tests (lines_of text))

    pub text_faulty : (size start : ℕ) → faulty (number_of d.refusal) d.line ≡ compiled_in text size start
    unfolding compiled_in
    text_faulty size start = rw faulty_text refl

    pub text_kept : (table : List ℤ) (start : ℕ) → table ≡ after_compile text table start
    unfolding after_compile
    text_kept table start = ap (λ c. written c (with_part table start (table_for text)) table) (text_faulty (length table) start)

  pub text_ready : a ≡ Ok tt → {ls : Lines} → ls ≡ (scan_of text).lines → {s : Source} → s.lines ≡ ls → ((text : List ℕ) → letters_in s ≡ token_bytes (lines_by text ls)) → Ready text s
  text_ready e {ls} read kept tokens =
      let fair : text_tests text fine ≡ fine = sym says ∙ ap said_text e in
      let places : Places text ls (lines_of text) = rw read (scan_places text (rows_fine text fine fair)) in
      let lines = places_lines places in
      record {
        sized = subst Sized (sym kept) places.sized;
        lines = ap (lines_by text) kept ∙ lines;
        fair = fair;
        tokens = tokens text ∙ ap token_bytes lines;
      }

pub ruleset by_text = (text_faulty, text_kept, text_ready)

-- ---- by 20, and then by the part
module _ {text : List ℕ} {s : Source} (ready : Ready text s) where
  pub source_states : 2 * s.count ≡ state_count text
  source_states = ap (λ n. 2 * n) (length_letters ready)

  module _ {k : ℕ} (k_is : k ≡ first (λ _. bad_split (lines_of text)) (lines_of text)) (size start : ℕ) where
    verdict_is : verdict text ≡ fault_at 20 k fine
    unfolding verdict split_tests
    verdict_is = fine_passes text ready.fair (split_tests (lines_of text)) ∙ (unfold split_tests in rw k_is refl)

    pub split_faulty : (k ≡ 0 → ⊥) → faulty (number_of Split) k ≡ compiled_in text size start
    unfolding compiled_in number_of
    split_faulty some = rw (verdict_is ∙ sym (stopped 20 refl fine some)) refl

    module _ (none : k ≡ 0) {b : Bool} (b_is : b ≡ is_past size start (2 * s.count)) where
      accepted_is : verdict text ≡ fine
      accepted_is = verdict_is ∙ ap (λ k. fault_at 20 k fine) none

      past_is : is_past size start (state_count text) ≡ b
      past_is = ap (is_past size start) (sym source_states) ∙ sym b_is

      pub past_refused : b ≡ true → refused (number_of Part) ≡ compiled_in text size start
      unfolding compiled_in
      past_refused e = rw (accepted_is, past_is ∙ e) refl

      pub within_states : b ≡ false → states (2 * s.count) ≡ compiled_in text size start
      unfolding compiled_in
      within_states e = rw (accepted_is, past_is ∙ e) (ap states source_states)

pub ruleset by_source = (split_faulty, past_refused, within_states)

-- ---- what an answer says of the text and of the part
module _ (text : List ℕ) (size start : ℕ) where
  pub when_states : {k : ℕ} → states k ≡ compiled_in text size start → (verdict text ≡ fine) × ((start + 41 * k ≤ size) × (k ≡ state_count text))
  unfolding compiled_in
  when_states {k} e = go (verdict text) refl (is_past size start (state_count text)) refl e
    where
      go : (v : Verdict) → verdict text ≡ v → (b : Bool) → is_past size start (state_count text) ≡ b → states k ≡ unless v (cond b (refused (number_of Part)) (states (state_count text)))
          → (verdict text ≡ fine) × ((start + 41 * k ≤ size) × (k ≡ state_count text))
      go fine v true b e = absurd (let z : ◌≡◌ {A = ℕ} 0 1 = cc in omega arith)
      go fine v false b e = let same : k ≡ state_count text = cc in (v, (rw same (ltb-false size (start + 41 * state_count text) b), same))
      go (fault n l) v t b e = absurd (let z : ◌≡◌ {A = ℕ} 0 1 = cc in omega arith)

  pub when_faulty : {n line : ℕ} → faulty n line ≡ compiled_in text size start → verdict text ≡ fault n line
  unfolding compiled_in
  when_faulty {n} {line} e = go (verdict text) refl (is_past size start (state_count text)) e
    where
      go : (v : Verdict) → verdict text ≡ v → (b : Bool) → faulty n line ≡ unless v (cond b (refused (number_of Part)) (states (state_count text))) → verdict text ≡ fault n line
      go fine v true e = absurd (let z : ◌≡◌ {A = ℕ} 0 1 = cc in omega arith)
      go fine v false e = absurd (let z : ◌≡◌ {A = ℕ} 0 1 = cc in omega arith)
      go (fault m l) v b e = v ∙ cc

-- ---- what the compiler leaves, by what it answers
leaves : (text : List ℕ) (table : List ℤ) (start : ℕ) {c : Compiled} → c ≡ compiled_to text table start → written c (with_part table start (table_for text)) table ≡ after_compile text table start
unfolding after_compile
leaves text table start says = ap (λ c. written c (with_part table start (table_for text)) table) says

module _ (text : List ℕ) (table : List ℤ) (start : ℕ) {a : Result ℕ CompileError} (says : said_compiled a ≡ compiled_to text table start) where
  pub error_told : {x : CompileError} → a ≡ Err x → said_compiled (Err x) ≡ compiled_to text table start
  error_told f = ap said_compiled (sym f) ∙ says

  pub error_kept : {x : CompileError} → a ≡ Err x → table ≡ after_compile text table start
  error_kept {x} f = go x f
    where
      go : (x : CompileError) → a ≡ Err x → table ≡ after_compile text table start
      go (CompileError.Fault d) f = leaves text table start (error_told f)
      go (CompileError.Refused e) f = leaves text table start (error_told f)

  module _ {k : ℕ} (f : a ≡ Ok k) where
    pub states_told : states k ≡ compiled_to text table start
    states_told = ap said_compiled (sym f) ∙ says

    part_within : start + length (table_for text) ≤ length table
    part_within = let w = when_states text (length table) start states_told in omega (arith, w.1.0, w.1.1, length_table (lines_of text))

    pub start_within : start ≤ length table
    start_within = omega (arith, part_within)

    pub start_scaled : length table * 4 < 2 ^ 63 → Fits w64 (start * 4)
    start_scaled h = record { fits = omega (arith, start_within) }

    pub states_room : {s : Source} → Ready text s → 82 * s.count ≤ length (take (length table - start) (drop start table))
    states_room r = rw (all_from table start, length-drop) (omega (arith, part_within, table_long r))

    pub states_put : {last : List ℤ} → last ≡ fronted (table_for text) (take (length table - start) (drop start table)) → put_mid start (length table - start) table last ≡ after_compile text table start
    states_put e = part_put table start (table_for text) part_within e ∙ leaves text table start states_told

pub ruleset by_answer = (error_told, error_kept, states_told, start_within, start_scaled, states_room, states_put)
