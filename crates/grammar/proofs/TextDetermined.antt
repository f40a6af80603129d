-- Two results that the contract of `scan::scan_text`, of `text::read_text` or of `text::test_text` allows are the same: an answer is known by what it says.
use mathlib.Core.Path.{◌≡◌, refl, sym, ap, ◌∙◌}
use mathlib.Core.List.{List}
use Prim.Native.Nat.{ℕ}
use Rattle.std.specs.Prelude.{Result, Ok, Err}
use Rattle.triple.proofs.Determined.{one_to_one, determined, refusal_of, numbered}
use Rattle.grammar.specs.declared.scan.Scan.{Scan}
use Rattle.grammar.specs.declared.tests.Fault.{Fault}
use Rattle.grammar.specs.declared.tests.Reading.{Reading}
use Rattle.grammar.specs.Scans.{scan_of}
use Rattle.grammar.specs.Tests.{Verdict, fine, fault, text_tests}
use Rattle.grammar.specs.TextAnswers.{said_text}

abbrev answer_by : Verdict → Result (Unit {0}) Fault
answer_by fine = Ok tt
answer_by (fault n line) = Err (record { refusal = refusal_of n; line = line })

text_back : (a : Result (Unit {0}) Fault) → answer_by (said_text a) ≡ a
text_back (Ok tt) = refl
text_back (Err f) = ap (λ e. Err (record { refusal = e; line = f.line })) (numbered f.refusal)

pub said_text_one_to_one : (a b : Result (Unit {0}) Fault) → said_text a ≡ said_text b → a ≡ b
said_text_one_to_one = one_to_one said_text answer_by text_back

pub test_text_determined : (text : List ℕ) (a b : Result (Unit {0}) Fault) → said_text a ≡ text_tests text fine → said_text b ≡ text_tests text fine → a ≡ b
test_text_determined text = determined said_text said_text_one_to_one

pub scan_text_determined : (text : List ℕ) (a b : Scan) → a ≡ scan_of text → b ≡ scan_of text → a ≡ b
scan_text_determined text a b p q = p ∙ sym q

pub read_text_determined : (text : List ℕ) (a b : Reading)
    → (a.lines ≡ (scan_of text).lines) × (said_text a.answer ≡ text_tests text fine) → (b.lines ≡ (scan_of text).lines) × (said_text b.answer ≡ text_tests text fine) → a ≡ b
read_text_determined text a b p q =
    let lines = p.0 ∙ sym q.0 in
    let answer = test_text_determined text a.answer b.answer p.1 q.1 in
    λ i. record { lines = lines i; answer = answer i }
