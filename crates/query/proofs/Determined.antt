-- Each contract of this crate allows one result alone. What an answer says has a left inverse: so two answers that say the same are the same.
use mathlib.Core.Path.{◌≡◌, sym, ◌∙◌}
use mathlib.Core.List.{List}
use Prim.Native.Nat.{ℕ}
use Rattle.std.specs.Prelude.{Result}
use Rattle.triple.proofs.Determined.{determined, answer_of, said_one_to_one}
use Rattle.triple.specs.Refusals.{told, said}
use Rattle.triple.specs.Lent.{count_of, after_call}
use Rattle.query.specs.declared.Query.{Query}
use Rattle.query.specs.Lines.{query_of, answer_line}
use Rattle.query.specs.Queries as Queries
use Rattle.query.specs.Prints.{found_text}
use Rattle.triple.specs.declared.refusal.Refusal.{Refusal}
use Rattle.query.specs.declared.Found.{Found}

-- ---- the operations
pub read_line_determined : (line : List ℕ) (a b : Result Query Refusal) → said a ≡ query_of line → said b ≡ query_of line → a ≡ b
read_line_determined line = determined said said_one_to_one

pub answer_determined : (q : Query) (a b : Result Found Refusal) → said a ≡ Queries.answer_of q → said b ≡ Queries.answer_of q → a ≡ b
answer_determined q = determined said said_one_to_one

-- the answer, and every byte of the buffer
abbrev Prints : List ℕ → List ℕ → Result ℕ Refusal → List ℕ → Type 0
Prints text buffer p after = (said p ≡ count_of (told text) buffer) × (after ≡ after_call (told text) buffer)

prints_once : (text buffer : List ℕ) (p q : Result ℕ Refusal) (x y : List ℕ) → Prints text buffer p x → Prints text buffer q y → (p ≡ q) × (x ≡ y)
prints_once text buffer p q x y a b = (determined said said_one_to_one p q a.0 b.0, a.1 ∙ sym b.1)

pub print_determined : (found : Result Found Refusal) (buffer : List ℕ) (p q : Result ℕ Refusal) (x y : List ℕ)
    → Prints (found_text (said found)) buffer p x → Prints (found_text (said found)) buffer q y → (p ≡ q) × (x ≡ y)
print_determined found = prints_once (found_text (said found))

pub answer_line_determined : (line buffer : List ℕ) (p q : Result ℕ Refusal) (x y : List ℕ) → Prints (answer_line line) buffer p x → Prints (answer_line line) buffer q y → (p ≡ q) × (x ≡ y)
answer_line_determined line = prints_once (answer_line line)
