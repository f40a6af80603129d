-- Each contract on codes allows one result alone: one answer, and for the writer one buffer. What an answer says has a left inverse: so two answers that say the same are the same.
use mathlib.Core.Path.{◌≡◌, sym, ◌∙◌}
use mathlib.Core.List.{List}
use Prim.Native.Nat.{ℕ}
use Rattle.std.specs.Prelude.{Result}
use Rattle.triple.specs.Lent.{count_of, after_call}
use Rattle.triple.proofs.Determined.{determined, said_one_to_one}
use Rattle.code.specs.Codes.{code_of, loose_of, read_of}
use Rattle.triple.specs.Refusals.{said}
use Rattle.triple.specs.declared.refusal.Refusal.{Refusal}
use Rattle.code.specs.declared.Reading.{Reading}

-- ---- the operations
pub write_determined : (o r s : ℕ) (buffer : List ℕ) (a b : Result ℕ Refusal) (x y : List ℕ)
    → (said a ≡ count_of (code_of o r s) buffer) × (x ≡ after_call (code_of o r s) buffer) → (said b ≡ count_of (code_of o r s) buffer) × (y ≡ after_call (code_of o r s) buffer) → (a ≡ b) × (x ≡ y)
write_determined o r s buffer a b x y p q = (determined said said_one_to_one a b p.0 q.0, p.1 ∙ sym q.1)

pub read_determined : (bytes : List ℕ) (a b : Result Reading Refusal) → said a ≡ read_of bytes → said b ≡ read_of bytes → a ≡ b
read_determined bytes = determined said said_one_to_one

pub read_loose_determined : (bytes : List ℕ) (a b : Result Reading Refusal) → said a ≡ loose_of bytes → said b ≡ loose_of bytes → a ≡ b
read_loose_determined bytes = determined said said_one_to_one
