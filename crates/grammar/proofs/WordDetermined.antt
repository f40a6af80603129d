-- Two results and two buffers that a contract of `word` allows are the same: an answer is known by what it says.
use mathlib.Core.Path.{◌≡◌, sym, ◌∙◌}
use mathlib.Core.List.{List}
use Prim.Native.Nat.{ℕ}
use Rattle.std.specs.Prelude.{Result}
use Rattle.triple.proofs.Determined.{said_one_to_one}
use Rattle.triple.specs.Refusals.{told, said}
use Rattle.triple.specs.Lent.{count_of, after_call}
use Rattle.grammar.specs.declared.word.Book.{Book}
use Rattle.grammar.specs.Words.{mirrored, reversed, expand_once}
use Rattle.grammar.specs.Books.{book_of}
use Rattle.triple.specs.declared.refusal.Refusal.{Refusal}

-- what is allowed of an answer and a buffer by the word that is to be written
abbrev Allowed : List ℕ → List ℕ → Result ℕ Refusal → List ℕ → Type 0
Allowed word buffer a x = (said a ≡ count_of (told word) buffer) × (x ≡ after_call (told word) buffer)

allowed_once : (word buffer : List ℕ) (a b : Result ℕ Refusal) (x y : List ℕ) → Allowed word buffer a x → Allowed word buffer b y → (a ≡ b) × (x ≡ y)
allowed_once word buffer a b x y p q = (said_one_to_one a b (p.0 ∙ sym q.0), p.1 ∙ sym q.1)

pub mirrored_determined : (b r t : ℕ) → r ≡ mirrored b → t ≡ mirrored b → r ≡ t
mirrored_determined b r t p q = p ∙ sym q

pub reverse_motif_determined : (s out : List ℕ) (a b : Result ℕ Refusal) (x y : List ℕ)
    → (said a ≡ count_of (told (reversed s)) out) × (x ≡ after_call (told (reversed s)) out)
    → (said b ≡ count_of (told (reversed s)) out) × (y ≡ after_call (told (reversed s)) out)
    → (a ≡ b) × (x ≡ y)
reverse_motif_determined s out = allowed_once (reversed s) out

pub expand_once_determined : (words : List ℕ) (book : Book) (s out : List ℕ) (a b : Result ℕ Refusal) (x y : List ℕ)
    → (said a ≡ count_of (told (expand_once (book_of words book) s)) out) × (x ≡ after_call (told (expand_once (book_of words book) s)) out)
    → (said b ≡ count_of (told (expand_once (book_of words book) s)) out) × (y ≡ after_call (told (expand_once (book_of words book) s)) out)
    → (a ≡ b) × (x ≡ y)
expand_once_determined words book s out = allowed_once (expand_once (book_of words book) s) out
