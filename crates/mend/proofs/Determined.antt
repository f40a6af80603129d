-- Each contract on mending allows one result alone: one answer and one slice. What an answer says has a left inverse: so two answers that say the same are the same.
use mathlib.Core.Path.{◌≡◌, sym, ◌∙◌}
use mathlib.Core.List.{List}
use Prim.Native.Nat.{ℕ}
use lib.ListN.{length, get_or}
use Rattle.std.specs.Prelude.{Result}
use Rattle.triple.specs.Refusals.{told, said}
use Rattle.triple.specs.Lent.{after_call}
use Rattle.triple.proofs.Determined.{determined, said_one_to_one}
use Rattle.mend.specs.declared.Change.{Change}
use Rattle.mend.specs.declared.Change.TheVariants.{Kept}
use Rattle.mend.specs.Mends.{piece_of, tellings, step_of, mend_call, mended_to}
use Rattle.triple.specs.declared.refusal.Refusal.{Refusal}
use Rattle.mend.specs.declared.Tally.{Tally}
use Rattle.mend.specs.declared.Stepped.{Stepped}

-- ---- the operations
pub step_determined : (rest out : List ℕ) (a b : Result Stepped Refusal) (x y : List ℕ)
    → (said a ≡ step_of rest out) × (x ≡ after_call (told (piece_of rest).bytes) out) → (said b ≡ step_of rest out) × (y ≡ after_call (told (piece_of rest).bytes) out) → (a ≡ b) × (x ≡ y)
step_determined rest out a b x y p q = (determined said said_one_to_one a b p.0 q.0, p.1 ∙ sym q.1)

pub mend_determined : (list out : List ℕ) (a b : Result Tally Refusal) (x y : List ℕ)
    → (said a ≡ mended_to list out) × (x ≡ after_call (mend_call list out) out) → (said b ≡ mended_to list out) × (y ≡ after_call (mend_call list out) out) → (a ≡ b) × (x ≡ y)
mend_determined list out a b x y p q = (determined said said_one_to_one a b p.0 q.0, p.1 ∙ sym q.1)

pub count_of_determined : (c : Change) (m n : ℕ) → m ≡ length (tellings c) → n ≡ length (tellings c) → m ≡ n
count_of_determined c m n p q = p ∙ sym q

pub telling_determined : (c : Change) (k : ℕ) (x y : Change) → x ≡ get_or (tellings c) k Kept → y ≡ get_or (tellings c) k Kept → x ≡ y
telling_determined c k x y p q = p ∙ sym q
