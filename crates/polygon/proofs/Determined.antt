-- Each contract on polygons allows one result alone: one answer, and for the writer one buffer. What an answer says has a left inverse: so two answers that say the same are the same.
use mathlib.Core.Path.{◌≡◌, sym, ◌∙◌}
use mathlib.Core.List.{List}
use Prim.Native.Nat.{ℕ}
use Rattle.std.specs.Prelude.{Result}
use Rattle.triple.specs.declared.Triple.{Triple}
use Rattle.triple.specs.Lent.{count_of, after_call}
use Rattle.triple.proofs.Determined.{determined, said_one_to_one}
use Rattle.polygon.specs.Polygons.{wkt_of, cell_of_wkt}
use Rattle.triple.specs.Refusals.{said}
use Rattle.triple.specs.declared.refusal.Refusal.{Refusal}

-- ---- the operations
pub wkt_write_determined : (r : ℕ) (t : Triple) (buffer : List ℕ) (a b : Result ℕ Refusal) (x y : List ℕ)
    → (said a ≡ count_of (wkt_of r t) buffer) × (x ≡ after_call (wkt_of r t) buffer) → (said b ≡ count_of (wkt_of r t) buffer) × (y ≡ after_call (wkt_of r t) buffer) → (a ≡ b) × (x ≡ y)
wkt_write_determined r t buffer a b x y p q = (determined said said_one_to_one a b p.0 q.0, p.1 ∙ sym q.1)

pub wkt_read_determined : (r : ℕ) (text : List ℕ) (a b : Result Triple Refusal) → said a ≡ cell_of_wkt r text → said b ≡ cell_of_wkt r text → a ≡ b
wkt_read_determined r text = determined said said_one_to_one
