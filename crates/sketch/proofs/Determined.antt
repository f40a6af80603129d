-- The contract of `draw` allows one result alone: one answer and one buffer. What an answer says has a left inverse: so two answers that say the same are the same.
use mathlib.Core.Path.{◌≡◌, sym, ◌∙◌}
use mathlib.Core.List.{List}
use Prim.Native.Nat.{ℕ}
use lib.IntN.{ℤ}
use Rattle.std.specs.Prelude.{Result}
use Rattle.triple.specs.Lent.{Counted}
use Rattle.triple.proofs.Determined.{determined, said_one_to_one}
use Rattle.sketch.specs.Drawings.{draw_call}
use Rattle.triple.specs.Refusals.{said}
use Rattle.triple.specs.declared.refusal.Refusal.{Refusal}

pub draw_determined : (o r : ℕ) (out x y : List ℤ) (a b : Result ℕ Refusal) → Counted (draw_call o r) out (said a) x → Counted (draw_call o r) out (said b) y → (a ≡ b) × (x ≡ y)
draw_determined o r out x y a b p q = (determined said said_one_to_one a b p.0 q.0, p.1 ∙ sym q.1)
