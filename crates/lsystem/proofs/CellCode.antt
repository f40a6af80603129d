-- An orientation's axiom as the code has it: the state that its walk starts in is twice its motif.
use mathlib.Core.Path.{◌≡◌, refl}
use Prim.Native.Nat.{ℕ, ◌*◌, ◌<◌, ◌≤◌}
use native.Mathlib.Omega.{arith}
use Rattle.triple.specs.Orientations.{axiom_motif}
use Rattle.triple.proofs.OrientationLaws.{six, motif_small}
use Rattle.a5.proofs.Axioms.{first}
use Rattle.lsystem.proofs.CellLaws.{axiom_in}

pub axiom_state : (o : ℕ) → o ≤ 5 → first (axiom_in o) ≡ 2 * axiom_motif o
unfolding axiom_in axiom_motif
axiom_state = six (λ o. first (axiom_in o) ≡ 2 * axiom_motif o) refl refl refl refl refl refl

pub axiom_state_small : (o : ℕ) → 2 * axiom_motif o < 28
axiom_state_small o = omega (arith, motif_small o)
