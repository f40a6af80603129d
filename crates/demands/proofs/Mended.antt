-- A LIST IS MENDED: `mend`'s laws, and what its call leaves in the output.
use mathlib.Core.Path.{◌≡◌, refl, sym}
use mathlib.Core.List.{List, ◌++◌}
use Prim.Native.Nat.{ℕ, ◌<◌, ◌≤◌}
use native.Mathlib.Omega.{arith}
use lib.ListN.{length, drop}
use borrow.Author.Tests.{le-ltb}
use Rattle.triple.specs.Refusals.{refused, number_of}
use Rattle.triple.specs.Lent.{after_call}
use Rattle.triple.proofs.LentLaws.{whole_stored}
use Rattle.code.specs.Codes.{Bytes}
use Rattle.mend.specs.Mends.{longest_code, piece_of, mend_of, mend_call, mended_to}
use Rattle.mend.proofs.WalkLaws.{mend_short, mend_kept}
use Rattle.mend.proofs.Mended.{mended_sound, mended_again, mended_short, sound_unchanged, unchanged_sound}
use Rattle.mend.proofs.Offsets.{changes_reported}
use Rattle.mend.proofs.Fronts.{piece_front, mend_goes_on}
use Rattle.demands.specs.Demands.{Mending}

past : (list out : List ℕ) → length list ≤ length out → after_call (mend_call list out) out ≡ mend_of list ++ drop (length (mend_of list)) out
unfolding mend_call
past list out h =
    rw (le-ltb (length out) (length list) h) (sym (whole_stored out {values = mend_of list} refl refl (omega (arith, h, mended_short list)) refl))

refused_short : (list out : List ℕ) → length out < length list → (mended_to list out ≡ refused 10) × (after_call (mend_call list out) out ≡ out)
unfolding number_of
refused_short list out h = (sym (mend_short list out h), sym (mend_kept list out h))

in_parts : (list front more : List ℕ) → list ≡ front ++ more → longest_code ≤ length front
    → (piece_of list ≡ piece_of front) × (mend_of list ≡ (piece_of front).bytes ++ mend_of (drop (piece_of front).taken front ++ more))
in_parts list front more e h =
    let same = piece_front front more h in rw e (same, mend_goes_on front more (omega (arith, h)) same)

pub mending : (list : List ℕ) → Bytes list → Mending list
mending list small = record {
  sound = mended_sound list small;
  again = mended_again list small;
  short = mended_short list;
  past = past list;
  refused_short = refused_short list;
  offsets = changes_reported list;
  kept = λ s. (sound_unchanged list s).0;
  unchanged = unchanged_sound list;
  in_parts = in_parts list;
}
