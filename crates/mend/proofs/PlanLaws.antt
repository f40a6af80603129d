-- The plan for the piece at the front, in the form of what the code has in hand: what the reader answered. What it stands for, and that it can be followed.
use mathlib.Core.Bool.{true, false}
use mathlib.Core.Path.{◌≡◌, refl, sym, ap, ◌∙◌}
use mathlib.Core.List.{List, ◌++◌}
use Prim.Native.Nat.{ℕ, ◌<◌, ◌≤◌}
use native.Mathlib.Omega.{arith}
use lib.ListN.{length, take, drop, get_or}
use lib.Seq.{length-take-le}
use mir.Syntax.{w8}
use mir.Val.{Fits}
use Rattle.std.specs.Prelude.{Ok, Err, Result}
use Rattle.triple.specs.Refusals.{Told, told, said}
use Rattle.triple.specs.declared.refusal.Refusal.{Refusal}
use Rattle.triple.specs.Lent.{after_call}
use Rattle.triple.proofs.LentLaws.{whole_stored}
use Rattle.code.specs.declared.Reading.{Reading}
use Rattle.code.specs.Codes.{code_length, code_bytes, code_of, loose_of, read_of}
use Rattle.code.proofs.CodeLaws.{length_code}
use Rattle.code.proofs.SpareLaws.{loose_sized}
use Rattle.code.proofs.Canonical.{read_loosely, loose_writes}
use Rattle.mend.specs.declared.Change.{Change}
use Rattle.mend.specs.declared.Change.TheVariants.{Kept, Spare, Turned, Both, Dropped}
use Rattle.mend.specs.declared.Plan.{Plan}
use Rattle.mend.specs.Mends.{Piece, copied, anew, lost, unread_of, piece_of}
use Rattle.mend.specs.Inside.Plans.{piece_for, plan_step, Sure}
use Rattle.mend.proofs.PieceLaws.{unread_lost, unread_both, unread_spare, piece_unread, piece_turned, piece_copied}

-- ---- of a code that is read loosely
module _ (rest : List ℕ) (small : (i : ℕ) → Fits w8 (get_or rest i 0)) {a : Result Reading Refusal} (ea : said a ≡ loose_of rest) where
  pub unread_dropped : {e : Refusal} → a ≡ Err e → lost ≡ unread_of rest
  unread_dropped m = unread_lost rest (sym (ap said m) ∙ ea)

  module _ (x : Reading) (m : a ≡ Ok x) where
    loose : loose_of rest ≡ told x
    loose = sym ea ∙ ap said m

    pub unread_turned : x.old ≡ true → anew Both x ≡ unread_of rest
    unread_turned old = unread_both rest x (sym loose) old

    pub unread_cleared : x.old ≡ false → anew Spare x ≡ unread_of rest
    unread_cleared new = unread_spare rest x (sym loose) new

    pub unread_writes : code_of x.orientation x.resolution x.s ≡ told (code_bytes x.orientation x.resolution x.s)
    unread_writes = loose_writes rest (λ i. (small i).fits) loose

    pub unread_sized : x.used ≡ code_length x.resolution
    unread_sized = (loose_sized rest loose).count

pub ruleset unreading = (unread_dropped, unread_turned, unread_cleared, unread_writes, unread_sized)

-- ---- of one that the reader answers
module _ (rest : List ℕ) {a : Result Reading Refusal} (ea : said a ≡ read_of rest) where
  pub plan_unread : 0 < length rest → {e : Refusal} → a ≡ Err e → {p : Piece} → p ≡ unread_of rest → p ≡ piece_of rest
  plan_unread some m e = e ∙ piece_unread rest some (sym (ap said m) ∙ ea)

  module _ (x : Reading) (m : a ≡ Ok x) where
    reads : read_of rest ≡ told x
    reads = sym ea ∙ ap said m

    pub plan_turned : 0 < length rest → x.old ≡ true → anew Turned x ≡ piece_of rest
    plan_turned some old = piece_turned rest some x (sym reads) old

    pub plan_copied : 0 < length rest → x.old ≡ false → copied rest x.used ≡ piece_of rest
    plan_copied some new = piece_copied rest some x (sym reads) new

    pub plan_there : x.used ≤ length rest
    plan_there = let l = loose_sized rest (read_loosely rest reads).0 in omega (arith, l.count, l.whole)

    pub plan_writes : ((i : ℕ) → Fits w8 (get_or rest i 0)) → code_of x.orientation x.resolution x.s ≡ told (code_bytes x.orientation x.resolution x.s)
    plan_writes small = loose_writes rest (λ i. (small i).fits) (read_loosely rest reads).0

    pub plan_sized : x.used ≡ code_length x.resolution
    plan_sized = (loose_sized rest (read_loosely rest reads).0).count

pub ruleset planning = (plan_unread, plan_turned, plan_copied, plan_there, plan_writes, plan_sized)

-- ---- what a plan is carried out as
pub plan_long : (rest : List ℕ) (p : Plan) → Sure rest p → length (piece_for rest p).bytes ≡ (plan_step p).written
unfolding plan_step
plan_long rest (Plan.Copy n) sure = length-take-le n rest sure
plan_long rest (Plan.Anew x c) sure = length_code x.orientation x.resolution x.s ∙ sym sure.1
plan_long rest Plan.Drop sure = refl

pub plan_taken : (rest : List ℕ) (p : Plan) → (piece_for rest p).taken ≡ (plan_step p).taken
unfolding plan_step
plan_taken rest (Plan.Copy n) = refl
plan_taken rest (Plan.Anew x c) = refl
plan_taken rest Plan.Drop = refl

pub plan_change : (rest : List ℕ) (p : Plan) → (piece_for rest p).change ≡ (plan_step p).change
unfolding plan_step
plan_change rest (Plan.Copy n) = refl
plan_change rest (Plan.Anew x c) = refl
plan_change rest Plan.Drop = refl

module _ {p : Plan} where
  pub copy_step : {n : ℕ} → p ≡ Plan.Copy n → record { taken = n; written = n; change = Kept } ≡ plan_step p
  unfolding plan_step
  copy_step m = rw m

  pub anew_step : {x : Reading} {c : Change} → p ≡ Plan.Anew x c → record { taken = x.used; written = x.used; change = c } ≡ plan_step p
  unfolding plan_step
  anew_step m = rw m

  pub drop_step : p ≡ Plan.Drop → record { taken = 1; written = 0; change = Dropped } ≡ plan_step p
  unfolding plan_step
  drop_step m = rw m

pub ruleset plan_steps = (copy_step, anew_step, drop_step)

-- what is copied is there, and there is room for it
module _ {p : Plan} {n : ℕ} (m : p ≡ Plan.Copy n) where
  pub copy_there : (rest : List ℕ) → Sure rest p → n ≤ length rest
  copy_there rest sure = rw m at sure

  pub copy_room : {k : ℕ} → (plan_step p).written ≤ k → n ≤ k
  unfolding plan_step
  copy_room h = rw m at h

-- the slice that each leaves
module _ (rest entry : List ℕ) {p : Plan} where
  pub laid_copied : {n : ℕ} → p ≡ Plan.Copy n → n ≤ length rest → n ≤ length entry → {out : List ℕ} → out ≡ take n rest ++ drop n entry → out ≡ after_call (told (piece_for rest p).bytes) entry
  laid_copied m h room e = rw m (whole_stored entry refl (length-take-le _ rest h) room e)

  pub laid_anew : {x : Reading} {c : Change} → p ≡ Plan.Anew x c → Sure rest p → {out : List ℕ} → out ≡ after_call (code_of x.orientation x.resolution x.s) entry → out ≡ after_call (told (piece_for rest p).bytes) entry
  laid_anew m sure e = e ∙ (rw m (ap (λ (t : Told (List ℕ)). after_call t entry) (rw m at sure).0))

  pub laid_none : p ≡ Plan.Drop → entry ≡ after_call (told (piece_for rest p).bytes) entry
  laid_none m = rw m (whole_stored entry refl refl (omega arith) refl)

pub ruleset laying = (copy_there, copy_room, laid_copied, laid_anew, laid_none)
