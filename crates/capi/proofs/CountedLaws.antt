-- A call's status, by the count that its operation answers.
use mathlib.Core.Path.{◌≡◌, sym, ◌∙◌}
use mathlib.Core.List.{List}
use Prim.Native.Nat.{ℕ}
use lib.ListN.{length}
use borrow.Author.Tests.{le-ltb, lt-ltb}
use Rattle.triple.specs.Refusals.{Told, told, refused}
use Rattle.triple.specs.Lent.{count_of, status_of}
use Rattle.triple.proofs.LentLaws.{counted_told, counted_refused}
use Rattle.triple.proofs.RefusalLaws.{never}

module _ {A : Type 0} (call : Told (List A)) (slice : List A) {given : Told ℕ} (answers : given ≡ count_of call slice) where
  pub told_status : {k : ℕ} → given ≡ told k → 0 ≡ status_of call slice
  unfolding count_of status_of
  told_status {k} e = go call (sym e ∙ answers)
    where
      go : (call : Told (List A)) → told k ≡ count_of call slice → 0 ≡ status_of call slice
      go (told values) e = rw (le-ltb (length slice) (length values) (counted_told values slice e).0)
      go (refused n) e = never (sym e)

  pub refused_status : {e : ℕ} → given ≡ refused e → {n : ℕ} → n ≡ e → n ≡ status_of call slice
  unfolding count_of status_of
  refused_status {e} f {n} g = g ∙ go call (sym f ∙ answers)
    where
      go : (call : Told (List A)) → refused e ≡ count_of call slice → e ≡ status_of call slice
      go (told values) f = let short = counted_refused values slice f in rw (lt-ltb (length slice) (length values) short.0) short.1
      go (refused m) f = cc

pub ruleset counted = (told_status, refused_status)
