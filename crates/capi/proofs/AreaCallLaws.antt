-- A flag is written as its number.
use mathlib.Core.Bool.{Bool, true, false}
use mathlib.Core.Path.{◌≡◌}
use mathlib.Core.List.{List}
use Prim.Native.Nat.{ℕ}
use Rattle.triple.specs.Refusals.{told}
use Rattle.triple.specs.Lent.{status_of, after_call}
use Rattle.capi.specs.Calls.{count_values}
use Rattle.capi.specs.AreaCalls.{flag_values}

module _ (slice : List ℕ) {b : Bool} where
  module _ (set : b ≡ true) where
    pub set_status : {n : ℕ} → n ≡ status_of (told (count_values 1)) slice → n ≡ status_of (told (flag_values b)) slice
    set_status e = rw set e

    pub set_left : {after : List ℕ} → after ≡ after_call (told (count_values 1)) slice → after ≡ after_call (told (flag_values b)) slice
    set_left e = rw set e

  module _ (clear : b ≡ false) where
    pub clear_status : {n : ℕ} → n ≡ status_of (told (count_values 0)) slice → n ≡ status_of (told (flag_values b)) slice
    clear_status e = rw clear e

    pub clear_left : {after : List ℕ} → after ≡ after_call (told (count_values 0)) slice → after ≡ after_call (told (flag_values b)) slice
    clear_left e = rw clear e

pub ruleset flags = (set_status, set_left, clear_status, clear_left)
