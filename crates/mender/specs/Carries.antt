-- A list that comes piece by piece: what is written for a piece is what the whole list has there.
use Rattle.std.specs.Prelude.{◌≡◌, ℕ, ◌-◌, ◌<◌, ◌≤◌, Bool, true, List, [], ◌++◌, length, take, drop}
use Rattle.mend.specs.Mends.{longest_code, mend_of}
use Rattle.mender.specs.declared.walk.Walk.{Walk}

-- A WALK along a piece, whatever comes after it, and nothing after the last: what stands at the front of the buffer is followed by what the bytes that are
-- left give with what comes
pub record Carried (piece out : List ℕ) (last : Bool) (w : Walk) : Type 0 where
  pub inside : w.taken ≤ length piece
  pub room : w.written ≤ length out
  pub mends : (more : List ℕ) → (last ≡ true → more ≡ []) → mend_of (piece ++ more) ≡ take w.written out ++ mend_of (drop w.taken piece ++ more)
  pub all : last ≡ true → w.taken ≡ length piece
  pub few : length piece - w.taken < longest_code
