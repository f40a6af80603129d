-- What a walk and a search keep on the way.
use Rattle.std.specs.Prelude.{◌≡◌, ℕ, ◌+◌, ◌*◌, ◌^◌, ◌≤◌}
use Rattle.a5.specs.Inside.Spots.{Spot}
use Rattle.strides.specs.declared.Walk.{Walk}
use Rattle.strides.specs.declared.End.{End}
use Rattle.strides.specs.declared.Search.{Search}
use Rattle.strides.specs.Inside.Sizes.{OnRow, OnTile}
use Rattle.strides.specs.Walks.{end_after}
use Rattle.strides.specs.Searches.{digits_after}

-- ---- room, so that nothing overflows, with n digits or bits after the next three
pub record WalkRoom (n : ℕ) (w : Walk) : Type 0 where
  pub on : OnRow w.row
  pub x : (w.x + 3) * 2 ^ n ≤ 2 ^ 30
  pub y : (w.y + 5) * 2 ^ n ≤ 2 ^ 30

pub record SearchRoom (n : ℕ) (q : Search) : Type 0 where
  pub on : OnTile q.row
  pub s : (q.s + 1) * 4 ^ n ≤ 4 ^ 27

-- ---- the loops: what is left to do from here is what was to do from the first
-- a walk by the digits of s, with k steps of three before the last
pub record Walking (end : End) (s k : ℕ) (w : Walk) : Type 0 where
  pub most : k ≤ 9
  pub room : WalkRoom (3 * k) w
  pub rest : end_after (3 * k + 2) s w ≡ end

-- a search by the bits of p, with k steps of three before the last
pub record Searching (digits : ℕ) (p : Spot) (k : ℕ) (q : Search) : Type 0 where
  pub most : k ≤ 9
  pub room : SearchRoom (3 * k) q
  pub rest : digits_after (3 * k + 3) p q ≡ digits
