-- The room for what an operation makes of two areas, and what the walk along them stores.
use Rattle.std.specs.Prelude.{Bool, false, cond, ◌≡◌, List, ℕ, ◌+◌, ◌-◌, ◌*◌, ◌/◌, ◌^◌, leb, set}
use Rattle.area.specs.declared.operation.Operation.{Operation}
use Rattle.area.specs.Inside.Cursors.{Fits}

-- the room that needs no count: the cells of both areas have room together, and so has what an operation makes of them
unfoldable pub ample : Operation → ℕ → ℕ → ℕ → Bool
ample Operation.Union a b room = leb (a + b) room
ample Operation.Intersection a b room = leb (a + b) room
ample Operation.Difference a b room = false

-- the first cell of the run from lo to hi is cut off it: as large as the run lets it be, and stored as the pair n where there is writing
pub record Cut (writing : Bool) (n lo hi : ℕ) (slice : List ℕ) (size : ℕ) (out : List ℕ) : Type 0 where
  pub level : ℕ
  pub fits : Fits lo hi level
  pub size_is : size ≡ 4 ^ level
  pub stored : out ≡ cond writing (set (set slice (2 * n) (30 - level)) (2 * n + 1) (lo / 4 ^ level)) slice
