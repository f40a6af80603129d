-- How the code goes down a lent table, and what it asks so that nothing overflows.
use Rattle.std.specs.Prelude.{ℕ, ◌+◌, ◌*◌, ◌^◌, ◌<◌, ◌≤◌, List, T, ℤ, pos, ◌+ℤ◌, ◌*ℤ◌, nat_abs, length}
use Rattle.turtle.specs.declared.AB.{AB}
use Rattle.turtle.specs.Plane.{ab}
use Rattle.tables.specs.Descent.{child_at, offset_at, all_below, readable_state}
use Rattle.descent.specs.declared.level.LevelState.{LevelState}

abbrev pub level_start : LevelState → AB
level_start p = ab p.a p.b

-- one level down, by a digit
unfoldable pub down_in : List ℤ → LevelState → ℕ → LevelState
down_in t p d = record {
  a = pos 2 *ℤ p.a +ℤ (offset_at t p.state d).a;
  b = pos 2 *ℤ p.b +ℤ (offset_at t p.state d).b;
  state = nat_abs (child_at t p.state d);
}

-- k is one of a table's states, and all of them are readable
pub record Known (t : List ℤ) (k : ℕ) : Type 0 where
  pub states : ℕ
  pub below : k < states
  pub few : states ≤ 32
  pub held : 41 * states ≤ length t
  pub readable : T (all_below (readable_state t states) states)

-- its start does not overflow on the k levels below it
pub record RoomBelow (k : ℕ) (p : LevelState) : Type 0 where
  pub a : (nat_abs p.a + 4096) * 2 ^ k ≤ 2 ^ 42
  pub b : (nat_abs p.b + 4096) * 2 ^ k ≤ 2 ^ 42
