-- WHAT WAS ASKED of checking a partner's treated list, over the public definitions. A code claims the positions of resolution 30 that its cell covers.
use Rattle.std.specs.Prelude.{◌≡◌, ◌↔◌, ◌⊎◌, List, [], ℕ, ◌≤◌}
use Rattle.triple.specs.Refusals.{told, refused}
use Rattle.code.specs.declared.Reading.{Reading}
use Rattle.fold.specs.Cells.{Cell, cell, Covers}
use Rattle.treated.specs.declared.Fault.{Fault}
use Rattle.treated.specs.Treated.{good, faulty, check_of}
use Rattle.treated.specs.Claims.{Claims, GoodFront, GoodList, LongList, FaultAt}

abbrev pub cell_of : Reading → Cell
cell_of x = cell x.resolution x.s

-- the cell of x equals that of y or contains it
abbrev pub Contains : Reading → Reading → Type 0
Contains x y = Covers y.resolution (cell_of x) y.s

pub record TreatedList (list : List ℕ) : Type 0 where
  -- yes, and how many codes, exactly when every code reads without the mark and has the first one's orientation, and no position is claimed twice
  pub yes : (n : ℕ) → (check_of list ≡ told (good n)) ↔ GoodList list n
  -- a fault exactly when the code of that number breaks this so, and none before it: unsound, marked, orientation or overlap, the earliest where several do
  pub named : (f : Fault) (n : ℕ) → (check_of list ≡ told (faulty f n)) ↔ FaultAt list f n
  -- that code is the first: the list's beginnings of up to n codes are good, and no longer one is
  pub first : (f : Fault) (n : ℕ) → check_of list ≡ told (faulty f n) → (m : ℕ) → GoodFront list m ↔ (m ≤ n)
  -- 29 exactly when the first 512 codes are good and bytes remain after them
  pub long : (check_of list ≡ refused 29) ↔ LongList list

pub record TreatedLists : Type 0 where
  -- for every list
  pub each : (list : List ℕ) → TreatedList list
  -- the empty list is good
  pub empty : check_of [] ≡ told (good 0)
  -- what a code claims is what its cell covers
  pub ground : (x : Reading) (p : ℕ) → x.resolution ≤ 30 → Claims x p ↔ Covers 30 (cell_of x) p
  -- two codes claim one position exactly when the cell of one equals or contains the other's
  pub overlap : (x y : Reading) → x.resolution ≤ 30 → y.resolution ≤ 30 → ((p : ℕ) × Claims x p × Claims y p) ↔ (Contains x y ⊎ Contains y x)
