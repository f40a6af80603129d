-- A good list in the words of the request: said of its codes all at once, over the positions of resolution 30 that their cells claim.
use Rattle.std.specs.Prelude.{◌≡◌, true, false, List, [], ◌∷◌, ℕ, ◌-◌, ◌/◌, ◌^◌, ◌<◌, ◌≤◌, length, get_or, drop}
use Rattle.triple.specs.Refusals.{told}
use Rattle.triple.specs.Domain.{greatest_resolution}
use Rattle.code.specs.declared.Reading.{Reading}
use Rattle.code.specs.Codes.{read_of}
use Rattle.treated.specs.declared.Fault.{Fault}
use Rattle.treated.specs.declared.Fault.TheVariants.{Unsound, Marked, Orientation, Overlap}
use Rattle.treated.specs.Treated.{most_codes}

-- ---- the codes of a list
-- it begins with codes that read so, one after another, and this is left behind them
pub data Reads : List ℕ → List Reading → List ℕ → Type 0 where
  none : {list rest : List ℕ} → list ≡ rest → Reads list [] rest
  more : {list rest : List ℕ} {codes : List Reading} (x : Reading) → read_of list ≡ told x → Reads (drop x.used list) codes rest → Reads list (x ∷ codes) rest

-- the code by its number from 0
abbrev pub code : List Reading → ℕ → Reading
code codes i = get_or codes i (record { orientation = 0; resolution = 0; s = 0; used = 0; old = false })

-- its cell claims p, a position of resolution 30: p begins with the digits of the cell's own position
abbrev pub Claims : Reading → ℕ → Type 0
Claims x p = p / 4 ^ (greatest_resolution - x.resolution) ≡ x.s

-- it is of the orientation of the first of some codes, where there is one
abbrev pub Follows : List Reading → Reading → Type 0
Follows codes x = 0 < length codes → x.orientation ≡ (code codes 0).orientation

-- it claims a position that one of some codes claims
abbrev pub Twice : List Reading → Reading → Type 0
Twice codes x = (i : ℕ) × (i < length codes) × (p : ℕ) × Claims (code codes i) p × Claims x p

-- ---- GOOD CODES, which read: unmarked, of the first one's orientation, and no position claimed twice
pub record Good (codes : List Reading) : Type 0 where
  pub unmarked : (i : ℕ) → i < length codes → (code codes i).old ≡ false
  pub oriented : (i : ℕ) → i < length codes → (code codes i).orientation ≡ (code codes 0).orientation
  pub once : (i j p : ℕ) → i < j → j < length codes → Claims (code codes i) p → Claims (code codes j) p → ⊥

-- the first n codes of a list are good
pub record GoodFront (list : List ℕ) (n : ℕ) : Type 0 where
  pub codes : List Reading
  pub rest : List ℕ
  pub reads : Reads list codes rest
  pub count : length codes ≡ n
  pub good : Good codes

-- ---- the three ends
-- it has n codes, at most 512, and they are good
pub record GoodList (list : List ℕ) (n : ℕ) : Type 0 where
  pub front : GoodFront list n
  pub few : n ≤ most_codes
  pub ended : front.rest ≡ []

-- its first 512 codes are good, and bytes remain after them
pub record LongList (list : List ℕ) : Type 0 where
  pub front : GoodFront list most_codes
  pub remain : 0 < length front.rest

-- how the code at the front of a rest breaks the rule, taken together with those before it
abbrev pub Breaks : Fault → List Reading → List ℕ → Type 0
Breaks Unsound codes rest = (x : Reading) → read_of rest ≡ told x → ⊥
Breaks Marked codes rest = (x : Reading) × (read_of rest ≡ told x) × (x.old ≡ true)
Breaks Orientation codes rest = (x : Reading) × (read_of rest ≡ told x) × (x.old ≡ false) × (Follows codes x → ⊥)
Breaks Overlap codes rest = (x : Reading) × (read_of rest ≡ told x) × (x.old ≡ false) × Follows codes x × Twice codes x

-- its first n codes are good, n is below 512, and the next breaks the rule so
pub record FaultAt (list : List ℕ) (f : Fault) (n : ℕ) : Type 0 where
  pub front : GoodFront list n
  pub few : n < most_codes
  pub remain : 0 < length front.rest
  pub breaks : Breaks f front.codes front.rest
