-- Mending a list of codes that stand one after another: what is written for the code or byte at the front, and which change that is; piece by piece the
-- mended list and the lines that tell the changes; and what the calls answer.
use Rattle.std.specs.Prelude.{false, cond, ◌≡◌, List, [], ◌∷◌, ◌++◌, ℕ, zero, suc, ◌+◌, ◌<◌, ltb, length, take, drop}
use Rattle.triple.specs.declared.refusal.Refusal.TheVariants as Is
use Rattle.triple.specs.Refusals.{Told, told, refused, refuse, ◌>>=◌}
use Rattle.triple.specs.Lent.{count_of}
use Rattle.code.specs.declared.Reading.{Reading}
use Rattle.code.specs.Codes.{code_bytes, loose_of, read_of}
use Rattle.mend.specs.declared.Change.{Change}
use Rattle.mend.specs.declared.Change.TheVariants.{Kept, Spare, Turned, Both, Dropped}
use Rattle.mend.specs.declared.Stepped.{Stepped}
use Rattle.mend.specs.declared.Tally.{Tally}

-- ---- one piece: how many bytes are taken at the front, what is written for them, and the change
pub record Piece : Type 0 where
  pub taken : ℕ
  pub bytes : List ℕ
  pub change : Change

-- a code that is copied, one that is written anew as it reads, and a byte that is dropped
abbrev pub copied : List ℕ → ℕ → Piece
copied rest n = record { taken = n; bytes = take n rest; change = Kept }

abbrev pub anew : Change → Reading → Piece
anew c x = record { taken = x.used; bytes = code_bytes x.orientation x.resolution x.s; change = c }

abbrev pub lost : Piece
lost = record { taken = 1; bytes = []; change = Dropped }

-- where the reader refuses: a code that reads but for its spare bits has them cleared, and is turned if it is marked; else a byte is dropped
abbrev pub unread_by : Told Reading → Piece
unread_by (told x) = cond x.old (anew Both x) (anew Spare x)
unread_by (refused n) = lost

unfoldable pub unread_of : List ℕ → Piece
unread_of rest = unread_by (loose_of rest)

-- where it reads: a code without the mark is copied, one with the mark is turned
abbrev pub piece_by : List ℕ → Told Reading → Piece
piece_by rest (told x) = cond x.old (anew Turned x) (copied rest x.used)
piece_by rest (refused n) = unread_of rest

-- THE PIECE at the front: of nothing, nothing is taken
unfoldable pub piece_of : List ℕ → Piece
piece_of [] = record { taken = 0; bytes = []; change = Kept }
piece_of (b ∷ rest) = piece_by (b ∷ rest) (read_of (b ∷ rest))

-- ---- piece after piece to the end of the list; a piece takes a byte at least, so a list has no more of them than bytes
unfoldable pub pieces_in : ℕ → List ℕ → List Piece
pieces_in zero list = []
pieces_in (suc n) [] = []
pieces_in (suc n) (b ∷ list) = piece_of (b ∷ list) ∷ pieces_in n (drop (piece_of (b ∷ list)).taken (b ∷ list))

unfoldable pub pieces_of : List ℕ → List Piece
pieces_of list = pieces_in (length list) list

-- THE MENDED LIST
abbrev pub bytes_in : List Piece → List ℕ
bytes_in [] = []
bytes_in (p ∷ pieces) = p.bytes ++ bytes_in pieces

unfoldable pub mend_of : List ℕ → List ℕ
mend_of list = bytes_in (pieces_of list)

-- ---- the changes: how each is told, by spare, turned or dropped; of both, spare comes first
unfoldable pub tellings : Change → List Change
tellings Kept = []
tellings Spare = Spare ∷ []
tellings Turned = Turned ∷ []
tellings Both = Spare ∷ Turned ∷ []
tellings Dropped = Dropped ∷ []

-- a line: the offset in the old list where that code or byte begins, and the change
pub record Line : Type 0 where
  pub offset : ℕ
  pub change : Change

abbrev pub lines_at : ℕ → List Change → List Line
lines_at at [] = []
lines_at at (c ∷ changes) = record { offset = at; change = c } ∷ lines_at at changes

abbrev pub lines_from : ℕ → List Piece → List Line
lines_from at [] = []
lines_from at (p ∷ pieces) = lines_at at (tellings p.change) ++ lines_from (at + p.taken) pieces

-- THE CHANGES of a list, line by line
unfoldable pub changes_of : List ℕ → List Line
changes_of list = lines_from 0 (pieces_of list)

-- ---- a list that comes in parts: no code has more bytes than these, so of a front of so many the piece is known
abbrev pub longest_code : ℕ
longest_code = 9

-- ---- a list that is sound: it reads from its beginning to its end as codes without the mark
pub data Sound : List ℕ → Type 0 where
  ended : {list : List ℕ} → list ≡ [] → Sound list
  further : {list : List ℕ} (x : Reading) → read_of list ≡ told x → x.old ≡ false → Sound (drop x.used list) → Sound list

-- ---- the offsets at which a code or a byte of a list begins
pub data Begins (list : List ℕ) : ℕ → Type 0 where
  first : Begins list 0
  next : {at : ℕ} → Begins list at → at < length list → Begins list (at + (piece_of (drop at list)).taken)

-- ---- what a line reports: a code or byte begins at its offset, and the change is one of those that are told of it
pub data Among (c : Change) : List Change → Type 0 where
  here : {changes : List Change} → Among c (c ∷ changes)
  there : {d : Change} {changes : List Change} → Among c changes → Among c (d ∷ changes)

pub record Reported (list : List ℕ) (line : Line) : Type 0 where
  pub begins : Begins list line.offset
  pub inside : line.offset < length list
  pub tells : Among line.change (tellings (piece_of (drop line.offset list)).change)

abbrev pub Every : (Line → Type 0) → List Line → Type 0
Every P [] = Unit
Every P (l ∷ lines) = P l × Every P lines

-- ---- the calls, lent a slice
-- one step: what is taken, how much is written, and the change
unfoldable pub step_of : List ℕ → List ℕ → Told Stepped
step_of rest slice = do
  n ← count_of (told (piece_of rest).bytes) slice
  told (record { taken = (piece_of rest).taken; written = n; change = (piece_of rest).change })

-- the mended list, where the slice is as long as the list
unfoldable pub mend_call : List ℕ → List ℕ → Told (List ℕ)
mend_call list slice = refuse (ltb (length slice) (length list)) Is.Room (told (mend_of list))

-- how much is written, and how many lines tell the changes
unfoldable pub mended_to : List ℕ → List ℕ → Told Tally
mended_to list slice = do
  n ← count_of (mend_call list slice) slice
  told (record { written = n; changes = length (changes_of list) })
