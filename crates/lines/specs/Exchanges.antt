-- An exchange of lines: where a step of it stops, and what is true of it there.
use Rattle.std.specs.Prelude.{◌≡◌, Bool, true, false, cond, List, ℕ, ◌-◌, ◌≤◌, ◌<◌, get_or}
use Rattle.lines.specs.declared.Stop.{Stop}
use Rattle.lines.specs.declared.Stop.TheVariants.{Piece, Line, Last, End, Failed}
use Rattle.lines.specs.declared.Exchange.{Exchange}

-- before the first step
abbrev pub fresh : Exchange
fresh = record { at = 0; end = 0; kept = 0; gathered = 0; stop = Piece }

-- what is kept is a whole line
abbrev pub is_whole : Stop → Bool
is_whole Piece = false
is_whole Line = true
is_whole Last = true
is_whole End = false
is_whole Failed = false

-- nothing more is to be read
abbrev pub is_over : Stop → Bool
is_over Piece = false
is_over Line = false
is_over Last = true
is_over End = true
is_over Failed = true

-- of some turns, none where nothing more is to be read, and else one less
unfoldable pub left_of : Stop → ℕ → ℕ
left_of s turns = cond (is_over s) 0 (turns - 1)

-- each place stands inside what is lent: a piece of so many bytes, and room for so many of a line and of the output
abbrev pub Within : ℕ → ℕ → ℕ → Exchange → Type 0
Within piece line out e = (e.at ≤ e.end) × ((e.end ≤ piece) × ((e.kept ≤ line) × (e.gathered ≤ out)))

-- what a stop says: the piece is used up; its last byte that was passed is LF; bytes are kept at the end of the input, or none are; after a failure nothing is kept or gathered
abbrev pub Says : List ℕ → Exchange → Stop → Type 0
Says piece e Piece = e.at ≡ e.end
Says piece e Line = (0 < e.at) × (get_or piece (e.at - 1) 0 ≡ 10)
Says piece e Last = 0 < e.kept
Says piece e End = e.kept ≡ 0
Says piece e Failed = (e.kept ≡ 0) × (e.gathered ≡ 0)

-- what its own stop says
abbrev pub Stopped : List ℕ → Exchange → Type 0
Stopped piece e = Says piece e e.stop
