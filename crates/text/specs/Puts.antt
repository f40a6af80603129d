-- A text put at a place of a lent slice, where it has room.
use Rattle.std.specs.Prelude.{◌≡◌, Bool, cond, List, ◌++◌, ℕ, suc, ◌+◌, leb, length, take, drop}

-- whether a slice of so many bytes has room for a size from a place on
abbrev pub has_room : ℕ → ℕ → ℕ → Bool
has_room room at size = leb (at + size) room

-- THE PLACE after it; where there is no room, one past the slice's end, and there nothing has room
unfoldable pub place_after : ℕ → ℕ → ℕ → ℕ
place_after room at size = cond (has_room room at size) (at + size) (suc room)

-- a slice with a text in the place of the bytes that were there
abbrev pub with_text : List ℕ → ℕ → List ℕ → List ℕ
with_text slice at text = take at slice ++ text ++ drop (at + length text) slice

-- THE SLICE afterwards; where the text has no room, as it was
unfoldable pub after_put : List ℕ → ℕ → List ℕ → List ℕ
after_put slice at text = cond (has_room (length slice) at (length text)) (with_text slice at text) slice

-- what a call that puts a text answers and leaves
pub record Put (slice : List ℕ) (at : ℕ) (text : List ℕ) (after : List ℕ) (next : ℕ) : Type 0 where
  pub place_is : next ≡ place_after (length slice) at (length text)
  pub slice_is : after ≡ after_put slice at text
