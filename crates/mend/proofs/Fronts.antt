-- A list that is known by its front alone: no code has more than nine bytes, so a front of so many has the piece of every list that begins with it, and
-- mending goes on behind that piece. So a list may be mended as it comes, in any cuts, with the answer that it has in one.
use mathlib.Core.Path.{◌≡◌, refl, sym, ap, ap₂, ◌∙◌}
use mathlib.Core.List.{List, ◌++◌}
use Prim.Native.Nat.{ℕ, ◌+◌, ◌<◌, ◌≤◌}
use native.Mathlib.Omega.{arith}
use lib.ListN.{length, drop, length-append}
use lib.Seq.{take-append-le, take-append_seam, drop-append-le}
use Rattle.triple.specs.Refusals.{Told, told, refused}
use Rattle.code.specs.declared.Reading.{Reading}
use Rattle.code.specs.Codes.{loose_of, read_of}
use Rattle.code.proofs.SpareLaws.{loose_sized}
use Rattle.code.proofs.Canonical.{read_loosely}
use Rattle.code.proofs.FrontLaws.{loose_same, read_same}
use Rattle.mend.specs.Mends.{Piece, longest_code, copied, unread_by, unread_of, piece_by, piece_of, pieces_of, mend_of, tellings, lines_at, lines_from}
use Rattle.mend.proofs.PieceLaws.{piece_by_lem, piece_within}
use Rattle.mend.proofs.Pieces.{mend_more, lines_more}

module _ (front more : List ℕ) (long : longest_code ≤ length front) where
  longer : length front ≤ length (front ++ more)
  longer = rw length-append (omega arith)

  -- the front is the first bytes of the whole, and the reader needs no more of them
  loose_front : loose_of (front ++ more) ≡ loose_of front
  loose_front = sym (loose_same (length front) (front ++ more) long) ∙ ap loose_of (take-append_seam front more)

  read_front : read_of (front ++ more) ≡ read_of front
  read_front = sym (read_same (length front) (front ++ more) long) ∙ ap read_of (take-append_seam front more)

  unread_front : unread_of (front ++ more) ≡ unread_of front
  unfolding unread_of
  unread_front = ap unread_by loose_front

  -- a code that is read lies within the front
  copied_front : {x : Reading} → loose_of front ≡ told x → copied (front ++ more) x.used ≡ copied front x.used
  copied_front {x} e =
      let l = loose_sized front e in
      rw (take-append-le x.used front more (omega (arith, l.whole, l.count)))

  by_front : (t : Told Reading) → read_of front ≡ t → piece_by (front ++ more) t ≡ piece_by front t
  by_front (refused n) e = unread_front
  by_front (told x) e = rw (copied_front (read_loosely front e).0)

  pub piece_front : piece_of (front ++ more) ≡ piece_of front
  piece_front =
      piece_by_lem (front ++ more) (omega (arith, long, longer)) (sym read_front) ∙ by_front (read_of front) refl ∙ sym (piece_by_lem front (omega (arith, long)) refl)

-- ---- mending goes on behind the piece at the front, wherever that is the whole list's
module _ (front more : List ℕ) (some : 0 < length front) (same : piece_of (front ++ more) ≡ piece_of front) where
  longer_by : length front ≤ length (front ++ more)
  longer_by = rw length-append (omega arith)

  left_same : drop (piece_of (front ++ more)).taken (front ++ more) ≡ drop (piece_of front).taken front ++ more
  left_same = rw same (drop-append-le (piece_of front).taken front more (piece_within front some).there)

  pub mend_goes_on : mend_of (front ++ more) ≡ (piece_of front).bytes ++ mend_of (drop (piece_of front).taken front ++ more)
  mend_goes_on = mend_more (front ++ more) (omega (arith, some, longer_by)) ∙ ap₂ (λ (p : Piece) (l : List ℕ). p.bytes ++ mend_of l) same left_same

  pub lines_go_on : (at : ℕ) → lines_from at (pieces_of (front ++ more))
      ≡ lines_at at (tellings (piece_of front).change) ++ lines_from (at + (piece_of front).taken) (pieces_of (drop (piece_of front).taken front ++ more))
  lines_go_on at =
      lines_more at (front ++ more) (omega (arith, some, longer_by))
      ∙ ap₂ (λ (p : Piece) (l : List ℕ). lines_at at (tellings p.change) ++ lines_from (at + p.taken) (pieces_of l)) same left_same
