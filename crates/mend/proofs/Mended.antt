-- A mended list reads from its beginning to its end as codes without the mark; a list that does so is given back, and no change is told; no list grows.
use mathlib.Core.Path.{◌≡◌, refl, sym, ap, ◌∙◌}
use mathlib.Core.List.{List, [], ◌++◌}
use mathlib.Core.Logic.{◌↔◌}
use Prim.Native.Nat.{ℕ, ◌+◌, ◌<◌, ◌≤◌}
use native.Mathlib.Nat.{le_refl}
use native.Mathlib.Omega.{arith}
use lib.ListN.{length, take, drop, length-drop, length-append, take-append-drop}
use lib.Seq.{drop_at, get_or-drop}
use Rattle.triple.specs.Refusals.{told}
use Rattle.code.specs.declared.Reading.{Reading}
use Rattle.code.specs.Codes.{code_length, code_bytes, code_of, read_of, Bytes}
use Rattle.code.proofs.CodeLaws.{length_code}
use Rattle.code.proofs.SpareLaws.{loose_sized}
use Rattle.code.proofs.RoundTrip.{coded_read}
use Rattle.code.proofs.Canonical.{read_loosely, loose_writes, read_spelling}
use Rattle.mend.specs.declared.Change.TheVariants.{Dropped}
use Rattle.mend.specs.Mends.{piece_of, pieces_of, mend_of, tellings, lines_at, lines_from, changes_of, Sound, ended, further}
use Rattle.mend.proofs.PieceLaws.{piece_copied, piece_cases, piece_within}
use Rattle.mend.proofs.ChangeLaws.{lines_count}
use Rattle.mend.proofs.Pieces.{left, by_pieces, pieces_none, mend_none, mend_more, lines_more}

-- ---- what is written is sound
-- a code in front of a sound list
sound_code : (x : Reading) (rest : List ℕ) → code_of x.orientation x.resolution x.s ≡ told (code_bytes x.orientation x.resolution x.s) → Sound rest
    → Sound (code_bytes x.orientation x.resolution x.s ++ rest)
sound_code x rest w s =
    let o = x.orientation in
    let r = x.resolution in
    further _ (coded_read o r x.s rest w) refl (rw (drop_at (code_bytes o r x.s) rest (code_length r) (length_code o r x.s)) s)

pub small_drop : (n : ℕ) (bytes : List ℕ) → Bytes bytes → Bytes (drop n bytes)
small_drop n bytes small k = rw (get_or-drop n bytes k 0) (small (n + k))

pub mended_sound : (list : List ℕ) → Bytes list → Sound (mend_of list)
mended_sound =
    by_pieces
    (λ list. Bytes list → Sound (mend_of list))
    (λ small. ended (mend_none [] (le_refl 0)))
    (λ list some ih small.
    (let s = ih (small_drop (piece_of list).taken list small) in
    rw (mend_more list some)
    (piece_cases
    (λ p. Sound (p.bytes ++ mend_of (left list)))
    list
    some
    (λ x e m.
    (rw (← read_spelling list small e m) (sound_code x (mend_of (left list)) (loose_writes list small (read_loosely list e).0) s)))
    (λ c h x e. sound_code x (mend_of (left list)) (loose_writes list small e) s)
    s)))

-- ---- a sound list is given back
some_read : (list : List ℕ) {x : Reading} → read_of list ≡ told x → 0 < length list
unfolding code_length
some_read list e = let l = loose_sized list (read_loosely list e).0 in omega (arith, l.whole)

sound_kept : (list : List ℕ) → Sound list → (mend_of list ≡ list) × ((at : ℕ) → lines_from at (pieces_of list) ≡ [])
unfolding tellings
sound_kept list (ended e) = rw e (mend_none [] (le_refl 0), λ at. ap (lines_from at) (pieces_none [] (le_refl 0)))
sound_kept list (further x e m s) =
    let some = some_read list e in
    let p = piece_copied list some x (sym e) m in
    let ih = sound_kept (drop x.used list) s in (
      mend_more list some ∙ (rw (← p) (ap (λ (l : List ℕ). take x.used list ++ l) ih.0 ∙ take-append-drop x.used list)),
      λ at. lines_more at list some ∙ (rw (← p) (ih.1 (at + x.used))),
    )

pub sound_unchanged : (list : List ℕ) → Sound list → (mend_of list ≡ list) × (changes_of list ≡ [])
unfolding changes_of
sound_unchanged list s = let k = sound_kept list s in (k.0, k.1 0)

-- and a list of which no change is told is sound
unchanged : (list : List ℕ) (at : ℕ) → length (lines_from at (pieces_of list)) ≡ 0 → Sound list
unfolding tellings
unchanged =
    by_pieces
    (λ list. (at : ℕ) → length (lines_from at (pieces_of list)) ≡ 0 → Sound list)
    (λ at e. ended refl)
    (λ list some ih at e.
    (let p = piece_of list in
    let n = ap length (lines_more at list some) ∙ length-append (lines_at at (tellings p.change)) (lines_from (at + p.taken) (pieces_of (left list))) in
    let c = lines_count at (tellings p.change) in
    let later : length (lines_from (at + p.taken) (pieces_of (left list))) ≡ 0 = omega (arith, e, n) in
    let here : length (tellings p.change) ≡ 0 = omega (arith, e, n, c) in
    piece_cases
    (λ q. length (tellings q.change) ≡ 0 → Sound (drop q.taken list) → Sound list)
    list
    some
    (λ x e m h s. further x e m s)
    (λ c h x e z s. (let none : ⊥ = omega (arith, h, z) in absurd none))
    (λ z s. dropped z)
    here
    (ih (at + p.taken) later)))
  where
    dropped : {list : List ℕ} → length (tellings Dropped) ≡ 0 → Sound list
    dropped z = let none : ⊥ = omega (arith, z) in absurd none

pub unchanged_sound : (list : List ℕ) → (changes_of list ≡ []) ↔ Sound list
unfolding changes_of
unchanged_sound list = (λ e. unchanged list 0 (ap length e), λ s. (sound_kept list s).1 0)

-- mending again changes nothing
pub mended_again : (list : List ℕ) → Bytes list → (mend_of (mend_of list) ≡ mend_of list) × (changes_of (mend_of list) ≡ [])
mended_again list small = sound_unchanged (mend_of list) (mended_sound list small)

-- ---- no list grows
pub mended_short : (list : List ℕ) → length (mend_of list) ≤ length list
mended_short =
    by_pieces
    (λ list. length (mend_of list) ≤ length list)
    (rw (mend_none [] (le_refl 0)) (le_refl 0))
    (λ list some ih.
    (let f = piece_within list some in
    let e = ap length (mend_more list some) ∙ length-append (piece_of list).bytes (mend_of (left list)) in
    let d = length-drop (piece_of list).taken list in
    omega (arith, f.there, f.short, e, d, ih)))
