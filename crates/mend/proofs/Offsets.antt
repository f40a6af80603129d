-- Each line tells of a code or byte that begins at its offset, and of a change of that piece: from a place where one begins, the lines ahead are those of
-- the piece there, and of what is ahead of the next.
use mathlib.Core.Path.{◌≡◌, refl, sym, ap, ◌∙◌}
use mathlib.Core.List.{List, [], ◌∷◌, ◌++◌}
use Prim.Native.Nat.{ℕ, ◌+◌, ◌<◌}
use native.Mathlib.Nat.{le_refl}
use native.Mathlib.Omega.{arith}
use lib.ListN.{length, drop, length-drop}
use lib.Seq.{drop-drop}
use Rattle.mend.specs.declared.Change.{Change}
use Rattle.mend.specs.Mends.{piece_of, pieces_of, tellings, Line, lines_at, lines_from, changes_of, Begins, first, next, Among, here, there, Reported, Every}
use Rattle.mend.proofs.Pieces.{left, by_pieces, pieces_none, lines_more}

every_append : (P : Line → Type 0) (a b : List Line) → Every P a → Every P b → Every P (a ++ b)
every_append P [] b p q = q
every_append P (l ∷ a) b p q = (p.0, every_append P a b p.1 q)

-- the lines of one piece
lines_reported : (list : List ℕ) (at : ℕ) → Begins list at → at < length list → (changes : List Change)
    → ((c : Change) → Among c changes → Among c (tellings (piece_of (drop at list)).change)) → Every (Reported list) (lines_at at changes)
lines_reported list at begins inside [] among = tt
lines_reported list at begins inside (c ∷ changes) among =
    (record { begins = begins; inside = inside; tells = among c here }, lines_reported list at begins inside changes (λ d m. among d (there m)))

all_reported : (list rest : List ℕ) (at : ℕ) → rest ≡ drop at list → Begins list at → Every (Reported list) (lines_from at (pieces_of rest))
all_reported list =
    by_pieces
    (λ rest. (at : ℕ) → rest ≡ drop at list → Begins list at → Every (Reported list) (lines_from at (pieces_of rest)))
    (λ at e begins. rw (pieces_none [] (le_refl 0)) tt)
    (λ rest some ih at e begins.
    (let inside : at < length list = omega (arith, some, ap length e, length-drop at list) in
    let taken : (piece_of (drop at list)).taken ≡ (piece_of rest).taken = ap (λ (l : List ℕ). (piece_of l).taken) (sym e) in
    let ahead : left rest ≡ drop (at + (piece_of rest).taken) list = ap (drop (piece_of rest).taken) e ∙ drop-drop (piece_of rest).taken at list in
    let later : Begins list (at + (piece_of rest).taken) = rw (← taken) (next begins inside) in
    rw (lines_more at rest some)
    (every_append (Reported list) (lines_at at (tellings (piece_of rest).change)) _
    (lines_reported list at begins inside (tellings (piece_of rest).change) (λ c m. rw (← e) m))
    (ih (at + (piece_of rest).taken) ahead later))))

pub changes_reported : (list : List ℕ) → Every (Reported list) (changes_of list)
unfolding changes_of
changes_reported list = all_reported list list 0 refl first
