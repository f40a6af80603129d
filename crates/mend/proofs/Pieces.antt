-- Piece after piece: how the pieces of a list begin, and induction over them.
use mathlib.Core.Path.{◌≡◌, refl, ap}
use mathlib.Core.List.{List, [], ◌∷◌, ◌++◌}
use Prim.Native.Nat.{ℕ, zero, suc, ◌+◌, ◌<◌, ◌≤◌}
use native.Mathlib.Nat.{le_refl}
use native.Mathlib.Omega.{arith}
use lib.ListN.{length, drop, length-drop}
use Rattle.mend.specs.Mends.{Piece, piece_of, pieces_in, pieces_of, bytes_in, mend_of, tellings, lines_at, lines_from}
use Rattle.mend.proofs.PieceLaws.{piece_within}

-- what is left behind the piece at the front
abbrev pub left : List ℕ → List ℕ
left list = drop (piece_of list).taken list

less_left : (list : List ℕ) → 0 < length list → length (left list) < length list
less_left list h = let f = piece_within list h in rw length-drop (omega (arith, f.some, f.there))

pieces_fuel : (n m : ℕ) (list : List ℕ) → length list ≤ n → length list ≤ m → pieces_in n list ≡ pieces_in m list
unfolding pieces_in
pieces_fuel zero zero list hn hm = refl
pieces_fuel zero (suc m) [] hn hm = refl
pieces_fuel zero (suc m) (b ∷ list) hn hm = let z : ⊥ = omega arith in absurd z
pieces_fuel (suc n) zero [] hn hm = refl
pieces_fuel (suc n) zero (b ∷ list) hn hm = let z : ⊥ = omega arith in absurd z
pieces_fuel (suc n) (suc m) [] hn hm = refl
pieces_fuel (suc n) (suc m) (b ∷ list) hn hm =
    let l = less_left (b ∷ list) (omega arith) in
    ap (λ (ps : List Piece). piece_of (b ∷ list) ∷ ps) (pieces_fuel n m (left (b ∷ list)) (omega arith) (omega arith))

pub pieces_more : (list : List ℕ) → 0 < length list → pieces_of list ≡ piece_of list ∷ pieces_of (left list)
unfolding pieces_of pieces_in
pieces_more [] h = let z : ⊥ = omega arith in absurd z
pieces_more (b ∷ list) h =
    let l = less_left (b ∷ list) h in
    ap (λ (ps : List Piece). piece_of (b ∷ list) ∷ ps) (pieces_fuel (length list) (length (left (b ∷ list))) (left (b ∷ list)) (omega arith) (le_refl _))

pub pieces_none : (list : List ℕ) → length list ≤ 0 → pieces_of list ≡ []
unfolding pieces_of pieces_in
pieces_none [] h = refl
pieces_none (b ∷ list) h = let z : ⊥ = omega arith in absurd z

-- what holds of nothing, and of a list wherever it holds of what is left, holds of every list
pub by_pieces : (P : List ℕ → Type 0) → P [] → ((list : List ℕ) → 0 < length list → P (left list) → P list) → (list : List ℕ) → P list
by_pieces P none more list = go (length list) list (le_refl _)
  where
    step : (n : ℕ) → ((list : List ℕ) → length list < n → P list) → (list : List ℕ) → length list ≤ n → P list
    step n ih [] h = none
    step n ih (b ∷ list) h = let l = less_left (b ∷ list) (omega arith) in more (b ∷ list) (omega arith) (ih (left (b ∷ list)) (omega arith))

    go : (n : ℕ) (list : List ℕ) → length list ≤ n → P list
    go zero = step zero (λ list h. (let z : ⊥ = omega arith in absurd z))
    go (suc n) = step (suc n) (λ list h. go n list (omega arith))

-- ---- the mended list and the lines
pub mend_none : (list : List ℕ) → length list ≤ 0 → mend_of list ≡ []
unfolding mend_of
mend_none list h = ap bytes_in (pieces_none list h)

pub mend_more : (list : List ℕ) → 0 < length list → mend_of list ≡ (piece_of list).bytes ++ mend_of (left list)
unfolding mend_of
mend_more list h = ap bytes_in (pieces_more list h)

pub lines_more : (at : ℕ) (list : List ℕ) → 0 < length list
    → lines_from at (pieces_of list) ≡ lines_at at (tellings (piece_of list).change) ++ lines_from (at + (piece_of list).taken) (pieces_of (left list))
lines_more at list h = ap (lines_from at) (pieces_more list h)
