-- The piece at the front of a list, by what the reader answers and what it reads loosely. A piece takes some bytes, and writes no more than it takes.
use mathlib.Core.Bool.{Bool, true, false, cond}
use mathlib.Core.Path.{◌≡◌, refl, sym, ap, ◌∙◌}
use mathlib.Core.List.{List, [], ◌∷◌}
use Prim.Native.Nat.{ℕ, ◌<◌, ◌≤◌}
use native.Mathlib.Omega.{arith}
use lib.Dec.{lit<}
use lib.ListN.{length}
use lib.Seq.{length-take-le}
use Rattle.triple.specs.Refusals.{Told, told, refused}
use Rattle.code.specs.declared.Reading.{Reading}
use Rattle.code.specs.Codes.{code_length, loose_of, read_of}
use Rattle.code.proofs.CodeLaws.{length_code}
use Rattle.code.proofs.SpareLaws.{loose_sized}
use Rattle.code.proofs.Canonical.{read_loosely}
use Rattle.mend.specs.declared.Change.{Change}
use Rattle.mend.specs.declared.Change.TheVariants.{Kept, Spare, Turned, Both}
use Rattle.mend.specs.Mends.{Piece, copied, anew, lost, unread_by, unread_of, piece_by, piece_of, tellings}

-- ---- by cases
pub piece_by_lem : (rest : List ℕ) → 0 < length rest → {t : Told Reading} → t ≡ read_of rest → piece_of rest ≡ piece_by rest t
unfolding piece_of
piece_by_lem [] h e = let z : ⊥ = omega arith in absurd z
piece_by_lem (b ∷ rest) h e = ap (piece_by (b ∷ rest)) (sym e)

pub piece_none : (list : List ℕ) → length list ≡ 0 → piece_of list ≡ record { taken = 0; bytes = []; change = Kept }
unfolding piece_of
piece_none [] h = refl
piece_none (b ∷ list) h = let z : ⊥ = omega (arith, h) in absurd z

module _ (rest : List ℕ) where
  unread_by_lem : {t : Told Reading} → t ≡ loose_of rest → unread_by t ≡ unread_of rest
  unfolding unread_of
  unread_by_lem e = ap unread_by e

  pub unread_lost : {n : ℕ} → refused n ≡ loose_of rest → lost ≡ unread_of rest
  unread_lost e = unread_by_lem e

  pub unread_both : (x : Reading) → told x ≡ loose_of rest → x.old ≡ true → anew Both x ≡ unread_of rest
  unread_both x e m = ap (λ (b : Bool). cond b (anew Both x) (anew Spare x)) (sym m) ∙ unread_by_lem e

  pub unread_spare : (x : Reading) → told x ≡ loose_of rest → x.old ≡ false → anew Spare x ≡ unread_of rest
  unread_spare x e m = ap (λ (b : Bool). cond b (anew Both x) (anew Spare x)) (sym m) ∙ unread_by_lem e

  module _ (some : 0 < length rest) where
    pub piece_unread : {n : ℕ} → refused n ≡ read_of rest → unread_of rest ≡ piece_of rest
    piece_unread e = sym (piece_by_lem rest some e)

    pub piece_turned : (x : Reading) → told x ≡ read_of rest → x.old ≡ true → anew Turned x ≡ piece_of rest
    piece_turned x e m = ap (λ (b : Bool). cond b (anew Turned x) (copied rest x.used)) (sym m) ∙ sym (piece_by_lem rest some e)

    pub piece_copied : (x : Reading) → told x ≡ read_of rest → x.old ≡ false → copied rest x.used ≡ piece_of rest
    piece_copied x e m = ap (λ (b : Bool). cond b (anew Turned x) (copied rest x.used)) (sym m) ∙ sym (piece_by_lem rest some e)

-- ---- the cases are all: what holds of each holds of the piece
module _ (P : Piece → Type 0) (rest : List ℕ) (some : 0 < length rest)
    (is_copied : (x : Reading) → read_of rest ≡ told x → x.old ≡ false → P (copied rest x.used))
    (is_anew : (c : Change) → 0 < length (tellings c) → (x : Reading) → loose_of rest ≡ told x → P (anew c x))
    (is_lost : P lost) where
  read_cases : (old : Bool) (x : Reading) → x.old ≡ old → read_of rest ≡ told x → P (piece_of rest)
  unfolding tellings
  read_cases true x m e = rw (← piece_turned rest some x (sym e) m) (is_anew Turned (lit< tt) x (read_loosely rest e).0)
  read_cases false x m e = rw (← piece_copied rest some x (sym e) m) (is_copied x e m)

  marked_cases : (old : Bool) (x : Reading) → x.old ≡ old → loose_of rest ≡ told x → P (unread_of rest)
  unfolding tellings
  marked_cases true x m e = rw (← unread_both rest x (sym e) m) (is_anew Both (lit< tt) x e)
  marked_cases false x m e = rw (← unread_spare rest x (sym e) m) (is_anew Spare (lit< tt) x e)

  unread_cases : (t : Told Reading) → loose_of rest ≡ t → P (unread_of rest)
  unread_cases (told x) e = marked_cases x.old x refl e
  unread_cases (refused n) e = rw (← unread_lost rest (sym e)) is_lost

  cases : (t : Told Reading) → read_of rest ≡ t → P (piece_of rest)
  cases (told x) e = read_cases x.old x refl e
  cases (refused n) e = rw (← piece_unread rest some (sym e)) (unread_cases (loose_of rest) refl)

  pub piece_cases : P (piece_of rest)
  piece_cases = cases (read_of rest) refl

-- ---- how long
pub record Within (rest : List ℕ) (p : Piece) : Type 0 where
  pub some : 0 < p.taken
  pub there : p.taken ≤ length rest
  pub short : length p.bytes ≤ p.taken

anew_within : (rest : List ℕ) (c : Change) (x : Reading) → loose_of rest ≡ told x → Within rest (anew c x)
unfolding code_length
anew_within rest c x e =
    let l = loose_sized rest e in
    let n = length_code x.orientation x.resolution x.s in
    record { some = omega (arith, l.count); there = omega (arith, l.count, l.whole); short = omega (arith, l.count, n) }

pub piece_within : (rest : List ℕ) → 0 < length rest → Within rest (piece_of rest)
piece_within rest h =
    piece_cases
    (Within rest)
    rest
    h
    (λ x e m.
    (let f = anew_within rest Kept x (read_loosely rest e).0 in
    record { some = f.some; there = f.there; short = omega (arith, length-take-le x.used rest f.there) }))
    (λ c h. anew_within rest c)
    (record { some = omega arith; there = omega arith; short = omega arith })
