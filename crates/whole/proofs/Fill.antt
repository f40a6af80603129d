-- A slice that is filled from its front: element by element with a list's elements, or list after list.
use mathlib.Core.Path.{◌≡◌, refl, sym, ap, ◌∙◌}
use mathlib.Core.Logic.{⊎_elim}
use mathlib.Core.List.{List, [], ◌∷◌, ◌++◌, append_assoc, append-nil, reverse, reverse-cons}
use Prim.Native.Nat.{ℕ, zero, suc, ◌+◌, ◌-◌, ◌<◌, ◌≤◌, min}
use native.Mathlib.Nat.{eq-or-lt_of_le, not-suc-le-zero, le_of_suc-le-suc, le_refl, zero-min, min-zero, suc-min-suc}
use native.Mathlib.Numerals.{add-one}
use native.Mathlib.Omega.{arith}
use lib.ListN.{length, get_or, take, drop, set, length-append, length-drop, length-reverse, drop_of_length-le, get_or-append}
use lib.Seq.{take_all, take-suc, drop-cons, set_at, take_at, drop_at, get_or_at, drop-drop, length-take-le}
use borrow.Rule.Slice.PartMut.{put_mid}

earlier : (n i : ℕ) → i < n → suc (n - 1 - i) ≡ suc n - 1 - i
earlier n i h = omega arith

last : (n i : ℕ) → i ≡ n → 0 ≡ suc n - 1 - i
last n i h = omega arith

module _ {A : Type 0} where
  pub get_d_reverse : (l : List A) (i : ℕ) (d : A) → i < length l → get_or (reverse l) i d ≡ get_or l (length l - 1 - i) d
  get_d_reverse [] i d h = absurd (not-suc-le-zero h)
  get_d_reverse (x ∷ l) i d h =
      let y : ℕ → A = λ n. get_or (x ∷ l) n d in
      let ends : i ≡ length l → get_or (reverse l ++ (x ∷ [])) i d ≡ y (suc (length l) - 1 - i) =
      λ e. get_or_at (reverse l) x [] d i (length-reverse l ∙ sym e) ∙ ap y (last (length l) i e) in
      let inside : i < length l → get_or (reverse l ++ (x ∷ [])) i d ≡ y (suc (length l) - 1 - i) =
      λ h. get_or-append (reverse l) (x ∷ []) d i (rw length-reverse h) ∙ get_d_reverse l i d h ∙ ap y (earlier (length l) i h) in
      ap (λ (r : List A). get_or r i d) (reverse-cons x l) ∙ ⊎_elim ends inside (eq-or-lt_of_le (le_of_suc-le-suc h))

  -- the first n elements of w in the place of those of d
  abbrev pub poured : List A → ℕ → List A → List A
  poured w n d = take n w ++ drop n d

  -- one more store
  pub poured_more : (w d : List A) (n : ℕ) (z v : A) → n < length w → n < length d → v ≡ get_or w n z → set (poured w n d) n v ≡ poured w (n + 1) d
  poured_more w d n z v hw hd e =
      ap (λ (l : List A). set (take n w ++ l) n v) (drop-cons d n z hd)
      ∙ set_at (take n w) (get_or d n z) (drop (suc n) d) v n (length-take-le n w (omega arith))
      ∙ (rw (add-one, take-suc w n z, append_assoc, e))

  -- all of them stored
  pub poured_all : (w d : List A) {x : List A} (n k : ℕ) → length w ≡ k → n ≤ k → k ≤ n → x ≡ poured w n d → x ≡ w ++ drop k d
  poured_all w d n k e l h f =
      let same : n ≡ k = omega arith in f ∙ rw same (ap (λ (v : List A). v ++ drop k d) (take_all k w (omega arith)))

  pub set_first : (v : A) (d : List A) → 0 < length d → set d 0 v ≡ v ∷ drop 1 d
  set_first v [] h = absurd (not-suc-le-zero h)
  set_first v (x ∷ d) h = refl

  -- w at the front of d
  abbrev pub fronted : List A → List A → List A
  fronted w d = w ++ drop (length w) d

  pub length_fronted : (w d : List A) → length w ≤ length d → length (fronted w d) ≡ length d
  length_fronted w d h = simp (length-append, length-drop) (omega arith)

  -- the part behind w was lent, and came back with v at its front
  pub fronted_back : (w v d t last : List A) (n : ℕ) → n ≡ length w → t ≡ fronted w d
      → last ≡ fronted v (take (length t - n) (drop n t)) → put_mid n (length t - n) t last ≡ fronted (w ++ v) d
  fronted_back w v d t last n en et el =
      let behind : drop n t ≡ drop (length w) d = rw (et, en) (drop_at w (drop (length w) d) (length w) refl) in
      let front : take n t ≡ w = rw (et, en) (take_at w (drop (length w) d) (length w) refl) in
      let whole : take (length t - n) (drop n t) ≡ drop n t = take_all (length t - n) (drop n t) (rw length-drop (le_refl _)) in
      let none : drop (length t - n) (drop n t) ≡ [] = drop_of_length-le (drop n t) {i = length t - n} (rw length-drop (le_refl _)) in
      rw (el, whole, none, front, behind) (simp (append-nil, drop-drop, length-append, append_assoc))

  -- a count that is cut to what there is
  pub take_min : (n : ℕ) (l : List A) → take (min n (length l)) l ≡ take n l
  take_min zero l = rw zero-min
  take_min (suc n) [] = rw min-zero
  take_min (suc n) (x ∷ l) = rw suc-min-suc (ap (λ (r : List A). x ∷ r) (take_min n l))

  pub drop_min : (n : ℕ) (l : List A) → drop (min n (length l)) l ≡ drop n l
  drop_min zero l = rw zero-min
  drop_min (suc n) [] = rw min-zero
  drop_min (suc n) (x ∷ l) = rw suc-min-suc (drop_min n l)
