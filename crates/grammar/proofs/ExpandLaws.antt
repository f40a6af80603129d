-- One expansion pass, byte by byte, in the form of what the code has in hand: the room that is left over, and the buffer so far.
use Rattle.std.specs.Prelude.{Option, Ok}
use mathlib.Core.Path.{◌≡◌, refl, sym, ap, ◌∙◌}
use mathlib.Core.Bool.{true, false}
use mathlib.Core.List.{List, [], ◌∷◌, ◌++◌, append-nil}
use Prim.Native.Nat.{ℕ, ◌+◌, ◌-◌, ◌≤◌, ◌<◌}
use native.Mathlib.Numerals.{add-one}
use native.Mathlib.Omega.{arith}
use lib.Dec.{leb}
use lib.ListN.{length, get_or, take, drop, length-append, take-append-drop, drop_of_length-le, length-take, length-drop}
use lib.Seq.{take_all, take-suc, drop-cons}
use borrow.Rule.Slice.PartMut.{put_mid}
use borrow.Author.Tests.{le-leb, lt-leb}
use Rattle.triple.specs.Refusals.{told, said}
use Rattle.triple.specs.Lent.{count_of, after_call}
use Rattle.triple.proofs.LentLaws.{count_whole}
use Rattle.whole.proofs.Fill.{fronted, length_fronted, fronted_back}
use Rattle.grammar.specs.Words.{word_of, expand_once}
use Rattle.grammar.proofs.ReversalLaws.{pass_append}

-- ---- one pass

module _ (book : ℕ → Option (List ℕ)) where
  module _ (s : List ℕ) (i : ℕ) (h : i < length s) where
    -- one byte more
    pub expand_more : expand_once book (take (i + 1) s) ≡ expand_once book (take i s) ++ word_of book (get_or s i 0)
    unfolding expand_once
    expand_more =
        rw (add-one, take-suc s i 0)
        (pass_append book (take i s) (get_or s i 0 ∷ []) ∙ ap (λ (w : List ℕ). expand_once book (take i s) ++ w) (append-nil (word_of book (get_or s i 0))))

    pub expand_next : expand_once book (drop i s) ≡ word_of book (get_or s i 0) ++ expand_once book (drop (i + 1) s)
    unfolding expand_once
    expand_next = rw (add-one, drop-cons s i 0)

  pub expand_split : (s : List ℕ) (i : ℕ) → expand_once book s ≡ expand_once book (take i s) ++ expand_once book (drop i s)
  expand_split s i = ap (expand_once book) (sym (take-append-drop i s)) ∙ pass_append book (take i s) (drop i s)

-- ---- room, as it is used up byte by byte

-- `left` is what is left of `room` after i bytes of s
pub record LeftOver (book : ℕ → Option (List ℕ)) (s : List ℕ) (room left i : ℕ) : Type 0 where
  pub sum : length (expand_once book s) + left ≡ room + length (expand_once book (drop i s))

module _ {book : ℕ → Option (List ℕ)} {s : List ℕ} {room left i : ℕ} (before : LeftOver book s room left i) where
  module _ {n : ℕ} (h : i < length s) (n_is : n ≡ length (word_of book (get_or s i 0))) where
    long : length (expand_once book (drop i s)) ≡ n + length (expand_once book (drop (i + 1) s))
    long = rw (n_is, expand_next book s i h) (length-append (word_of book (get_or s i 0)) (expand_once book (drop (i + 1) s)))

    pub left_next : n ≤ left → LeftOver book s room (left - n) (i + 1)
    left_next g = let l = long in record { sum = omega arith }

    pub left_short : left < n → false ≡ leb (length (expand_once book s)) room
    left_short g = let l = long in sym (lt-leb (length (expand_once book s)) room (omega arith))

  pub left_enough : length s ≤ i → true ≡ leb (length (expand_once book s)) room
  unfolding expand_once
  left_enough h =
      let none : length (expand_once book (drop i s)) ≡ 0 = rw (drop_of_length-le s {i = i} h) refl in
      sym (le-leb (length (expand_once book s)) room (omega arith))

-- ---- a buffer, as it is filled byte by byte

-- of the pass over s, the words of its first i bytes stand at the front, up to place `at`, of what was d
pub record Passed (book : ℕ → Option (List ℕ)) (s d out : List ℕ) (at i : ℕ) : Type 0 where
  pub fit : length (expand_once book s) ≤ length d
  pub place : at ≡ length (expand_once book (take i s))
  pub kept : length out ≡ length d
  pub so_far : out ≡ fronted (expand_once book (take i s)) d

pub passed_none : (book : ℕ → Option (List ℕ)) (s d : List ℕ) → length (expand_once book s) ≤ length d → Passed book s d d 0 0
unfolding expand_once
passed_none book s d h = record { fit = h; place = refl; kept = refl; so_far = refl }

module _ {book : ℕ → Option (List ℕ)} {s d out : List ℕ} {at i : ℕ} (before : Passed book s d out at i) where
  pub place_within : at ≤ length out
  place_within = omega (arith, ap length (expand_split book s i), length-append (expand_once book (take i s)) (expand_once book (drop i s)))

  module _ (h : i < length s) where
    more : length (expand_once book (take (i + 1) s)) ≡ at + length (word_of book (get_or s i 0))
    more = rw (expand_more book s i h) (omega (arith, length-append (expand_once book (take i s)) (word_of book (get_or s i 0))))

    pub word_within : at + length (word_of book (get_or s i 0)) ≤ length out
    word_within =
        omega (arith, more, ap length (expand_split book s (i + 1)), length-append (expand_once book (take (i + 1) s)) (expand_once book (drop (i + 1) s)))

    pub part_within : length (word_of book (get_or s i 0)) ≤ length (take (length out - at) (drop at out))
    part_within = rw (length-take, length-drop) (omega (arith, word_within))

    -- the part from `at` on was lent, and came back with the next byte's word at its front
    pub passed_next : {n : ℕ} {last : List ℕ} → (n ≡ length (word_of book (get_or s i 0))) × (last ≡ fronted (word_of book (get_or s i 0)) (take (length out - at) (drop at out)))
        → Passed book s d (put_mid at (length out - at) out last) (at + n) (i + 1)
    passed_next {n} {last} w =
        let e : put_mid at (length out - at) out last ≡ fronted (expand_once book (take (i + 1) s)) d =
        rw (expand_more book s i h) (fronted_back (expand_once book (take i s)) (word_of book (get_or s i 0)) d out last at before.place before.so_far w.1) in
        record {
          fit = before.fit;
          place = omega (arith, more);
          kept = ap length e ∙ length_fronted (expand_once book (take (i + 1) s)) d (omega (arith, more, word_within));
          so_far = e;
        }

  pub passed_all : length s ≤ i → (said (Ok at) ≡ count_of (told (expand_once book s)) d) × (out ≡ after_call (told (expand_once book s)) d)
  passed_all h =
      let all = take_all i s h in
      let end : at ≡ length (expand_once book s) = rw all at before.place in
      count_whole (expand_once book s) d (sym end) (omega arith) (rw (end, before.so_far, all) refl)
