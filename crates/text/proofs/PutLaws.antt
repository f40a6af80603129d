-- A text put at a place, by what the tests of its room showed and by the stores that were made; and texts put one after another.
use mathlib.Core.Path.{◌≡◌, refl, sym, ap, ◌∙◌}
use mathlib.Core.Bool.{Bool, true, false}
use mathlib.Core.List.{List, [], ◌∷◌, ◌++◌}
use Prim.Native.Nat.{ℕ, suc, ◌+◌, ◌-◌, ◌^◌, ◌≤◌, ◌<◌}
use native.Mathlib.Decide.{dec_le}
use native.Mathlib.Nat.{add-zero}
use native.Mathlib.Numerals.{add-one}
use native.Mathlib.Omega.{arith}
use borrow.Author.Tests.{le-leb, lt-leb, le-ltb}
use lib.Ieee.{Float, binary64, to_bits}
use lib.IntN.{ℤ, pos, negsuc, nat_abs}
use lib.ListN.{length, get_or, set, length-append}
use lib.Seq.{sets, sets-eq, length-sets, paste, paste-zero, paste-suc, take_all}
use lib.Signed.{lt_z, mag}
use mir.Syntax.{w64}
use mir.Val.{Fits, to_z, of_z}
use mir.ValLaws.{to_z-of_z}
use borrow.Author.Rules.{sfits_of}
use Rattle.std.specs.Int.{from_bool}
use Rattle.text.specs.Decimals.{natural, integer}
use Rattle.text.specs.Patterns.{pattern}
use Rattle.text.specs.Puts.{place_after, with_text, after_put, Put}
use Rattle.text.specs.Inside.Putting.{led, lowest}
use Rattle.text.proofs.DecimalLaws.{some_digit, natural_most}
use Rattle.text.proofs.DigitLaws.{lowest_length, lowest_hex, lowest_natural}

-- ---- the place after so many bytes
module _ (room at size : ℕ) where
  place_here : at + size ≤ room → at + size ≡ place_after room at size
  unfolding place_after
  place_here h = rw (le-leb (at + size) room h)

  place_past : room < at + size → room + 1 ≡ place_after room at size
  unfolding place_after
  place_past h = rw (lt-leb (at + size) room h) (omega arith)

  pub room_left : at ≤ room → size ≤ room - at → at + size ≡ place_after room at size
  room_left h k = place_here (omega arith)

  pub past_end : room < at → room + 1 ≡ place_after room at size
  past_end h = place_past (omega arith)

  pub no_room_left : at ≤ room → room - at < size → room + 1 ≡ place_after room at size
  no_room_left h k = place_past (omega arith)

  -- what an answer shows
  shown_room : (e : ℕ) → e ≡ place_after room at size → e ≤ room → (at + size ≤ room) × (e ≡ at + size)
  shown_room e p h = elim (dec_le (at + size) room) [ yes l ↦ (l, p ∙ sym (place_here l)) | no l ↦ absurd (omega (arith, place_past (omega arith))) ]

  shown_none : (e : ℕ) → e ≡ place_after room at size → room < e → room < at + size
  shown_none e p h = elim (dec_le (at + size) room) [ yes l ↦ absurd (omega (arith, place_here l)) | no l ↦ omega arith ]

pub ruleset place_laws = (room_left, past_end, no_room_left)

-- ---- a text that has room, and one that has none
module _ (slice : List ℕ) (at : ℕ) (text : List ℕ) where
  after_here : at + length text ≤ length slice → with_text slice at text ≡ after_put slice at text
  unfolding after_put
  after_here h = rw (le-leb (at + length text) (length slice) h)

  after_none : length slice < at + length text → slice ≡ after_put slice at text
  unfolding after_put
  after_none h = rw (lt-leb (at + length text) (length slice) h)

  -- e is the place after as many bytes as the text has
  module _ (size e : ℕ) (s : size ≡ length text) (p : e ≡ place_after (length slice) at size) where
    place_of : e ≡ place_after (length slice) at (length text)
    place_of = p ∙ ap (place_after (length slice) at) s

    pub put_none : length slice < e → Put slice at text slice e
    put_none h = record { place_is = place_of; slice_is = after_none (shown_none (length slice) at (length text) e place_of h) }

    pub put_some : e ≤ length slice → (after : List ℕ) → after ≡ with_text slice at text → Put slice at text after e
    put_some h after f = record { place_is = place_of; slice_is = f ∙ after_here (shown_room (length slice) at (length text) e place_of h).0 }

-- ---- one byte, and bytes that are copied
module _ (slice : List ℕ) (at b : ℕ) where
  pub byte_put : at < length slice → Put slice at (b ∷ []) (set slice at b) (at + 1)
  byte_put h = record {
    place_is = place_here (length slice) at 1 (omega arith);
    slice_is = sets-eq (b ∷ []) slice at (omega arith) ∙ after_here slice at (b ∷ []) (omega arith);
  }

  pub byte_left : length slice ≤ at → Put slice at (b ∷ []) slice (length slice + 1)
  byte_left h = record { place_is = place_past (length slice) at 1 (omega arith); slice_is = after_none slice at (b ∷ []) (omega arith) }

pub ruleset byte_laws = (byte_put, byte_left)

module _ (slice : List ℕ) (at : ℕ) (text : List ℕ) where
  pub copy_none : slice ≡ paste slice at text 0
  copy_none = paste-zero slice at text

  module _ (out : List ℕ) (i : ℕ) (e : out ≡ paste slice at text i) where
    pub copy_more : at + length text ≤ length slice → i < length text → set out (at + i) (get_or text i 0) ≡ paste slice at text (i + 1)
    copy_more h l = rw (e, add-one) (paste-suc slice at text i 0 (omega arith) l)

    pub copy_done : i ≤ length text → length text ≤ i → out ≡ with_text slice at text
    copy_done l h = let f : i ≡ length text = omega arith in e ∙ (rw (f, take_all (length text) text (omega arith)))

pub ruleset copy_laws = (copy_none, copy_more, copy_done)

pub room_shown : (room at size e : ℕ) → e ≡ place_after room at size → e ≤ room → at + size ≤ room
room_shown room at size e p h = (shown_room room at size e p h).0

pub ruleset bytes_laws = (room_shown, put_none, put_some)

-- ---- runs of stores: one that starts where another ends is one run of both
pub sets_then : {A : Type 0} (l : List A) (at : ℕ) (u v : List A) → sets (sets l at u) (at + length u) v ≡ sets l at (u ++ v)
sets_then l at [] v = ap (λ (k : ℕ). sets l k v) (add-zero at)
sets_then l at (b ∷ u) v =
    let e : at + suc (length u) ≡ suc at + length u = omega arith in
    ap (λ (k : ℕ). sets (sets (set l at b) (suc at) u) k v) e ∙ sets_then (set l at b) (suc at) u v

-- ---- a byte in front, or none
module _ (lead : Bool) (b at : ℕ) (slice : List ℕ) where
  pub lead_there : lead ≡ true → at + 1 ≡ at + from_bool lead
  lead_there e = rw e

  pub lead_stored : lead ≡ true → set slice at b ≡ sets slice at (led lead b [])
  lead_stored e = rw e

  pub lead_absent : lead ≡ false → at ≡ at + from_bool lead
  lead_absent e = rw (e, add-zero)

  pub lead_skipped : lead ≡ false → slice ≡ sets slice at (led lead b [])
  lead_skipped e = rw e

pub ruleset lead_laws = (lead_there, lead_stored, lead_absent, lead_skipped)

lead_length_lem : (lead : Bool) (b : ℕ) (w : List ℕ) → length (led lead b w) ≡ from_bool lead + length w
lead_length_lem true b w = omega arith
lead_length_lem false b w = omega arith

lead_most : (lead : Bool) → from_bool lead ≤ 1
lead_most true = omega arith
lead_most false = omega arith

lead_then : (lead : Bool) (b : ℕ) (w : List ℕ) → led lead b [] ++ w ≡ led lead b w
lead_then true b w = refl
lead_then false b w = refl

-- a lead, and then a text
led_stored : (slice : List ℕ) (at : ℕ) (lead : Bool) (b m : ℕ) (w : List ℕ) → m ≡ at + from_bool lead → sets (sets slice at (led lead b [])) m w ≡ sets slice at (led lead b w)
led_stored slice at lead b m w e =
    let p : m ≡ at + length (led lead b []) = omega (arith, lead_length_lem lead b []) in
    ap (λ (k : ℕ). sets (sets slice at (led lead b [])) k w) p ∙ sets_then slice at (led lead b []) w ∙ ap (sets slice at) (lead_then lead b w)

-- ---- a number's digits, after a space and a minus sign: the place after them is worked out first
module _ (space minus : Bool) (a b k : ℕ) (ea : a ≡ from_bool space) (eb : b ≡ from_bool minus) (most : k ≤ 20) where
  pub leads_fit : Fits w64 (a + b)
  leads_fit = record { fits = omega (arith, lead_most space, lead_most minus) }

  pub number_fits : Fits w64 (a + b + k)
  number_fits = record { fits = omega (arith, lead_most space, lead_most minus) }

module _ (a b k at e : ℕ) (slice : List ℕ) (p : e ≡ place_after (length slice) at (a + b + k)) (some : 0 < k) (base n : ℕ) (space : Bool) (ea : a ≡ from_bool space) (minus : Bool) (eb : b ≡ from_bool minus) where
  abbrev text : List ℕ
  text = led space 32 (led minus 45 (lowest base k n))

  number_size : a + b + k ≡ length text
  number_size = omega (arith, lead_length_lem space 32 (led minus 45 (lowest base k n)), lead_length_lem minus 45 (lowest base k n), lowest_length base k n)

  pub number_none : length slice < e → Put slice at text slice e
  number_none h = put_none slice at text (a + b + k) e number_size p h

  module _ (h : e ≤ length slice) where
    pub space_room : at < length slice
    space_room = omega (arith, room_shown (length slice) at (a + b + k) e p h)

    module _ (first : List ℕ) (m : ℕ) (f : m ≡ at + from_bool space) (g : first ≡ sets slice at (led space 32 [])) where
      first_length : length first ≡ length slice
      first_length = ap length g ∙ length-sets slice at (led space 32 [])

      pub minus_room : m < length first
      minus_room = omega (arith, first_length, room_shown (length slice) at (a + b + k) e p h)

      module _ (second : List ℕ) (o : ℕ) (q : o ≡ m + from_bool minus) (j : second ≡ sets first m (led minus 45 [])) where
        pub digits_room : o + k ≤ length second
        digits_room = omega (arith, first_length, ap length j, length-sets first m (led minus 45 []), room_shown (length slice) at (a + b + k) e p h)

        pub number_put : (last : List ℕ) → last ≡ sets second o (lowest base k n) → Put slice at text last e
        number_put last l =
            let r : at + length text ≤ length slice = omega (arith, number_size, room_shown (length slice) at (a + b + k) e p h) in
            let t : last ≡ sets slice at text =
            l ∙ ap (λ (w : List ℕ). sets w o (lowest base k n)) j
            ∙ led_stored first m minus 45 o (lowest base k n) q
            ∙ ap (λ (w : List ℕ). sets w m (led minus 45 (lowest base k n))) g
            ∙ led_stored slice at space 32 m (led minus 45 (lowest base k n)) f in
            put_some slice at text (a + b + k) e number_size p h last (t ∙ sets-eq text slice at r)

pub ruleset number_laws = (leads_fit, number_fits, number_none, space_room, minus_room, digits_room, number_put)

-- in decimal, and a float's pattern
module _ (slice after : List ℕ) (at next n k : ℕ) (space minus : Bool) where
  pub decimal_count : k ≡ length (natural n) → n < 2 ^ 64 → (0 < k) × (k ≤ 20)
  decimal_count e h = (omega (arith, some_digit n), omega (arith, natural_most n h))

  pub decimal_put : k ≡ length (natural n) → Put slice at (led space 32 (led minus 45 (lowest 10 k n))) after next → Put slice at (led space 32 (led minus 45 (natural n))) after next
  decimal_put e p = rw (lowest_natural k n e) at p

pub pattern_put : (slice after : List ℕ) (at next bits : ℕ) (space : Bool) (x : Float) → bits ≡ to_bits binary64 x → Put slice at (led space 32 (lowest 16 16 bits)) after next → Put slice at (led space 32 (pattern x)) after next
unfolding pattern
pattern_put slice after at next bits space x e p = rw (lowest_hex 16 bits, e) at p

-- ---- a sign where a number is below 0, and the digits of its size
signed_digits : (z : ℤ) → led (lt_z z (pos 0)) 45 (natural (nat_abs z)) ≡ integer z
unfolding integer
signed_digits (pos n) = rw (le-ltb n 0 (omega arith))
signed_digits (negsuc n) = refl

module _ (z : ℤ) (m : mag z < 2 ^ 63) (n : ℕ) (e : n ≡ nat_abs (to_z w64 (of_z w64 z))) (at next : ℕ) (slice after : List ℕ) where
  text_is : led (lt_z (to_z w64 (of_z w64 z)) (pos 0)) 45 (natural n) ≡ integer z
  text_is = ap (λ (k : ℕ). led (lt_z (to_z w64 (of_z w64 z)) (pos 0)) 45 (natural k)) e ∙ signed_digits (to_z w64 (of_z w64 z)) ∙ ap integer (to_z-of_z w64 z (sfits_of m))

  pub integer_put : Put slice at (led (lt_z (to_z w64 (of_z w64 z)) (pos 0)) 45 (natural n)) after next → Put slice at (integer z) after next
  integer_put p = rw text_is at p

  pub next_integer_put : Put slice at (32 ∷ led (lt_z (to_z w64 (of_z w64 z)) (pos 0)) 45 (natural n)) after next → Put slice at (32 ∷ integer z) after next
  next_integer_put p = rw text_is at p

-- ---- for callers: what the answer shows, a text that has room, and two that are put one after the other
module _ (slice after : List ℕ) (at next : ℕ) (text : List ℕ) (p : Put slice at text after next) where
  pub put_roomy : next ≤ length slice → at + length text ≤ length slice
  put_roomy h = room_shown (length slice) at (length text) next p.place_is h

  pub put_short : length slice < next → length slice < at + length text
  put_short h = shown_none (length slice) at (length text) next p.place_is h

  pub put_kept : length slice < next → after ≡ slice
  put_kept h = p.slice_is ∙ sym (after_none slice at text (put_short h))

  pub put_length : length after ≡ length slice
  put_length = ap length p.slice_is ∙ elim (dec_le (at + length text) (length slice)) [
    | yes l ↦ ap length (sym (after_here slice at text l) ∙ sym (sets-eq text slice at l)) ∙ length-sets slice at text
    | no l ↦ ap length (sym (after_none slice at text (omega arith)))
  ]

module _ (slice after : List ℕ) (at next : ℕ) (text : List ℕ) (p : Put slice at text after next) (h : at + length text ≤ length slice) where
  pub put_place : next ≡ at + length text
  put_place = p.place_is ∙ sym (place_here (length slice) at (length text) h)

  pub put_stored : after ≡ sets slice at text
  put_stored = p.slice_is ∙ sym (after_here slice at text h) ∙ sym (sets-eq text slice at h)

pub put_then : (slice between after : List ℕ) (at next last : ℕ) (u v : List ℕ) → Put slice at u between next → Put between next v after last → at + length (u ++ v) ≤ length slice → Put slice at (u ++ v) after last
put_then slice between after at next last u v p q h =
    let l : length (u ++ v) ≡ length u + length v = length-append u v in
    let n : next ≡ at + length u = put_place slice between at next u p (omega arith) in
    let s : between ≡ sets slice at u = put_stored slice between at next u p (omega arith) in
    let r : next + length v ≤ length between = omega (arith, ap length s, length-sets slice at u) in
    let e : last ≡ at + length (u ++ v) = omega (arith, put_place between after next last v q r) in
    let o : after ≡ sets slice at (u ++ v) =
    put_stored between after next last v q r ∙ ap (λ (w : List ℕ). sets w next v) s ∙ ap (λ (k : ℕ). sets (sets slice at u) k v) n ∙ sets_then slice at u v in
    record {
      place_is = e ∙ place_here (length slice) at (length (u ++ v)) h;
      slice_is = o ∙ sets-eq (u ++ v) slice at h ∙ after_here slice at (u ++ v) h;
    }
