-- A code has one spelling: what is read without the mark is the code that a writer writes of it, so two byte lists that are such codes from their first byte to their last say the same exactly when they are the same.
use mathlib.Core.Path.{◌≡◌, refl, sym, ap, ap₂, ◌∙◌}
use mathlib.Core.Bool.{false}
use mathlib.Core.List.{List, [], ◌∷◌}
use mathlib.Core.Logic.{◌↔◌}
use Prim.Native.Nat.{ℕ, zero, suc, ◌+◌, ◌*◌, ◌/◌, ◌%◌, ◌^◌, ◌≤◌, ◌<◌}
use native.Mathlib.Nat.{mod-eq_of_lt, add-zero}
use native.Mathlib.Numerals.{one-add}
use native.Mathlib.Omega.{arith}
use lib.Dec.{ltb, lit<}
use lib.ListN.{length, take, drop, get_or}
use lib.Pow.{split}
use lib.Seq.{length-take-le, take-length}
use borrow.Author.Tests.{ltb-false}
use Rattle.triple.specs.declared.refusal.Refusal.TheVariants as Is
use Rattle.triple.specs.Refusals.{told}
use Rattle.triple.specs.Domain.{greatest_resolution, greatest_orientation}
use Rattle.triple.specs.Orientations.{is_backward}
use Rattle.triple.proofs.OrientationLaws.{place_small}
use Rattle.triple.proofs.RefusalLaws.{never, passed, stepped}
use Rattle.code.specs.declared.Reading.{Reading}
use Rattle.code.specs.Codes.{bits_of, value_of, bytes_of, all_bits, code_length, code_bytes, forward_of, reading_of, code_of, spare_of, loose_of, read_of, Bytes}
use Rattle.code.proofs.BitLaws.{bits_low, value_whole}
use Rattle.code.proofs.ByteLaws.{number, all_bits_lem, bytes_front}
use Rattle.code.proofs.CodeLaws.{position_bytes, spare_bits, code_bytes_lem}
use Rattle.code.proofs.ReadLaws.{from_first, read_empty, read_first, position_read, position_below}
use Rattle.code.proofs.TurnLaws.{forward_good, forward_written, reading_current}
use Rattle.code.proofs.RoundTrip.{coding}
use Rattle.code.proofs.SpareLaws.{spare_joined}

-- ---- bytes, out of their bits
small_take : (n : ℕ) (bytes : List ℕ) → Bytes bytes → Bytes (take n bytes)
small_take zero bytes small k = lit< tt
small_take (suc n) [] small k = lit< tt
small_take (suc n) (b ∷ bytes) small zero = small 0
small_take (suc n) (b ∷ bytes) small (suc k) = small_take n bytes (λ j. small (suc j)) k

bytes_back : (bytes : List ℕ) → Bytes bytes → bytes_of (length bytes) (all_bits bytes) ≡ bytes
unfolding bytes_of all_bits
bytes_back [] small = refl
bytes_back (b ∷ bytes) small =
    bytes_front (length bytes) b (all_bits bytes)
    ∙ ap₂ (λ (x : ℕ) (l : List ℕ). x ∷ l) (mod-eq_of_lt (small 0)) (bytes_back bytes (λ k. small (suc k)))

bits_back : (bytes : List ℕ) → bits_of (8 * length bytes) (value_of (all_bits bytes)) ≡ all_bits bytes
bits_back bytes =
    let n = 8 * length bytes in
    ap (bits_of n) (ap value_of (all_bits_lem bytes) ∙ value_whole n (number bytes)) ∙ bits_low n (number bytes) ∙ sym (all_bits_lem bytes)

first_back : (b : ℕ) → b < 256 → (b / 32 * 32 + b % 32 % 32) % 256 ≡ b
first_back b h =
    let e : b % 32 % 32 ≡ b % 32 = omega arith in
    let f : b / 32 * 32 + b % 32 ≡ b = omega arith in
    rw (e, f) (mod-eq_of_lt h)

-- ---- a code that no spare bit is set in
module _ (b : ℕ) (rest : List ℕ) (small : Bytes (b ∷ rest)) (long : position_bytes (b % 32) ≤ length rest) where
  abbrev r : ℕ
  r = b % 32

  abbrev s : ℕ
  s = value_of (take (2 * r) (all_bits rest))

  abbrev front : List ℕ
  front = take (position_bytes r) rest

  spelled : spare_of r (b ∷ rest) ≡ 0 → code_bytes (b / 32) r s ≡ b ∷ front
  spelled clear =
      let k = spare_bits r in
      let n = position_bytes r in
      let v = value_of (all_bits front) in
      let sized : length front ≡ n = length-take-le n rest long in
      let moved : s * 2 ^ k ≡ v =
      ap (λ (x : ℕ). x * 2 ^ k) (sym (position_read r rest long))
      ∙ sym (add-zero _) ∙ ap (λ (x : ℕ). v / 2 ^ k * 2 ^ k + x) (sym (spare_joined r b rest long ∙ clear)) ∙ split v k in
      let back : bytes_of n (bits_of (8 * n) v) ≡ front =
      ap (λ (j : ℕ). bytes_of j (bits_of (8 * j) v)) (sym sized) ∙ ap (bytes_of (length front)) (bits_back front) ∙ bytes_back front (small_take n rest (λ k. small (suc k))) in
      code_bytes_lem (b / 32) r s ∙ ap₂ (λ (x : ℕ) (l : List ℕ). x ∷ l) (first_back b (small 0)) (ap (λ (x : ℕ). bytes_of n (bits_of (8 * n) x)) moved ∙ back)

-- ---- what is read is what a code says, and that code's bytes are there
-- the orientation and the position of the code itself
abbrev pub own_orientation : List ℕ → ℕ
own_orientation bytes = get_or bytes 0 0 / 32

abbrev pub own_position : List ℕ → ℕ
own_position bytes = value_of (take (2 * (get_or bytes 0 0 % 32)) (all_bits (drop 1 bytes)))

pub record Spelled (bytes : List ℕ) (x : Reading) : Type 0 where
  pub oriented : own_orientation bytes ≤ 5
  pub shallow : x.resolution ≤ 30
  pub below : own_position bytes < 4 ^ x.resolution
  pub says : x ≡ reading_of (own_orientation bytes) x.resolution (own_position bytes)
  pub spelling : spare_of x.resolution bytes ≡ 0 → code_bytes (own_orientation bytes) x.resolution (own_position bytes) ≡ take x.used bytes

first_spelled : (b : ℕ) (rest : List ℕ) → Bytes (b ∷ rest) → {x : Reading} → from_first b (b ∷ rest) ≡ told x → Spelled (b ∷ rest) x
unfolding from_first code_length reading_of
first_spelled b rest small {x} p =
    let shallow = passed (ltb greatest_resolution (b % 32)) Is.Resolution p in
    let oriented = passed (ltb greatest_orientation (b / 32)) Is.Orientation shallow.1 in
    let whole = passed (ltb (suc (length rest)) (code_length (b % 32))) Is.Code oriented.1 in
    let is : reading_of (b / 32) (b % 32) (own_position (b ∷ rest)) ≡ x = cc whole.1 in
    let l : code_length (b % 32) ≤ suc (length rest) = ltb-false (suc (length rest)) (code_length (b % 32)) whole.0 in
    let long : position_bytes (b % 32) ≤ length rest = omega arith in
    rw (← is)
    record {
      oriented = ltb-false 5 (b / 32) oriented.0;
      shallow = ltb-false 30 (b % 32) shallow.0;
      below = position_below (b % 32) rest long;
      says = refl;
      spelling = λ clear. rw (one-add (position_bytes (b % 32))) (spelled b rest small long clear);
    }

pub loose_spelled : (bytes : List ℕ) → Bytes bytes → {x : Reading} → loose_of bytes ≡ told x → Spelled bytes x
loose_spelled [] small p = never (read_empty [] refl ∙ p)
loose_spelled (b ∷ rest) small p = first_spelled b rest small (read_first (b ∷ rest) (λ z. omega (arith, z)) (small 0) ∙ p)

-- what is read is read loosely too, and no spare bit is set
pub read_loosely : (bytes : List ℕ) {x : Reading} → read_of bytes ≡ told x → (loose_of bytes ≡ told x) × (spare_of x.resolution bytes ≡ 0)
unfolding read_of
read_loosely bytes {x} p =
    let l = stepped (loose_of bytes) p in
    let clear = passed (ltb 0 (spare_of l.0.resolution bytes)) Is.Spare l.2 in
    let same : l.0 ≡ x = cc clear.1 in
    rw (← same) (l.1, omega (arith, ltb-false 0 (spare_of l.0.resolution bytes) clear.0))

-- what it says can be written
pub loose_writes : (bytes : List ℕ) → Bytes bytes → {x : Reading} → loose_of bytes ≡ told x → code_of x.orientation x.resolution x.s ≡ told (code_bytes x.orientation x.resolution x.s)
unfolding reading_of
loose_writes bytes small {x} p =
    let e = loose_spelled bytes small p in
    let o = own_orientation bytes in
    rw e.says (coding (forward_of o) x.resolution _ (forward_good o e.oriented) e.shallow (forward_written o e.oriented) (place_small o x.resolution (own_position bytes) e.below))

-- ---- without the mark it is the code that its values are written as
pub read_spelling : (bytes : List ℕ) → Bytes bytes → {x : Reading} → read_of bytes ≡ told x → x.old ≡ false → code_bytes x.orientation x.resolution x.s ≡ take x.used bytes
unfolding reading_of
read_spelling bytes small {x} p unmarked =
    let l = read_loosely bytes p in
    let e = loose_spelled bytes small l.0 in
    let o = own_orientation bytes in
    let current : is_backward o ≡ false = sym (ap (λ (y : Reading). y.old) e.says) ∙ unmarked in
    let is = e.says ∙ reading_current o x.resolution (own_position bytes) e.oriented current in
    ap₂ (λ (p q : ℕ). code_bytes p x.resolution q) (ap (λ (y : Reading). y.orientation) is) (ap (λ (y : Reading). y.s) is) ∙ e.spelling l.1

-- two byte lists that are read so, and used to their last byte
pub codes_canonical : (a b : List ℕ) {x y : Reading} → Bytes a → Bytes b → read_of a ≡ told x → read_of b ≡ told y → x.old ≡ false → y.old ≡ false → x.used ≡ length a → y.used ≡ length b
    → ((x.orientation ≡ y.orientation) × (x.resolution ≡ y.resolution) × (x.s ≡ y.s)) ↔ (a ≡ b)
codes_canonical a b {x} {y} sa sb p q ma mb ea eb =
    let m : code_bytes x.orientation x.resolution x.s ≡ a = read_spelling a sa p ma ∙ ap (λ (n : ℕ). take n a) ea ∙ take-length a in
    let n : code_bytes y.orientation y.resolution y.s ≡ b = read_spelling b sb q mb ∙ ap (λ (n : ℕ). take n b) eb ∙ take-length b in (
      (λ e. sym m ∙ rw (e.0, e.1, e.2) n),
      (λ e. let same : x ≡ y = cc (p, q, e) in (ap (λ (z : Reading). z.orientation) same, ap (λ (z : Reading). z.resolution) same, ap (λ (z : Reading). z.s) same)),
    )
