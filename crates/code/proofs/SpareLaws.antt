-- The spare bits of a code: they are the last ones of its last byte, and the low ones of the number that the bytes after the first write. What a reader answers by them.
use mathlib.Core.Path.{◌≡◌, refl, sym, ap, ◌∙◌}
use mathlib.Core.List.{List, ◌∷◌, ◌++◌, append_assoc}
use Prim.Native.Nat.{ℕ, suc, ◌+◌, ◌-◌, ◌*◌, ◌/◌, ◌%◌, ◌^◌, ◌≤◌, ◌<◌}
use native.Mathlib.Nat.{one-mul}
use native.Mathlib.Omega.{arith}
use lib.Dec.{ltb, eqb, lit<}
use lib.ListN.{length, take, drop, get_or, take-append-drop, length-append}
use lib.Pow.{shl_exact, pow_pos, mod-mod-pow}
use lib.Seq.{drop_at, drop-drop, length-take-le, split_at}
use borrow.Author.Tests.{le-ltb, lt-ltb, ltb-false}
use Rattle.std.specs.Prelude.{Ok, Err, Result}
use Rattle.triple.specs.declared.refusal.Refusal.{Refusal}
use Rattle.triple.specs.declared.refusal.Refusal.TheVariants as Is
use Rattle.triple.specs.Refusals.{told, refused, number_of, said}
use Rattle.triple.specs.Domain.{greatest_resolution, greatest_orientation}
use Rattle.triple.proofs.RefusalLaws.{passed}
use Rattle.code.specs.declared.Reading.{Reading}
use Rattle.code.specs.Codes.{bits_of, value_of, all_bits, code_length, reading_of, spare_of, loose_of, read_of}
use Rattle.code.proofs.BitLaws.{length_bits, bits_split, value_whole, value_front}
use Rattle.code.proofs.ByteLaws.{number, all_bits_lem, all_bits_append}
use Rattle.code.proofs.CodeLaws.{position_bytes, spare_bits, spare_is, bits_filled}

-- ---- as the low bits of the last byte
length_all_bits : (bytes : List ℕ) → length (all_bits bytes) ≡ 8 * length bytes
length_all_bits bytes = ap length (all_bits_lem bytes) ∙ length_bits (8 * length bytes) (number bytes)

spare_last : (r : ℕ) (bytes : List ℕ) → code_length r ≤ length bytes → get_or bytes (position_bytes r) 0 % 2 ^ spare_bits r ≡ spare_of r bytes
unfolding code_length spare_of all_bits
spare_last r bytes long =
    let n = position_bytes r in
    let k = spare_bits r in
    let b = get_or bytes n 0 in
    let front = take n bytes in
    let back = drop (suc n) bytes in
    let own = all_bits front ++ bits_of (8 - k) (b / 2 ^ k) in
    let eight : 8 - k + k ≡ 8 = omega arith in
    let byte : bits_of 8 b ≡ bits_of (8 - k) (b / 2 ^ k) ++ bits_of k b = ap (λ (j : ℕ). bits_of j b) (sym eight) ∙ bits_split (8 - k) k b in
    let laid : all_bits bytes ≡ own ++ (bits_of k b ++ all_bits back) =
    ap all_bits (split_at bytes n 0 (omega arith)) ∙ all_bits_append front (b ∷ back) ∙ (rw byte (simp append_assoc)) in
    let size : length own ≡ 8 + 2 * r =
    length-append (all_bits front) (bits_of (8 - k) (b / 2 ^ k))
    ∙ (rw (length_all_bits front, length_bits (8 - k) (b / 2 ^ k), length-take-le n bytes (omega arith)) (omega arith)) in
    rw (spare_is r, laid, drop_at own (bits_of k b ++ all_bits back) (8 + 2 * r) size) (sym (value_front k b (all_bits back)))

-- with the counts that the code has worked out
module _ (r : ℕ) {k : ℕ} (k_is : k ≡ spare_bits r) where
  size_fits : 1 * 2 ^ k % 2 ^ 8 ≡ 2 ^ spare_bits r
  size_fits = rw k_is (shl_exact 1 (spare_bits r) 8 (lit< tt) (omega arith) ∙ one-mul (2 ^ spare_bits r))

  pub some_size : 0 < 1 * 2 ^ k % 2 ^ 8
  some_size = rw size_fits (pow_pos (spare_bits r))

  pub last_spare : (bytes : List ℕ) {n : ℕ} → n ≡ position_bytes r → code_length r ≤ length bytes → get_or bytes n 0 % (1 * 2 ^ k % 2 ^ 8) ≡ spare_of r bytes
  last_spare bytes n_is long = rw (size_fits, n_is) (spare_last r bytes long)

pub last_within : (r : ℕ) (bytes : List ℕ) {n : ℕ} → n ≡ position_bytes r → code_length r ≤ length bytes → n < length bytes
unfolding code_length
last_within r bytes n_is long = omega arith

pub ruleset sparing = (some_size, last_within, last_spare)

-- ---- as the low bits of a number
pub spare_joined : (r b : ℕ) (rest : List ℕ) → position_bytes r ≤ length rest
    → value_of (all_bits (take (position_bytes r) rest)) % 2 ^ spare_bits r ≡ spare_of r (b ∷ rest)
unfolding spare_of all_bits
spare_joined r b rest h =
    let k = spare_bits r in
    let front = take (position_bytes r) rest in
    let back = drop (position_bytes r) rest in
    let m = number front in
    let long : 8 * length front ≡ 2 * r + k = ap (λ (j : ℕ). 8 * j) (length-take-le (position_bytes r) rest h) ∙ sym (bits_filled r) in
    let e : all_bits front ≡ bits_of (2 * r + k) m = all_bits_lem front ∙ ap (λ (j : ℕ). bits_of j m) long in
    let f : all_bits rest ≡ bits_of (2 * r) (m / 2 ^ k) ++ (bits_of k m ++ all_bits back) =
    ap all_bits (sym (take-append-drop (position_bytes r) rest)) ∙ all_bits_append front back
    ∙ (rw (e, bits_split (2 * r) k m) (append_assoc (bits_of (2 * r) (m / 2 ^ k)) (bits_of k m) (all_bits back))) in
    let g : drop (8 + 2 * r) (bits_of 8 b ++ all_bits rest) ≡ bits_of k m ++ all_bits back =
    sym (drop-drop (2 * r) 8 (bits_of 8 b ++ all_bits rest))
    ∙ ap (drop (2 * r)) (drop_at (bits_of 8 b) (all_bits rest) 8 (length_bits 8 b) ∙ f)
    ∙ drop_at (bits_of (2 * r) (m / 2 ^ k)) (bits_of k m ++ all_bits back) (2 * r) (length_bits (2 * r) (m / 2 ^ k)) in
    rw (spare_is r, g)
    (ap (λ (l : List ℕ). value_of l % 2 ^ k) e ∙ ap (λ (v : ℕ). v % 2 ^ k) (value_whole (2 * r + k) m) ∙ mod-mod-pow m (2 * r) k
    ∙ sym (value_front k m (all_bits back)))

-- ---- what is read stands there
pub record Sized (bytes : List ℕ) (x : Reading) : Type 0 where
  pub shallow : x.resolution ≤ greatest_resolution
  pub whole : code_length x.resolution ≤ length bytes
  pub count : x.used ≡ code_length x.resolution

pub loose_sized : (bytes : List ℕ) {x : Reading} → loose_of bytes ≡ told x → Sized bytes x
unfolding loose_of reading_of
loose_sized bytes {x} p =
    let o = value_of (take 3 (all_bits bytes)) in
    let r = value_of (take 5 (drop 3 (all_bits bytes))) in
    let some = passed (eqb (length bytes) 0) Is.Code p in
    let shallow = passed (ltb greatest_resolution r) Is.Resolution some.1 in
    let oriented = passed (ltb greatest_orientation o) Is.Orientation shallow.1 in
    let whole = passed (ltb (length bytes) (code_length r)) Is.Code oriented.1 in
    let is : reading_of o r (value_of (take (2 * r) (drop 8 (all_bits bytes)))) ≡ x = cc whole.1 in
    rw (← is) record { shallow = ltb-false 30 r shallow.0; whole = ltb-false (length bytes) (code_length r) whole.0; count = refl }

-- ---- the reader's answers, from what it has in hand
module _ (bytes : List ℕ) {a : Result Reading Refusal} (ea : said a ≡ loose_of bytes) where
  pub loose_refused : {e : Refusal} → a ≡ Err e → refused (number_of e) ≡ read_of bytes
  unfolding read_of
  loose_refused m = rw (← ea, m)

  module _ (x : Reading) (m : a ≡ Ok x) where
    given : told x ≡ loose_of bytes
    given = sym (ap said m) ∙ ea

    pub loose_shallow : x.resolution ≤ 30
    loose_shallow = (loose_sized bytes (sym given)).shallow

    pub loose_whole : code_length x.resolution ≤ length bytes
    loose_whole = (loose_sized bytes (sym given)).whole

    pub read_spare : {n : ℕ} → n ≡ spare_of x.resolution bytes → 0 < n → refused (number_of Is.Spare) ≡ read_of bytes
    unfolding read_of
    read_spare e h = rw (← given) (simp (lt-ltb _ _ (rw e at h)))

    pub read_sound : {n : ℕ} → n ≡ spare_of x.resolution bytes → n ≤ 0 → told x ≡ read_of bytes
    unfolding read_of
    read_sound e h = rw (← given) (simp (le-ltb _ _ (rw e at h)))

pub ruleset strict = (loose_refused, loose_shallow, loose_whole, read_spare, read_sound)
