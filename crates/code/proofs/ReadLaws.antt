-- What a reader answers that does not look at spare bits, in arithmetic: the first byte tells the orientation and the resolution, and the bytes after it, joined, the position above the spare bits.
use mathlib.Core.Path.{◌≡◌, refl, sym, ap, ◌∙◌}
use mathlib.Core.List.{List, [], ◌∷◌, ◌++◌, append_assoc}
use Prim.Native.Nat.{ℕ, ◌+◌, ◌-◌, ◌*◌, ◌/◌, ◌%◌, ◌^◌, ◌≤◌, ◌<◌}
use native.Mathlib.Nat.{mod-lt}
use native.Mathlib.Omega.{arith}
use lib.Dec.{ltb}
use lib.ListN.{length, take, drop, get_or, take-append-drop, length-take, length-drop}
use mir.Syntax.{w8}
use mir.Val.{Fits}
use lib.Pow.{field, pow_pos}
use lib.Seq.{drop_at, length-take-le}
use borrow.Author.Tests.{le-ltb, lt-ltb, eq-eqb, ne_eqb}
use Rattle.std.specs.Prelude.{Ok, Err, Result}
use Rattle.whole.proofs.Powers.{four_by_shift}
use Rattle.triple.specs.declared.refusal.Refusal.{Refusal}
use Rattle.triple.specs.declared.refusal.Refusal.TheVariants as Is
use Rattle.triple.specs.Refusals.{Told, told, refused, refuse, number_of, said}
use Rattle.triple.specs.Domain.{in_domain, domain_of}
use Rattle.triple.proofs.DomainLaws.{out_of_domain, in_domain_lem, shallow, oriented}
use Rattle.code.specs.declared.Reading.{Reading}
use Rattle.code.specs.Codes.{bits_of, value_of, all_bits, code_length, reading_of, loose_of}
use Rattle.code.proofs.BitLaws.{length_bits, bits_split, value_whole, value_front}
use Rattle.code.proofs.ByteLaws.{number, all_bits_lem, all_bits_append}
use Rattle.code.proofs.CodeLaws.{position_bytes, spare_bits, bits_filled}

-- ---- what the reader takes out of the bits
-- the first byte is the orientation's bits and the resolution's
header : (b : ℕ) (rest : List ℕ) → all_bits (b ∷ rest) ≡ bits_of 3 (b / 32) ++ (bits_of 5 b ++ all_bits rest)
unfolding all_bits
header b rest = ap (λ (l : List ℕ). l ++ all_bits rest) (bits_split 3 5 b) ∙ append_assoc (bits_of 3 (b / 32)) (bits_of 5 b) (all_bits rest)

orientation_read : (b : ℕ) (rest : List ℕ) → b < 256 → value_of (take 3 (all_bits (b ∷ rest))) ≡ b / 32
orientation_read b rest h = rw (header b rest, value_front 3 (b / 32) (bits_of 5 b ++ all_bits rest)) (omega arith)

resolution_read : (b : ℕ) (rest : List ℕ) → value_of (take 5 (drop 3 (all_bits (b ∷ rest)))) ≡ b % 32
resolution_read b rest = rw (header b rest, drop_at (bits_of 3 (b / 32)) (bits_of 5 b ++ all_bits rest) 3 (length_bits 3 (b / 32))) (value_front 5 b (all_bits rest))

-- the first m bits of some, by a shift
front_shifted : (m k n : ℕ) (rest : List ℕ) → value_of (bits_of (m + k) n) / 2 ^ k ≡ value_of (take m (bits_of (m + k) n ++ rest))
front_shifted m k n rest =
    ap (λ (v : ℕ). v / 2 ^ k) (value_whole (m + k) n) ∙ field n m k
    ∙ (rw (bits_split m k n, append_assoc) (sym (value_front m (n / 2 ^ k) (bits_of k n ++ rest))))

pub position_read : (r : ℕ) (rest : List ℕ) → position_bytes r ≤ length rest
    → value_of (all_bits (take (position_bytes r) rest)) / 2 ^ spare_bits r ≡ value_of (take (2 * r) (all_bits rest))
position_read r rest h =
    let front = take (position_bytes r) rest in
    let back = drop (position_bytes r) rest in
    let long : 8 * length front ≡ 2 * r + spare_bits r = ap (λ (j : ℕ). 8 * j) (length-take-le (position_bytes r) rest h) ∙ sym (bits_filled r) in
    let e : all_bits front ≡ bits_of (2 * r + spare_bits r) (number front) = all_bits_lem front ∙ ap (λ (j : ℕ). bits_of j (number front)) long in
    let f : all_bits rest ≡ all_bits front ++ all_bits back = ap all_bits (sym (take-append-drop (position_bytes r) rest)) ∙ all_bits_append front back in
    rw (f, e) (front_shifted (2 * r) (spare_bits r) (number front) (all_bits back))

-- and it is a position
pub position_below : (r : ℕ) (rest : List ℕ) → position_bytes r ≤ length rest → value_of (take (2 * r) (all_bits rest)) < 4 ^ r
position_below r rest h =
    let k = spare_bits r in
    let front = take (position_bytes r) rest in
    let long : 8 * length front ≡ 2 * r + k = ap (λ (j : ℕ). 8 * j) (length-take-le (position_bytes r) rest h) ∙ sym (bits_filled r) in
    let v : value_of (all_bits front) ≡ number front % 2 ^ (2 * r + k) =
    ap value_of (all_bits_lem front) ∙ value_whole (8 * length front) (number front) ∙ ap (λ (j : ℕ). number front % 2 ^ j) long in
    let e : value_of (take (2 * r) (all_bits rest)) ≡ number front / 2 ^ k % 2 ^ (2 * r) =
    sym (position_read r rest h) ∙ ap (λ (x : ℕ). x / 2 ^ k) v ∙ field (number front) (2 * r) k in
    rw (e, ← four_by_shift r) (mod-lt (number front / 2 ^ k) (pow_pos (2 * r)))

-- the position, with the counts that a reader of all the bytes has worked out
position_at : (r : ℕ) (bytes : List ℕ) (used : ℕ) → used ≡ code_length r → used ≤ length bytes → (v spare : ℕ)
    → v ≡ value_of (all_bits (take (used - 1) (drop 1 bytes))) → spare ≡ spare_bits r → v / 2 ^ spare ≡ value_of (take (2 * r) (all_bits (drop 1 bytes)))
unfolding code_length
position_at r bytes used u l v spare e f =
    let n : used - 1 ≡ position_bytes r = omega arith in
    rw (e, f, n) (position_read r (drop 1 bytes) (rw length-drop (omega arith)))

-- ---- the bytes after the first, of a code that takes `used` of them
pub after_first : (r : ℕ) {used : ℕ} → used ≡ code_length r → 1 ≤ used
unfolding code_length
after_first r e = omega arith

pub few_bytes : (bytes : List ℕ) (r : ℕ) {used : ℕ} → used ≡ code_length r → (o : ℕ) {a : Result Unit Refusal} → said a ≡ domain_of o r → a ≡ (Ok tt) → length (take (used - 1) (drop 1 bytes)) ≤ 8
unfolding code_length
few_bytes bytes r e o ea m = simp (length-take, length-drop) (omega (arith, shallow o r _ ea m))

-- ---- its answers, from what it has in hand
-- the tests after the first, by the first byte
unfoldable pub from_first : ℕ → List ℕ → Told Reading
from_first b bytes =
    in_domain (b / 32) (b % 32)
    (refuse (ltb (length bytes) (code_length (b % 32))) Is.Code
    (told (reading_of (b / 32) (b % 32) (value_of (take (2 * (b % 32)) (all_bits (drop 1 bytes)))))))

pub read_first : (bytes : List ℕ) → (length bytes ≡ 0 → ⊥) → get_or bytes 0 0 < 256 → from_first (get_or bytes 0 0) bytes ≡ loose_of bytes
unfolding loose_of from_first all_bits
read_first [] some small = absurd (some refl)
read_first (b ∷ rest) some small =
    rw (ne_eqb _ _ some, orientation_read b rest small, resolution_read b rest, drop_at (bits_of 8 b) (all_bits rest) 8 (length_bits 8 b))

module _ (bytes : List ℕ) where
  pub read_empty : length bytes ≡ 0 → refused (number_of Is.Code) ≡ loose_of bytes
  unfolding loose_of
  read_empty h = simp (eq-eqb _ _ h)

  module _ (some : length bytes ≡ 0 → ⊥) (small : (i : ℕ) → Fits w8 (get_or bytes i 0)) {a : Result Unit Refusal} (ea : said a ≡ domain_of (get_or bytes 0 0 / 32) (get_or bytes 0 0 % 32)) where
    pub read_outside : {e : Refusal} → a ≡ Err e → refused (number_of e) ≡ loose_of bytes
    unfolding from_first
    read_outside m = out_of_domain (get_or bytes 0 0 / 32) (get_or bytes 0 0 % 32) a ea _ m ∙ read_first bytes some (small 0).fits

    module _ (m : a ≡ (Ok tt)) {used : ℕ} (length_is : used ≡ code_length (get_or bytes 0 0 % 32)) where
      pub read_cut : length bytes < used → refused (number_of Is.Code) ≡ loose_of bytes
      unfolding from_first
      read_cut l = simp (lt-ltb _ _ (rw length_is at l)) (in_domain_lem (get_or bytes 0 0 / 32) (get_or bytes 0 0 % 32) a ea m _) ∙ read_first bytes some (small 0).fits

      pub read_whole : used ≤ length bytes → {v spare : ℕ} → v ≡ value_of (all_bits (take (used - 1) (drop 1 bytes))) → spare ≡ spare_bits (get_or bytes 0 0 % 32)
          → {x : Reading} → x ≡ reading_of (get_or bytes 0 0 / 32) (get_or bytes 0 0 % 32) (v / 2 ^ spare) → told x ≡ loose_of bytes
      unfolding from_first
      read_whole l e f x_is =
          ap told (x_is ∙ ap (reading_of (get_or bytes 0 0 / 32) (get_or bytes 0 0 % 32)) (position_at (get_or bytes 0 0 % 32) bytes used length_is l _ _ e f))
          ∙ simp (le-ltb _ _ (rw length_is at l)) (in_domain_lem (get_or bytes 0 0 / 32) (get_or bytes 0 0 % 32) a ea m _)
          ∙ read_first bytes some (small 0).fits

pub ruleset reading = (shallow, oriented, after_first, few_bytes, read_empty, read_outside, read_cut, read_whole)
