-- The reader looks at no byte behind the ninth: the first nine bytes of a list, or more of them, read as the list does.
use mathlib.Core.Path.{◌≡◌, refl, sym, ap, ◌∙◌}
use mathlib.Core.Bool.{Bool, true, false}
use mathlib.Core.List.{List, [], ◌∷◌, ◌++◌}
use Prim.Native.Nat.{ℕ, zero, suc, ◌+◌, ◌-◌, ◌*◌, ◌≤◌}
use native.Mathlib.Omega.{arith}
use native.Mathlib.Decide.{dec_lt}
use lib.Dec.{ltb, eqb}
use lib.ListN.{length, take, drop, length-take}
use lib.Seq.{take-append-add, take-take, take-nil}
use borrow.Author.Tests.{lt-ltb, le-ltb, eq-eqb, ne_eqb, ltb-false}
use Rattle.whole.proofs.Slices.{drop_take}
use Rattle.triple.specs.declared.refusal.Refusal.TheVariants as Is
use Rattle.triple.specs.Refusals.{Told, told, refused, refuse, ◌>>=◌}
use Rattle.triple.specs.Domain.{greatest_resolution}
use Rattle.code.specs.declared.Reading.{Reading}
use Rattle.code.specs.Codes.{bits_of, value_of, all_bits, code_length, reading_of, spare_of, loose_of, read_of}
use Rattle.code.proofs.BitLaws.{length_bits}
use Rattle.code.proofs.Canonical.{read_loosely}
use Rattle.code.proofs.SpareLaws.{loose_sized}

-- ---- bits of the first n bytes
bits_front : (n : ℕ) (bytes : List ℕ) → all_bits (take n bytes) ≡ take (8 * n) (all_bits bytes)
unfolding all_bits
bits_front zero bytes = refl
bits_front (suc n) [] = sym (take-nil (8 * suc n))
bits_front (suc n) (b ∷ bytes) =
    let size : length (bits_of 8 b) + 8 * n ≡ 8 * suc n = omega (arith, length_bits 8 b) in
    ap (λ (l : List ℕ). bits_of 8 b ++ l) (bits_front n bytes)
    ∙ sym (take-append-add (bits_of 8 b) (all_bits bytes) (8 * n)) ∙ ap (λ (k : ℕ). take k (bits_of 8 b ++ all_bits bytes)) size

-- some of them
part_front : (n j k : ℕ) (bytes : List ℕ) → j + k ≤ 8 * n → take k (drop j (all_bits (take n bytes))) ≡ take k (drop j (all_bits bytes))
part_front n j k bytes h =
    ap (λ (l : List ℕ). take k (drop j l)) (bits_front n bytes) ∙ ap (take k) (drop_take (8 * n) j (all_bits bytes)) ∙ take-take k (8 * n - j) (drop j (all_bits bytes)) (omega arith)

-- ---- the reader
module _ (n : ℕ) (bytes : List ℕ) (nine : 9 ≤ n) where
  abbrev o : ℕ
  o = value_of (take 3 (all_bits bytes))

  abbrev r : ℕ
  r = value_of (take 5 (drop 3 (all_bits bytes)))

  o_same : value_of (take 3 (all_bits (take n bytes))) ≡ o
  o_same = ap value_of (part_front n 0 3 bytes (omega arith))

  r_same : value_of (take 5 (drop 3 (all_bits (take n bytes)))) ≡ r
  r_same = ap value_of (part_front n 3 5 bytes (omega arith))

  empty_same : eqb (length (take n bytes)) 0 ≡ eqb (length bytes) 0
  empty_same =
      let l = length-take n bytes in
      elim (dec_lt 0 (length bytes)) [
        | yes h ↦
            ne_eqb (length (take n bytes)) 0 (λ z. (let none : ⊥ = omega (arith, l, z) in absurd none))
            ∙ sym (ne_eqb (length bytes) 0 (λ z. (let none : ⊥ = omega (arith, z) in absurd none)))
        | no h ↦ eq-eqb (length (take n bytes)) 0 (omega (arith, l)) ∙ sym (eq-eqb (length bytes) 0 (omega arith))
      ]

  cut_same : (k : ℕ) → k ≤ 9 → ltb (length (take n bytes)) k ≡ ltb (length bytes) k
  cut_same k few =
      let l = length-take n bytes in
      elim (dec_lt (length bytes) k) [
        | yes h ↦ lt-ltb (length (take n bytes)) k (omega (arith, l)) ∙ sym (lt-ltb (length bytes) k h)
        | no h ↦ le-ltb (length (take n bytes)) k (omega (arith, l)) ∙ sym (le-ltb (length bytes) k (omega arith))
      ]

  short : (m : ℕ) → m ≤ 30 → code_length m ≤ 9
  unfolding code_length
  short m h = omega arith

  pub loose_same : loose_of (take n bytes) ≡ loose_of bytes
  unfolding loose_of
  loose_same = rw (o_same, r_same, empty_same) (ap (refuse (eqb (length bytes) 0) Is.Code) (by (ltb greatest_resolution r) refl))
    where
      by : (deep : Bool) → ltb greatest_resolution r ≡ deep
          → refuse deep Is.Resolution (refuse (ltb 5 o) Is.Orientation (refuse (ltb (length (take n bytes)) (code_length r)) Is.Code (told (reading_of o r (value_of (take (2 * r) (drop 8 (all_bits (take n bytes)))))))))
          ≡ refuse deep Is.Resolution (refuse (ltb 5 o) Is.Orientation (refuse (ltb (length bytes) (code_length r)) Is.Code (told (reading_of o r (value_of (take (2 * r) (drop 8 (all_bits bytes))))))))
      by true e = refl
      by false e =
          let h : r ≤ 30 = ltb-false 30 r e in
          rw (cut_same (code_length r) (short r h), part_front n 8 (2 * r) bytes (omega arith))

  spare_same : (m : ℕ) → m ≤ 30 → spare_of m (take n bytes) ≡ spare_of m bytes
  unfolding spare_of code_length
  spare_same m h = ap value_of (part_front n (8 + 2 * m) (8 * code_length m - (8 + 2 * m)) bytes (omega arith))

  pub read_same : read_of (take n bytes) ≡ read_of bytes
  unfolding read_of
  read_same = rw loose_same (by (loose_of bytes) refl)
    where
      by : (t : Told Reading) → loose_of bytes ≡ t
          → (t >>= λ x. refuse (ltb 0 (spare_of x.resolution (take n bytes))) Is.Spare (told x)) ≡ (t >>= λ x. refuse (ltb 0 (spare_of x.resolution bytes)) Is.Spare (told x))
      by (told x) e = ap (λ (k : ℕ). refuse (ltb 0 k) Is.Spare (told x)) (spare_same x.resolution (loose_sized bytes e).shallow)
      by (refused k) e = refl

pub read_few : (bytes : List ℕ) {x : Reading} → read_of bytes ≡ told x → x.used ≤ 9
unfolding code_length
read_few bytes e = let l = loose_sized bytes (read_loosely bytes e).0 in omega (arith, l.count, l.shallow)
