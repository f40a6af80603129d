-- A code in arithmetic: its first byte is of the orientation and the resolution, and the others are the bytes of the position, moved up past the spare bits.
use mathlib.Core.Path.{◌≡◌, sym, ap, ◌∙◌}
use mathlib.Core.List.{List, ◌∷◌, ◌++◌, append_assoc}
use Prim.Native.Nat.{ℕ, suc, ◌+◌, ◌-◌, ◌*◌, ◌/◌, ◌%◌, ◌^◌, ◌<◌, ◌≤◌}
use native.Mathlib.Nat.{add-zero, zero-mod}
use native.Mathlib.Numerals.{one-add}
use native.Mathlib.Omega.{arith}
use lib.ListN.{length, get_or}
use lib.Pow.{shl_exact}
use Rattle.whole.proofs.Powers.{four_by_shift}
use Rattle.code.specs.Codes.{bits_of, bytes_of, code_length, code_bits, code_bytes}
use Rattle.code.proofs.BitLaws.{bits_joined, bits_zero}
use Rattle.code.proofs.ByteLaws.{bytes_front, length_bytes, byte_at}

-- how many bytes the position takes, and how many of their bits are not its own
abbrev pub position_bytes : ℕ → ℕ
position_bytes r = (r + 3) / 4

abbrev pub spare_bits : ℕ → ℕ
spare_bits r = 8 * position_bytes r - 2 * r

pub bits_filled : (r : ℕ) → 2 * r + spare_bits r ≡ 8 * position_bytes r
bits_filled r = omega arith

pub spare_is : (r : ℕ) → 8 * code_length r - (8 + 2 * r) ≡ spare_bits r
unfolding code_length
spare_is r = omega arith

pub code_bits_lem : (o r s : ℕ) → code_bits o r s ≡ bits_of 8 (o * 32 + r % 32) ++ bits_of (8 * position_bytes r) (s * 2 ^ spare_bits r)
unfolding code_bits
code_bits_lem o r s =
    let k = spare_bits r in
    rw (spare_is r, bits_zero k, bits_joined (2 * r) k s 0, bits_filled r, zero-mod, add-zero)
    (sym (append_assoc (bits_of 3 o) (bits_of 5 r) _) ∙ ap (λ (l : List ℕ). l ++ bits_of (8 * position_bytes r) (s * 2 ^ k)) (bits_joined 3 5 o r))

pub code_bytes_lem : (o r s : ℕ)
    → code_bytes o r s ≡ ((o * 32 + r % 32) % 256) ∷ bytes_of (position_bytes r) (bits_of (8 * position_bytes r) (s * 2 ^ spare_bits r))
unfolding code_bytes code_length
code_bytes_lem o r s = rw (one-add, code_bits_lem o r s) (bytes_front (position_bytes r) (o * 32 + r % 32) _)

pub length_code : (o r s : ℕ) → length (code_bytes o r s) ≡ code_length r
unfolding code_bytes
length_code o r s = length_bytes (code_length r) (code_bits o r s)

-- the position's bits fit: there are at most 60 of them, and at most 64 with the spare ones
position_fits : (r s : ℕ) → r ≤ 30 → s < 4 ^ r → s * 2 ^ spare_bits r % 2 ^ 64 ≡ s * 2 ^ spare_bits r
position_fits r s hr hs = shl_exact (2 * r) (spare_bits r) 64 (rw (four_by_shift r) hs) (omega arith)

-- ---- its bytes as the writer has them: at place k, with the counts that it worked out
module _ (o r s k : ℕ) where
  pub first_byte : o ≤ 5 → r ≤ 30 → k ≡ 0 → o * 32 + r ≡ get_or (code_bytes o r s) k 0
  first_byte ho hr e = rw (e, code_bytes_lem o r s) (omega arith)

  pub later_byte : {bytes spare : ℕ} → r ≤ 30 → s < 4 ^ r → (k ≡ 0 → ⊥) → k < code_length r → bytes ≡ position_bytes r → spare ≡ spare_bits r
      → s * 2 ^ spare % 2 ^ 64 / 2 ^ (8 * (bytes - k)) % 256 ≡ get_or (code_bytes o r s) k 0
  unfolding code_length
  later_byte hr hs hk l e f =
      let j = k - 1 in
      let same : k ≡ suc j = omega arith in
      rw (e, f, position_fits r s hr hs, same, code_bytes_lem o r s) (sym (byte_at (position_bytes r) (s * 2 ^ spare_bits r) j (omega arith)))
