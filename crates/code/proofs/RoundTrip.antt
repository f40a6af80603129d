-- What is written is read back: a code's bytes have the code's bits, and the reader cuts them where the writer joined them.
use mathlib.Core.Path.{◌≡◌, sym, ap, ◌∙◌}
use mathlib.Core.Bool.{false}
use mathlib.Core.List.{List, ◌++◌, append_assoc}
use Prim.Native.Nat.{ℕ, ◌+◌, ◌-◌, ◌*◌, ◌%◌, ◌^◌, ◌≤◌, ◌<◌}
use native.Mathlib.Nat.{mod-eq_of_lt, zero-mod}
use native.Mathlib.Omega.{arith}
use lib.Dec.{ltb, leb}
use lib.ListN.{length, take, drop, replicate, length-append}
use lib.Seq.{drop_at, drop-drop}
use borrow.Author.Tests.{le-ltb, lt-leb, ne_eqb, ltb-false, leb-false}
use Rattle.whole.proofs.Powers.{four_by_shift}
use Rattle.triple.specs.declared.refusal.Refusal.TheVariants as Is
use Rattle.triple.specs.Refusals.{told}
use Rattle.triple.specs.Domain.{greatest_resolution, greatest_orientation}
use Rattle.triple.specs.Orientations.{is_backward}
use Rattle.triple.specs.Lent.{count_of, after_call}
use Rattle.triple.proofs.DomainLaws.{domain_in}
use Rattle.triple.proofs.RefusalLaws.{passed}
use Rattle.triple.proofs.LentLaws.{wrote}
use Rattle.code.specs.Codes.{bits_of, value_of, all_bits, code_length, code_bits, code_bytes, reading_of, code_of, spare_of, loose_of, read_of}
use Rattle.code.proofs.BitLaws.{length_bits, bits_zero, value_front}
use Rattle.code.proofs.ByteLaws.{all_bits_append, bits_of_byte, bits_of_bytes}
use Rattle.code.proofs.TurnLaws.{reading_current}
use Rattle.code.proofs.CodeLaws.{code_bits_lem, code_bytes_lem, length_code, position_bytes, spare_bits}

bits_of_code : (o r s : ℕ) → all_bits (code_bytes o r s) ≡ code_bits o r s
bits_of_code o r s =
    rw (code_bytes_lem o r s, code_bits_lem o r s) (bits_of_byte (o * 32 + r % 32) _ (bits_of_bytes (position_bytes r) (s * 2 ^ spare_bits r)))

-- ---- what the reader takes out of a code, whatever follows it
module _ (o r s : ℕ) (rest : List ℕ) where
  abbrev bits : List ℕ
  bits = all_bits (code_bytes o r s ++ rest)

  abbrev behind : List ℕ
  behind = replicate (8 * code_length r - (8 + 2 * r)) 0 ++ all_bits rest

  -- the code's bits, as the writer laid them
  laid : bits ≡ bits_of 3 o ++ (bits_of 5 r ++ (bits_of (2 * r) s ++ behind))
  unfolding code_bits
  laid = rw (all_bits_append (code_bytes o r s) rest, bits_of_code o r s) (simp append_assoc)

  dropped : drop 3 bits ≡ bits_of 5 r ++ (bits_of (2 * r) s ++ behind)
  dropped = rw laid (drop_at (bits_of 3 o) _ 3 (length_bits 3 o))

  orientation_back : o ≤ 5 → value_of (take 3 bits) ≡ o
  orientation_back h = rw laid (value_front 3 o _ ∙ omega arith)

  resolution_back : r ≤ 30 → value_of (take 5 (drop 3 bits)) ≡ r
  resolution_back h = rw dropped (value_front 5 r _ ∙ omega arith)

  later : drop 8 bits ≡ bits_of (2 * r) s ++ behind
  later = sym (drop-drop 5 3 bits) ∙ ap (drop 5) dropped ∙ drop_at (bits_of 5 r) _ 5 (length_bits 5 r)

  position_back : s < 4 ^ r → value_of (take (2 * r) (drop 8 bits)) ≡ s
  position_back h = rw later (value_front (2 * r) s behind ∙ mod-eq_of_lt (rw (four_by_shift r) h))

  spare_back : spare_of r (code_bytes o r s ++ rest) ≡ 0
  unfolding spare_of
  spare_back =
      let k = 8 * code_length r - (8 + 2 * r) in
      let e : drop (8 + 2 * r) bits ≡ bits_of k 0 ++ all_bits rest =
      sym (drop-drop (2 * r) 8 bits) ∙ ap (drop (2 * r)) later ∙ drop_at (bits_of (2 * r) s) behind (2 * r) (length_bits (2 * r) s)
      ∙ ap (λ (l : List ℕ). l ++ all_bits rest) (bits_zero k) in
      rw e (value_front k 0 (all_bits rest) ∙ zero-mod (2 ^ k))

  long : (length (code_bytes o r s ++ rest) ≡ 0 → ⊥) × (code_length r ≤ length (code_bytes o r s ++ rest))
  unfolding code_length
  long = let e = length-append (code_bytes o r s) rest ∙ ap (λ (n : ℕ). n + length rest) (length_code o r s) in (λ z. omega (arith, e, z), omega arith)

  loose_back : o ≤ 5 → r ≤ 30 → s < 4 ^ r
      → loose_of (code_bytes o r s ++ rest) ≡ told (reading_of o r s)
  unfolding loose_of
  loose_back ho hr hs =
      rw (orientation_back ho, resolution_back hr, position_back hs) (simp (ne_eqb _ _ long.0, le-ltb _ _ long.1) (sym (domain_in o r _ hr ho)))

  pub read_back : o ≤ 5 → r ≤ 30 → s < 4 ^ r
      → read_of (code_bytes o r s ++ rest) ≡ told (reading_of o r s)
  unfolding read_of reading_of
  read_back ho hr hs = rw (loose_back ho hr hs, spare_back)

-- ---- over a buffer: what a writer has answered is what a reader finds
-- of what is coded, all tests are passed
pub record Coded (o r s : ℕ) (code : List ℕ) : Type 0 where
  pub shallow : r ≤ 30
  pub oriented : o ≤ 5
  pub current : is_backward o ≡ false
  pub below : s < 4 ^ r
  pub bytes : code ≡ code_bytes o r s

pub coded : (o r s : ℕ) {code : List ℕ} → code_of o r s ≡ told code → Coded o r s code
unfolding code_of
coded o r s p =
    let shallow = passed (ltb greatest_resolution r) Is.Resolution p in
    let oriented = passed (ltb greatest_orientation o) Is.Orientation shallow.1 in
    let current = passed (is_backward o) Is.Retired oriented.1 in
    let named = passed (leb (4 ^ r) s) Is.Position current.1 in
    record {
      shallow = ltb-false 30 r shallow.0;
      oriented = ltb-false 5 o oriented.0;
      current = current.0;
      below = leb-false (4 ^ r) s named.0;
      bytes = cc named.1;
    }

-- and what passes them is coded
pub coding : (o r s : ℕ) → o ≤ 5 → r ≤ 30 → is_backward o ≡ false → s < 4 ^ r → code_of o r s ≡ told (code_bytes o r s)
unfolding code_of
coding o r s ho hr current hs = simp (current, lt-leb (4 ^ r) s hs) (sym (domain_in o r _ hr ho))

-- it is read as it was written, whatever follows it
pub coded_read : (o r s : ℕ) {code : List ℕ} (rest : List ℕ) → code_of o r s ≡ told code → read_of (code ++ rest) ≡ told (record { orientation = o; resolution = r; s = s; used = code_length r; old = false })
coded_read o r s rest p =
    let c = coded o r s p in
    ap (λ (code : List ℕ). read_of (code ++ rest)) c.bytes ∙ read_back o r s rest c.oriented c.shallow c.below ∙ ap told (reading_current o r s c.oriented c.current)

pub written_read_back : (o r s : ℕ) (buffer : List ℕ) (n : ℕ) → count_of (code_of o r s) buffer ≡ told n
    → read_of (after_call (code_of o r s) buffer) ≡ told (record { orientation = o; resolution = r; s = s; used = n; old = false })
written_read_back o r s buffer n p =
    let w = wrote (code_of o r s) buffer p in
    let c = coded o r s w.gave in
    ap read_of w.stored ∙ coded_read o r s (drop n buffer) w.gave
    ∙ ap (λ (k : ℕ). told (record { orientation = o; resolution = r; s = s; used = k; old = false })) (sym (length_code o r s) ∙ ap length (sym c.bytes) ∙ w.count)
