-- Parts of a table: what is written to one is read back from it, and every entry outside it stays as it was.
use mathlib.Core.Path.{◌≡◌, refl, sym, ap, ◌∙◌}
use mathlib.Core.Bool.{Bool, true, false}
use mathlib.Core.List.{List, [], ◌++◌, append-nil}
use Prim.Native.Nat.{ℕ, ◌+◌, ◌-◌, ◌*◌, ◌/◌, ◌<◌, ◌≤◌, min}
use native.Mathlib.Nat.{le_refl, min-le_left}
use native.Mathlib.Omega.{arith}
use borrow.Author.Tests.{lt-ltb, le-ltb, ltb-true, ltb-false}
use borrow.Rule.Slice.PartMut.{put_mid}
use lib.Dec.{ltb}
use lib.IntN.{ℤ, pos}
use lib.ListN.{length, get_or, take, drop, length-append, length-take, length-drop, drop_of_length-le, get_or-append}
use lib.Seq.{length-take-le, take_at, drop_at, drop-drop, get_or-take, get_or-drop, get_or-append-add, ext_get_or}
use Rattle.whole.proofs.Fill.{fronted}
use Rattle.whole.proofs.Slices.{all_from}
use Rattle.tables.specs.Parts.{part_of, is_past, with_part}

-- ---- 26, by what the code compares: the room from the start on, in whole states
module _ (size start states : ℕ) where
  pub past_start : size < start → true ≡ is_past size start states
  past_start h = sym (lt-ltb size (start + 41 * states) (omega arith))

  pub past_end : start ≤ size → ltb ((size - start) / 41) states ≡ is_past size start states
  past_end h = go (ltb ((size - start) / 41) states) refl
    where
      go : (b : Bool) → ltb ((size - start) / 41) states ≡ b → b ≡ is_past size start states
      go true e = sym (lt-ltb size (start + 41 * states) (omega (arith, ltb-true ((size - start) / 41) states e)))
      go false e = sym (le-ltb size (start + 41 * states) (omega (arith, ltb-false ((size - start) / 41) states e)))

pub ruleset by_past = (past_start, past_end)

-- ---- a part depends on its own entries alone
abbrev at : List ℤ → ℕ → ℤ
at t i = get_or t i (pos 0)

pub part_same : (t u : List ℤ) (start states : ℕ) → length t ≡ length u → ((i : ℕ) → start ≤ i → i < start + 41 * states → get_or t i (pos 0) ≡ get_or u i (pos 0))
    → part_of t start states ≡ part_of u start states
part_same t u start states long same =
    ext_get_or (pos 0) (part_of t start states) (part_of u start states) (size t ∙ ap (λ n. min (41 * states) (n - start)) long ∙ sym (size u))
    (λ i h.
    let k : i < 41 * states = omega (arith, h, size t, min-le_left (41 * states) (length t - start)) in
    entry t i k ∙ same (start + i) (omega arith) (omega arith) ∙ sym (entry u i k))
  where
    size : (l : List ℤ) → length (part_of l start states) ≡ min (41 * states) (length l - start)
    size l = length-take (41 * states) (drop start l) ∙ ap (min (41 * states)) (length-drop start l)

    entry : (l : List ℤ) (i : ℕ) → i < 41 * states → at (part_of l start states) i ≡ at l (start + i)
    entry l i k = get_or-take (41 * states) (drop start l) i (pos 0) k ∙ get_or-drop start l i (pos 0)

-- ---- a part that is written
module _ (table : List ℤ) (start : ℕ) (numbers : List ℤ) (within : start + length numbers ≤ length table) where
  before : length (take start table) ≡ start
  before = length-take-le start table (omega arith)

  pub with_part_length : length (with_part table start numbers) ≡ length table
  with_part_length = simp (length-append, length-drop) (omega (arith, before))

  pub with_part_back : (states : ℕ) → length numbers ≡ 41 * states → part_of (with_part table start numbers) start states ≡ numbers
  with_part_back states e =
      ap (take (41 * states)) (drop_at (take start table) (numbers ++ drop (start + length numbers) table) start before)
      ∙ take_at numbers (drop (start + length numbers) table) (41 * states) e

  -- an entry before it, in it and past it
  pub before_part : (i : ℕ) → i < start → get_or (with_part table start numbers) i (pos 0) ≡ get_or table i (pos 0)
  before_part i h =
      get_or-append (take start table) (numbers ++ drop (start + length numbers) table) (pos 0) i (omega (arith, before))
      ∙ get_or-take start table i (pos 0) h

  behind : (i : ℕ) → start ≤ i → at (with_part table start numbers) i ≡ at (numbers ++ drop (start + length numbers) table) (i - start)
  behind i h =
      let e : length (take start table) + (i - start) ≡ i = omega (arith, before) in
      ap (at (with_part table start numbers)) (sym e) ∙ get_or-append-add (take start table) (numbers ++ drop (start + length numbers) table) (i - start) (pos 0)

  pub in_part : (i : ℕ) → start ≤ i → i < start + length numbers → get_or (with_part table start numbers) i (pos 0) ≡ get_or numbers (i - start) (pos 0)
  in_part i h k = behind i h ∙ get_or-append numbers (drop (start + length numbers) table) (pos 0) (i - start) (omega arith)

  pub past_part : (i : ℕ) → start + length numbers ≤ i → get_or (with_part table start numbers) i (pos 0) ≡ get_or table i (pos 0)
  past_part i h =
      let e : length numbers + (i - start - length numbers) ≡ i - start = omega arith in
      let f : start + length numbers + (i - start - length numbers) ≡ i = omega arith in
      behind i (omega arith)
      ∙ ap (at (numbers ++ drop (start + length numbers) table)) (sym e)
      ∙ get_or-append-add numbers (drop (start + length numbers) table) (i - start - length numbers) (pos 0)
      ∙ get_or-drop (start + length numbers) table (i - start - length numbers) (pos 0)
      ∙ ap (at table) f

  -- what was lent from the start on came back with the numbers at its front
  pub part_put : {last : List ℤ} → last ≡ fronted numbers (take (length table - start) (drop start table)) → put_mid start (length table - start) table last ≡ with_part table start numbers
  part_put e =
      let none : drop (length table - start) (drop start table) ≡ [] = drop_of_length-le (drop start table) {i = length table - start} (rw length-drop (le_refl _)) in
      rw (e, all_from table start, none, drop-drop, append-nil) refl
