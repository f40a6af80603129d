-- A line printed piece by piece, each put where the one before it ends; and a line that was printed aside, put into the buffer that is to have it.
use mathlib.Core.Path.{◌≡◌, refl, sym, ap, ◌∙◌, subst}
use mathlib.Core.Bool.{Bool, true, false, cond}
use mathlib.Core.List.{List, [], ◌∷◌, ◌++◌, append_assoc}
use Prim.Native.Nat.{ℕ, suc, ◌+◌, ◌^◌, ◌≤◌, ◌<◌}
use native.Mathlib.Omega.{arith}
use borrow.Author.Rules.{sfits_of}
use borrow.Author.Tests.{lt-ltb, le-ltb}
use lib.IntN.{ℤ, pos, negsuc}
use lib.Signed.{mag}
use lib.ListN.{length, take, drop, length-append}
use lib.Seq.{sets-eq, take_at, length-take-le}
use mir.Syntax.{w32, w64}
use mir.Val.{to_z, of_z}
use mir.ValLaws.{to_z-of_z}
use Rattle.std.specs.Prelude.{Result, Ok, Err}
use Rattle.triple.specs.declared.Triple.{Triple}
use Rattle.triple.specs.declared.refusal.Refusal.{Refusal}
use Rattle.triple.specs.declared.refusal.Refusal.TheVariants as Is
use Rattle.triple.specs.Refusals.{told, refused, number_of, said}
use Rattle.triple.specs.Lent.{count_of, after_call}
use Rattle.text.specs.Words.{spaced}
use Rattle.text.specs.Decimals.{natural, integer}
use Rattle.text.specs.Puts.{Put}
use Rattle.text.proofs.DecimalLaws.{length_most}
use Rattle.text.proofs.PutLaws.{put_roomy, put_short, put_kept, put_length, put_place, put_stored, put_then}
use Rattle.lsystem.specs.declared.cell.Cell.{Cell}
use Rattle.lsystem.specs.declared.Position.{Position}
use Rattle.curve.specs.declared.PointCell.{PointCell}
use Rattle.curve.specs.Points.{mark_of}
use Rattle.query.specs.declared.Found.{Found}
use Rattle.query.specs.Lines.{triple_words, position_words, found_words}
use Rattle.query.specs.Prints.{found_text}
use Rattle.query.specs.Inside.Printing.{Printed}

-- ---- pieces of a line
first_piece : (most : ℕ) {next : ℕ} {slice piece after : List ℕ} → Put slice 0 piece after next → length piece ≤ most → Printed most slice piece after next
first_piece most p h = record { is_put = p; near = h }

next_piece : (more : ℕ) {most next last : ℕ} {slice text piece between after : List ℕ} → Printed most slice text between next → Put between next piece after last → length piece ≤ more → most + more ≤ length slice → Printed (most + more) slice (text ++ piece) after last
next_piece more {next} {last} {slice} {text} {piece} {between} {after} a b h r =
    let l : length (text ++ piece) ≡ length text + length piece = length-append text piece in
    record {
      is_put = put_then slice between after 0 next last text piece a.is_put b (omega (arith, a.near));
      near = omega (arith, a.near);
    }

-- the same text by another name, or with more room
line_as : {most more next : ℕ} {slice text line after : List ℕ} → Printed most slice text after next → text ≡ line → most ≤ more → Printed more slice line after next
line_as {more} {next} {slice} {after} a e h = subst (λ (w : List ℕ). Printed more slice w after next) e (record { is_put = a.is_put; near = omega (arith, a.near) })

-- ---- how long numbers are
u64_length : (n : ℕ) → n < 2 ^ 64 → length (natural n) ≤ 20
u64_length n h = length_most 19 n (omega arith)

u8_length : (n : ℕ) → n < 2 ^ 8 → length (natural n) ≤ 3
u8_length n h = length_most 2 n (omega arith)

i32_length : (z : ℤ) → mag z < 2 ^ 31 → length (integer z) ≤ 11
unfolding integer
i32_length (pos n) h = omega (arith, length_most 9 n (omega arith))
i32_length (negsuc n) h = omega (arith, length_most 9 (suc n) (omega arith))

-- ---- a triple: each coordinate is handed on as an i64, and read back from its bits
abbrev widened : ℤ → ℤ
widened z = to_z w64 (of_z w64 (to_z w32 (of_z w32 z)))

widened_is : (z : ℤ) → mag z < 2 ^ 31 → widened z ≡ z
widened_is z m =
    let e : to_z w32 (of_z w32 z) ≡ z = to_z-of_z w32 z (sfits_of m) in
    rw e (to_z-of_z w64 z (sfits_of (omega arith)))

module _ (t : Triple) {a b c : ℕ} {slice first second after : List ℕ} where
  pub triple_printed : Put second b (32 ∷ integer (widened t.z)) after c → Put first a (32 ∷ integer (widened t.y)) second b → Put slice 0 (integer (widened t.x)) first a
      → mag t.x < 2 ^ 31 → mag t.y < 2 ^ 31 → mag t.z < 2 ^ 31 → 35 ≤ length slice → Printed 35 slice (spaced (triple_words t [])) after c
  unfolding spaced
  triple_printed r q p mx my mz h =
      let x : Printed 11 slice (integer t.x) first a = first_piece 11 (rw (widened_is t.x mx) at p) (i32_length t.x mx) in
      let y : Printed 23 slice (integer t.x ++ (32 ∷ integer t.y)) second b = next_piece 12 x (rw (widened_is t.y my) at q) (omega (arith, i32_length t.y my)) (omega arith) in
      let z = next_piece 12 y (rw (widened_is t.z mz) at r) (omega (arith, i32_length t.z mz)) (omega arith) in
      line_as z (append_assoc (integer t.x) (32 ∷ integer t.y) (32 ∷ integer t.z)) (omega arith)

-- ---- the lines
triple_then : (t : Triple) (v : List ℕ) (w : List (List ℕ)) → spaced (triple_words t []) ++ (32 ∷ spaced (v ∷ w)) ≡ spaced (triple_words t (v ∷ w))
unfolding spaced
triple_then t v w = simp append_assoc

module _ (found : Found) {e f : ℕ} {slice between after : List ℕ} where
  pub cell_printed : (c : Cell) → found ≡ Found.Cell c → Put between e (32 ∷ natural c.flavor) after f → Printed 35 slice (spaced (triple_words c.triple [])) between e → c.flavor < 2 ^ 8 → 62 ≤ length slice → Printed 62 slice (found_text (told found)) after f
  unfolding found_words spaced
  cell_printed c p a b m h = rw p (line_as (next_piece 4 b a (omega (arith, u8_length c.flavor m)) (omega arith)) (triple_then c.triple (natural c.flavor) []) (omega arith))

  pub position_printed : (p : Position) → found ≡ Found.Position p → Put between e (32 ∷ natural p.flavor) after f → Put slice 0 (natural p.s) between e → p.s < 2 ^ 64 → p.flavor < 2 ^ 8 → 62 ≤ length slice → Printed 62 slice (found_text (told found)) after f
  unfolding found_words spaced
  position_printed p q a b m n h = rw q (line_as (next_piece 4 (first_piece 20 b (u64_length p.s m)) a (omega (arith, u8_length p.flavor n)) (omega arith)) refl (omega arith))

pub found_point : (found : Found) (c : PointCell) (p : Position) → found ≡ Found.Point c p → {f : ℕ} {slice after : List ℕ} → Printed 62 slice (found_text (told (Found.Point c p))) after f → Printed 62 slice (found_text (told found)) after f
found_point found c p q a = rw q a

mark_length : (c : PointCell) → length (natural (mark_of c)) ≤ 1
unfolding mark_of
mark_length c = go c.moved
  where
    go : (b : Bool) → length (natural (cond b 1 0)) ≤ 1
    go true = length_most 0 1 (omega arith)
    go false = length_most 0 0 (omega arith)

pub named_printed : (t : Triple) (p : Position) {d e f : ℕ} {slice first between after : List ℕ} → Put between e (32 ∷ natural p.flavor) after f → Put first d (32 ∷ natural p.s) between e → Printed 35 slice (spaced (triple_words t [])) first d → p.s < 2 ^ 64 → p.flavor < 2 ^ 8 → 60 ≤ length slice
    → Printed 60 slice (spaced (triple_words t (position_words p []))) after f
unfolding spaced
named_printed t p {e} {slice} {between} a b c m n h =
    let s : Printed 56 slice (spaced (triple_words t []) ++ (32 ∷ natural p.s)) between e = next_piece 21 c b (omega (arith, u64_length p.s m)) (omega arith) in
    let l = next_piece 4 s a (omega (arith, u8_length p.flavor n)) (omega arith) in
    line_as l (append_assoc (spaced (triple_words t [])) (32 ∷ natural p.s) (32 ∷ natural p.flavor) ∙ triple_then t (natural p.s) (natural p.flavor ∷ [])) (omega arith)

pub point_printed : (c : PointCell) (p : Position) {mark : ℕ} → mark ≡ mark_of c → {e f : ℕ} {slice between after : List ℕ} → Put between e (32 ∷ natural mark) after f → Printed 60 slice (spaced (triple_words c.triple (position_words p []))) between e → 62 ≤ length slice
    → Printed 62 slice (found_text (told (Found.Point c p))) after f
unfolding found_words spaced
point_printed c p mark_is a b h = line_as (next_piece 2 b (rw mark_is at a) (omega (arith, mark_length c)) (omega arith)) (simp append_assoc) (omega arith)

module _ (answer : Result Found Refusal) {f : ℕ} {slice after : List ℕ} where
  pub found_printed : (found : Found) → answer ≡ Ok found → Printed 62 slice (found_text (told found)) after f → Printed 62 slice (found_text (said answer)) after f
  found_printed found p a = rw p a

  pub refusal_printed : (e : Refusal) → answer ≡ Err e → (n : ℕ) → n ≡ number_of e → {d : ℕ} {between : List ℕ} → Put between d (32 ∷ natural n) after f → Put slice 0 (33 ∷ []) between d → n < 2 ^ 8 → 62 ≤ length slice → Printed 62 slice (found_text (said answer)) after f
  unfolding found_words spaced
  refusal_printed e p n q a b m h =
      let mark = first_piece 1 b (omega arith) in
      rw (p, ← q) (line_as (next_piece 4 mark a (omega (arith, u8_length n m)) (omega arith)) refl (omega arith))

-- ---- a line that was written aside, and the buffer that is to have it
module _ (text zeros aside : List ℕ) (n : ℕ) (w : Printed 62 zeros text aside n) (z : 62 ≤ length zeros) where
  aside_room : 0 + length text ≤ length zeros
  aside_room = omega (arith, w.near)

  aside_length : n ≡ length text
  aside_length = omega (arith, put_place zeros aside 0 n text w.is_put aside_room)

  aside_stored : aside ≡ text ++ drop (0 + length text) zeros
  aside_stored = put_stored zeros aside 0 n text w.is_put aside_room ∙ sets-eq text zeros 0 aside_room

  pub aside_most : n ≤ length aside
  aside_most = omega (arith, aside_length, ap length aside_stored, length-append text (drop (0 + length text) zeros))

  pub aside_counted : length (take n aside) ≡ n
  aside_counted = length-take-le n aside aside_most

  -- e is the place after it in the buffer
  module _ (out after : List ℕ) (e : ℕ) (p : Put out 0 (take n aside) after e) where
    copied : Put out 0 text after e
    copied = rw (aside_stored, take_at text (drop (0 + length text) zeros) n (sym aside_length)) at p

    same : length after ≡ length out
    same = put_length out after 0 e text copied

    module _ (h : length after < e) where
      past : length out < e
      past = omega (arith, same)

      short : length out < length text
      short = omega (arith, put_short out after 0 e text copied past)

      pub refused_answer : refused (number_of Is.Room) ≡ count_of (told text) out
      unfolding count_of
      refused_answer = simp (lt-ltb (length out) (length text) short)

      pub refused_buffer : after ≡ after_call (told text) out
      unfolding count_of after_call
      refused_buffer = put_kept out after 0 e text copied past ∙ simp (lt-ltb (length out) (length text) short)

    module _ (h : e ≤ length after) where
      roomy : 0 + length text ≤ length out
      roomy = put_roomy out after 0 e text copied (omega (arith, same))

      fits : length text ≤ length out
      fits = omega (arith, roomy)

      at_end : e ≡ length text
      at_end = omega (arith, put_place out after 0 e text copied roomy)

      pub told_answer : told e ≡ count_of (told text) out
      unfolding count_of
      told_answer = ap told at_end ∙ simp (le-ltb (length out) (length text) fits)

      pub told_buffer : after ≡ after_call (told text) out
      unfolding count_of after_call
      told_buffer =
          let q : 0 + length text ≡ length text = omega arith in
          put_stored out after 0 e text copied roomy ∙ sets-eq text out 0 roomy ∙ simp (q, le-ltb (length out) (length text) fits)

pub ruleset print_laws = (aside_most, aside_counted, refused_answer, refused_buffer, told_answer, told_buffer)
