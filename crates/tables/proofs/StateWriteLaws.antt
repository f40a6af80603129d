-- The states written one after the other, each into its own part of the table, in the form of what the code has in hand.
use mathlib.Core.Path.{◌≡◌, refl, sym, ap, ◌∙◌}
use mathlib.Core.Bool.{true, false}
use mathlib.Core.List.{List, ◌++◌, append_assoc}
use Prim.Native.Nat.{ℕ, zero, suc, ◌+◌, ◌*◌, ◌/◌, ◌%◌, ◌-◌, ◌<◌, ◌≤◌}
use native.Mathlib.Numerals.{add-one}
use native.Mathlib.Omega.{arith}
use lib.Dec.{eqb}
use lib.IntN.{ℤ}
use lib.ListN.{length, take, drop, length-take, length-drop}
use mir.Syntax.{w64}
use mir.Val.{Fits}
use borrow.Rule.Slice.PartMut.{put_mid}
use Rattle.whole.proofs.Fill.{fronted, fronted_back, length_fronted}
use Rattle.grammar.specs.Texts.{Line, lines_of}
use Rattle.grammar.specs.Curves.{token_bytes}
use Rattle.tables.specs.declared.Source.{Source}
use Rattle.tables.specs.Compiler.{table_for}
use Rattle.tables.specs.Inside.Sources.{Ready}
use Rattle.tables.specs.Table.{up_to, state_row, table_of}
use Rattle.tables.proofs.Entries.{length_up_to, length_row, length_table}
use Rattle.tables.proofs.RuleChildLaws.{length_letters}

-- ---- state after state
abbrev pub row_at : List Line → ℕ → List ℤ
row_at ls k = state_row ls (k / 2) (eqb (k % 2) 1)

length_rows : (ls : List Line) (k : ℕ) → length (up_to (row_at ls) k) ≡ k * 41
length_rows ls k = length_up_to (row_at ls) 41 (λ i. length_row ls (i / 2) (eqb (i % 2) 1)) k

table_is : (ls : List Line) (n : ℕ) → up_to (row_at ls) (2 * n) ≡ up_to (λ m. state_row ls m false ++ state_row ls m true) n
table_is ls zero = refl
table_is ls (suc n) =
    let k : 2 * suc n ≡ suc (suc (2 * n)) = omega arith in
    let even : 2 * n / 2 ≡ n = omega arith in
    let half : suc (2 * n) / 2 ≡ n = omega arith in
    let low : 2 * n % 2 ≡ 0 = omega arith in
    let odd : suc (2 * n) % 2 ≡ 1 = omega arith in
    rw (k, table_is ls n, even, half, low, odd) (append_assoc (up_to (λ m. state_row ls m false ++ state_row ls m true) n) (state_row ls n false) (state_row ls n true))

pub table_long : {text : List ℕ} {s : Source} → Ready text s → length (table_for text) ≡ 82 * s.count
table_long {text} r = omega (arith, length_table (lines_of text), length_letters r)

-- the first k of n states are written
pub record Writing (ls : List Line) (n : ℕ) (table₀ table : List ℤ) (k : ℕ) : Type 0 where
  pub front : table ≡ fronted (up_to (row_at ls) k) table₀
  pub long : length table ≡ length table₀
  pub room : 41 * n ≤ length table₀
  pub few : n ≤ 104
  pub within : k ≤ n

module _ {ls : List Line} {n : ℕ} {table₀ table : List ℤ} {k : ℕ} (so_far : Writing ls n table₀ table k) (h : k < n) where
  pub part_room : 41 ≤ length (take (length table - 41 * k) (drop (41 * k) table))
  part_room = omega (arith, so_far.room, so_far.long, length-take (length table - 41 * k) (drop (41 * k) table), length-drop (41 * k) table)

  pub writing_next : {last : List ℤ} → last ≡ row_at ls k ++ drop 41 (take (length table - 41 * k) (drop (41 * k) table)) → Writing ls n table₀ (put_mid (41 * k) (length table - 41 * k) table last) (k + 1)
  writing_next {last} e =
      let front : 41 * k ≡ length (up_to (row_at ls) k) = omega (arith, length_rows ls k) in
      let wide : 41 ≡ length (row_at ls k) = sym (length_row ls (k / 2) (eqb (k % 2) 1)) in
      let next : put_mid (41 * k) (length table - 41 * k) table last ≡ fronted (up_to (row_at ls) (k + 1)) table₀ =
      rw add-one (fronted_back (up_to (row_at ls) k) (row_at ls k) table₀ table last (41 * k) front so_far.front (e ∙ ap (λ n. row_at ls k ++ drop n (take (length table - 41 * k) (drop (41 * k) table))) wide)) in
      record {
        front = next;
        long = ap length next ∙ length_fronted (up_to (row_at ls) (k + 1)) table₀ (omega (arith, length_rows ls (k + 1), so_far.room));
        room = so_far.room;
        few = so_far.few;
        within = omega arith;
      }

module _ {text : List ℕ} {s : Source} (ready : Ready text s) where
  pub states_fit : Fits w64 (2 * s.count)
  states_fit = record { fits = omega (arith, s.few) }

  pub writing_start : (table : List ℤ) → 82 * s.count ≤ length table → Writing (lines_of text) (2 * s.count) table table 0
  writing_start table h = record { front = refl; long = refl; room = omega arith; few = omega (arith, s.few); within = omega arith }

  pub writing_end : {table₀ table : List ℤ} {k : ℕ} → Writing (lines_of text) (2 * s.count) table₀ table k → 2 * s.count ≤ k → table ≡ fronted (table_for text) table₀
  unfolding table_of
  writing_end {table₀} {table} {k} so_far h =
      let all : k ≡ 2 * length (token_bytes (lines_of text)) = omega (arith, so_far.within, length_letters ready) in
      so_far.front ∙ ap (λ l. fronted l table₀) (ap (up_to (row_at (lines_of text))) all ∙ table_is (lines_of text) (length (token_bytes (lines_of text))))

-- the state's numbers, as the code has them, are its row
pub row_written : {r w : List ℤ} → r ≡ w → (d : List ℤ) {last : List ℤ} → last ≡ r ++ drop 41 d → last ≡ w ++ drop 41 d
row_written f d e = e ∙ ap (λ l. l ++ drop 41 d) f

pub ruleset writing = (part_room, writing_next, states_fit, writing_start, writing_end, row_written)
