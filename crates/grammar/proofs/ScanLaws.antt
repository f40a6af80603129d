-- The scan of a text, row after row, in the form of what the code has in hand.
use mathlib.Core.Path.{◌≡◌, refl, sym, ap, ◌∙◌, subst}
use mathlib.Core.Bool.{Bool, true, false, not, cond}
use mathlib.Core.List.{List, [], ◌∷◌, ◌++◌, map, map-append, append_assoc, append-nil}
use Prim.Native.Nat.{ℕ, suc, ◌+◌, ◌-◌, ◌≤◌, ◌<◌}
use native.Mathlib.Numerals.{add-one}
use native.Mathlib.Omega.{arith}
use lib.Dec.{leb, eqb}
use lib.ListN.{length, get_or, take, drop, length-drop, drop_of_length-le}
use lib.Seq.{take-suc, take_all, length-take-le}
use borrow.Author.Tests.{le-leb, lt-leb}
use Rattle.std.specs.Prelude.{Some, None, Option}
use Rattle.grammar.specs.declared.lines.Lines.{Lines}
use Rattle.grammar.specs.declared.scan.Scanner.{Scanner}
use Rattle.grammar.specs.Texts.{Row, prefixed, rows_of, shaped, Line, line_of, lines_of}
use Rattle.grammar.specs.Tests.{first, bad_shape}
use Rattle.grammar.specs.Scans.{no_lines, with_line, lines_placed, scan_of}
use Rattle.grammar.specs.Inside.RowCuts.{ended, Cut, Misshapen, FirstRow}
use Rattle.grammar.specs.Inside.Places.{LineRoom, row_added}
use Rattle.whole.proofs.Slices.{at_drop, take_map}
use Rattle.grammar.proofs.FirstLaws.{first_at, first_next, first_here, first_none}
use Rattle.grammar.proofs.PlaceLaws.{placed_none, placed_line, rows_behind, line_room}

pub record SomeRow (t : List ℕ) : Type 0 where
  pub row : Row
  pub rest : List Row
  pub rows : rows_of t ≡ row ∷ rest

pub some_row : (t : List ℕ) → 0 < length t → SomeRow t
unfolding rows_of
some_row [] h = absurd (omega arith)
some_row (b ∷ t) h = go (eqb b 10) (rows_of t) refl
  where
    go : (u : Bool) (rs : List Row) → rows_of (b ∷ t) ≡ cond u (ended [] ∷ rs) (prefixed b rs) → SomeRow (b ∷ t)
    go true rs e = record { row = ended []; rest = rs; rows = e }
    go false [] e = record { row = record { bytes = b ∷ []; ended = false }; rest = []; rows = e }
    go false (r ∷ rs) e = record { row = record { bytes = b ∷ r.bytes; ended = r.ended }; rest = rs; rows = e }

-- ---- a row more
module _ (text : List ℕ) (s : Scanner) (k n : ℕ) where
  pub row_more : {ls : Lines} → ls ≡ with_line s.lines (get_or text s.at 0) (s.at + 2) k (s.at + (k + 3)) (n - (k + 3)) → record { lines = ls; at = s.at + (n + 1) } ≡ row_added text s k n
  row_more e = λ i. record { lines = e i; at = s.at + (n + 1) }

  pub row_less : s.at < length text → {next : Scanner} → next ≡ row_added text s k n → length text - next.at < length text - s.at
  row_less h e = rw e (omega arith)

-- ---- the next row begins at `at`, after as many rows as there are lines
pub record Scanning (text : List ℕ) (s : Scanner) : Type 0 where
  pub within : s.at ≤ length text
  pub few : s.lines.count ≤ 8
  pub rows : rows_of (drop s.at text) ≡ drop s.lines.count (rows_of text)
  pub fault : first_at bad_shape (rows_of text) s.lines.count ≡ first bad_shape (rows_of text)
  pub lines : (rest : List Line) → lines_placed no_lines 0 (map line_of (take s.lines.count (rows_of text)) ++ rest) ≡ lines_placed s.lines s.at rest

pub scan_start : (text : List ℕ) {ls : Lines} → ls ≡ no_lines → Scanning text record { lines = ls; at = 0 }
scan_start text e = rw e record { within = omega arith; few = omega arith; rows = refl; fault = refl; lines = λ rest. refl }

-- a row that is not the ninth is at fault by its shape
shape_here : (before : List Row) (r : Row) (b : Bool) → length before < 8 → shaped r ≡ b → bad_shape before r ≡ not b
unfolding bad_shape
shape_here before r b h e = rw (lt-leb 8 (length before) h, e) refl

module _ {text : List ℕ} {s : Scanner} (so_far : Scanning text s) where
  abbrev ls : Lines
  ls = s.lines

  abbrev at : ℕ
  at = s.at

  abbrev rs : List Row
  rs = rows_of text

  lines_are : ls ≡ lines_placed no_lines 0 (map line_of (take ls.count rs))
  lines_are = sym (ap (lines_placed no_lines 0) (sym (append-nil (map line_of (take ls.count rs)))) ∙ so_far.lines [] ∙ placed_none ls at)

  -- there is a row more
  module _ {r : Row} {rest : List Row} (e : rows_of (drop at text) ≡ r ∷ rest) where
    next_row : (ls.count < length rs) × (get_or rs ls.count r ≡ r) × (drop (suc ls.count) rs ≡ rest)
    next_row = at_drop rs ls.count (sym so_far.rows ∙ e)

    length_before : length (take ls.count rs) ≡ ls.count
    length_before = length-take-le ls.count rs (omega (arith, next_row.0))

    -- which is at fault
    faulty : bad_shape (take ls.count rs) r ≡ true → {k : ℕ} → k ≡ ls.count + 1 → record { lines = ls; fault = k } ≡ scan_of text
    unfolding scan_of lines_of
    faulty b {k} k_is =
        let found : first bad_shape rs ≡ suc ls.count = sym so_far.fault ∙ first_here bad_shape rs ls.count r next_row.0 (rw next_row.1 b) ∙ add-one ls.count in
        let kept : ls ≡ lines_placed no_lines 0 (take ls.count (map line_of rs)) = lines_are ∙ ap (lines_placed no_lines 0) (sym (take_map line_of ls.count rs)) in
        rw (found, k_is, add-one) (λ i. record { lines = kept i; fault = suc ls.count })

  pub scan_ninth : at < length text → ls.count ≡ 8 → record { lines = ls; fault = 9 } ≡ scan_of text
  unfolding bad_shape
  scan_ninth h e =
      let more = some_row (drop at text) (rw length-drop (omega arith)) in
      let b = length_before more.rows in
      let nine : leb 8 (length (take ls.count rs)) ≡ true = le-leb 8 (length (take ls.count rs)) (omega arith) in
      faulty more.rows (rw nine refl) (omega arith)

  -- no row more
  pub scan_end : length text ≤ at → record { lines = ls; fault = 0 } ≡ scan_of text
  unfolding rows_of scan_of lines_of
  scan_end h =
      let none : drop ls.count rs ≡ [] = sym so_far.rows ∙ (rw (drop_of_length-le text {i = at} h) refl) in
      let all : length rs ≤ ls.count = omega (arith, ap length none, length-drop ls.count rs) in
      let found : first bad_shape rs ≡ 0 = sym so_far.fault ∙ first_none bad_shape rs ls.count all in
      let kept : ls ≡ lines_placed no_lines 0 (map line_of rs) = lines_are ∙ ap (λ l. lines_placed no_lines 0 (map line_of l)) (take_all ls.count rs all) in
      rw found (λ i. record { lines = kept i; fault = 0 })

  pub scan_few : (ls.count ≡ 8 → ⊥) → ls.count < 8
  scan_few not_eight = omega (arith, so_far.few)

  -- what is left of the text
  module _ {t : List ℕ} (e : t ≡ drop at text) where
    pub scan_more : at < length text → 0 < length t
    scan_more h = rw (e, length-drop) (omega arith)

    module _ (not_eight : ls.count ≡ 8 → ⊥) {shape : Option (ℕ × ℕ)} (f : FirstRow t shape) where
      pub scan_other : shape ≡ None → record { lines = ls; fault = ls.count + 1 } ≡ scan_of text
      scan_other g =
          let m : Misshapen t = subst (FirstRow t) g f in
          let here : rows_of (drop at text) ≡ m.row ∷ m.rest = rw (← e) m.rows in
          let b = length_before here in
          faulty here (shape_here (take ls.count rs) m.row false (omega (arith, scan_few not_eight)) m.bad) refl

      -- the next row is a line
      module _ {k n : ℕ} (g : shape ≡ Some (k, n)) where
        line_here : Cut (drop at text) k n
        line_here = subst (λ t. Cut t k n) e (subst (FirstRow t) g f)

        pub scan_room : LineRoom text at k n
        scan_room = line_room text at line_here

        abbrev row : Row
        row = ended (take n (drop at text))

        pub scan_next : {next : Scanner} → next ≡ row_added text s k n → Scanning text next
        scan_next next_is =
            let room = scan_room in
            let next = next_row line_here.rows in
            let b = length_before line_here.rows in
            let fine : bad_shape (take ls.count rs) row ≡ false = shape_here (take ls.count rs) row true (omega (arith, scan_few not_eight)) line_here.good in
            let last : take (suc ls.count) rs ≡ take ls.count rs ++ (row ∷ []) = take-suc rs ls.count row next.0 ∙ ap (λ r. take ls.count rs ++ (r ∷ [])) next.1 in
            rw next_is record {
              within = omega arith;
              few = omega (arith, scan_few not_eight);
              rows = sym (rows_behind text at line_here) ∙ sym next.2 ∙ ap (λ j. drop j rs) (sym (add-one ls.count));
              fault = sym (first_next bad_shape rs ls.count row next.0 (rw next.1 fine)) ∙ so_far.fault;
              lines =
                  λ rest. ap (lines_placed no_lines 0) (rw (add-one, last, map-append line_of (take ls.count rs) (row ∷ []), append_assoc) refl) ∙ so_far.lines (line_of row ∷ rest) ∙ placed_line text at line_here ls rest;
            }

pub ruleset scanning = (row_more, row_less, scan_start, scan_ninth, scan_end, scan_few, scan_more, scan_other, scan_room, scan_next)
