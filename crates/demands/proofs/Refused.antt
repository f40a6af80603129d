-- EVERY CALL is answered or refused by one of its own numbers: those of its tests, as the definition has them; and what is behind the tests is
-- answered. Of cells and positions that is the numbering, of the inverse its law.
use Rattle.std.specs.Prelude.{Option, Some, None}
use mathlib.Core.Path.{◌≡◌, refl}
use mathlib.Core.Logic.{⊎_elim}
use mathlib.Core.Bool.{Bool, true, false, not, cond, ◌||◌, ◌&&◌, true≢false}
use mathlib.Core.List.{List, [], ◌∷◌}
use Prim.Native.Nat.{ℕ, zero, suc, ◌+◌, ◌/◌, ◌%◌, ◌^◌, ◌≤◌}
use native.Mathlib.Omega.{arith}
use lib.Dec.{T, leb, ltb, eqb}
use lib.IntN.{ℤ}
use lib.Ieee.{Float}
use lib.ListN.{length, get_or, take, drop}
use borrow.Author.Tests.{ltb-false, leb-false, eqb-false, not-false}
use Rattle.whole.specs.Tests.{Test, pass}
use Rattle.triple.specs.declared.Triple.{Triple}
use Rattle.triple.specs.declared.refusal.Refusal.TheVariants as Is
use Rattle.triple.specs.Refusals.{Told, told, refused, number_of}
use Rattle.triple.specs.Triples.{good_sum, is_in_bounds, parity_of, flavor_of}
use Rattle.triple.specs.Orientations.{is_backward, curve_place}
use Rattle.triple.specs.Domain.{domain_of}
use Rattle.triple.specs.Lent.{valued, count_of}
use Rattle.turtle.specs.declared.AB.{AB}
use Rattle.turtle.specs.Corners.{corner_sum_of, triple_of, fits32}
use Rattle.turtle.proofs.CornerLaws.{inverse_refused}
use Rattle.text.specs.Words.{words_of}
use Rattle.grammar.specs.Texts.{Row, lines_of, rows_of}
use Rattle.grammar.specs.Tests.{Verdict, fine, fault, fault_at, first, bad_shape, bad_motif, bad_rule, bad_count, bad_heading, bad_draw, bad_turns, bad_net, some_rows, line_tests, text_tests}
use Rattle.tables.specs.Compiler.{unless, states, compiled_in, compiled_to, state_count}
use Rattle.tables.specs.Compiler as Compiler
use Rattle.tables.specs.Descent.{good_table, descent_of, descent_in}
use Rattle.tables.specs.Parts.{part_of, is_past}
use Rattle.tables.specs.Verdicts.{bad_split, split_tests, verdict}
use Rattle.lsystem.specs.declared.cell.Cell.{Cell}
use Rattle.lsystem.specs.Cells.{named, cell_of, position_of}
use Rattle.lsystem.specs.Looks.{with_looks, located_of}
use Rattle.lsystem.proofs.Numbering.{numbers as Numbers_of}
use Rattle.sketch.specs.Drawings.{draw_call}
use Rattle.sketch.proofs.DrawLaws.{cells_told}
use Rattle.nodes.specs.declared.Node.{Node}
use Rattle.nodes.specs.Nodes.{can_step, child_cell, bounded, cell_below_of, step_to, child_step_of, node_of}
use Rattle.nodes.specs.NodeAnswers.{axiom_node_of}
use Rattle.curve.specs.Points.{near, point_by, point_of}
use Rattle.curve.specs.Points as Points
use Rattle.curve.specs.ExactPoints.{exact_parity, exact_point_of}
use Rattle.code.specs.Codes.{all_bits, value_of, code_length, code_of, spare_of, loose_of, read_of}
use Rattle.fold.specs.Cells.{cells_in}
use Rattle.fold.specs.Folds.{all_below, ascending, fold_call}
use Rattle.fold.specs.Unfolds.{shallow, inside, ordered, unfold_call}
use Rattle.area.specs.declared.operation.Operation.{Operation}
use Rattle.area.specs.Areas.{tested, made_call, size_call, contains_call}
use Rattle.report.specs.Reports.{triples_in, every, report_call, too_short, report_to}
use Rattle.mend.specs.Mends.{step_of, mend_call, mended_to}
use Rattle.treated.specs.Treated.{Verdict as TreatedVerdict, check_of}
use Rattle.treated.proofs.Claimed.{refused_long}
use Rattle.polygon.specs.Polygons.{polygon_text, wkt_of, readable, corner_at, parity_from, starting_at, narrow, same_text, spelled_cell, cell_of_wkt}
use Rattle.query.specs.declared.Query.{Query}
use Rattle.text.specs.Decimals.{u8, u64, i32, decimal_at}
use Rattle.text.specs.Patterns.{f64}
use Rattle.query.specs.Queries.{answer_of}
use Rattle.query.specs.Lines.{number, position_rest, cell_rest, point_rest, headed, starts, query_of}
use Rattle.demands.specs.Demands.{is_among, AnsweredOr, answer, refusal, CompiledOr, Refusals}
use Rattle.demands.proofs.ToldLaws.{by_test, by_room, by_choice, by_step, by_answer, by_value}

-- ---- triples
domain : (o r : ℕ) → AnsweredOr (1 ∷ 2 ∷ []) (domain_of o r)
unfolding number_of
domain o r = by_test (ltb 30 r) Is.Resolution tt λ k. by_test (ltb 5 o) Is.Orientation tt λ h. answer

parity : (t : Triple) → AnsweredOr (4 ∷ []) (parity_of t)
unfolding parity_of number_of
parity t = by_test (not (good_sum t)) Is.Sum tt λ g. answer

flavor : (r : ℕ) (t : Triple) → AnsweredOr (1 ∷ 4 ∷ 5 ∷ []) (flavor_of r t)
unfolding flavor_of number_of
flavor r t =
    by_test (ltb 30 r) Is.Resolution tt λ k. by_test (not (good_sum t)) Is.Sum tt λ g. by_test (not (is_in_bounds r t)) Is.Bounds tt λ b. answer

-- ---- positions and cells, with whatever other numbers a call has that asks for them
module _ {numbers : List ℕ} (o r : ℕ) where
  cell : (s : ℕ) → T (is_among 1 numbers) → T (is_among 2 numbers) → T (is_among 3 numbers) → AnsweredOr numbers (cell_of o r s)
  unfolding cell_of number_of
  cell s resolution orientation below =
      by_test (ltb 30 r) Is.Resolution resolution λ k.
      by_test (ltb 5 o) Is.Orientation orientation λ h.
      by_test (leb (4 ^ r) s) Is.Position below λ l.
      by_answer ((Numbers_of o r (ltb-false 5 o h) (ltb-false 30 r k)).cell_is s (leb-false (4 ^ r) s l))

  position : (t : Triple) → T (is_among 1 numbers) → T (is_among 2 numbers) → T (is_among 4 numbers) → T (is_among 5 numbers) → AnsweredOr numbers (position_of o r t)
  unfolding position_of number_of
  position t resolution orientation sum bounds =
      by_test (ltb 30 r) Is.Resolution resolution λ k.
      by_test (ltb 5 o) Is.Orientation orientation λ h.
      by_test (not (good_sum t)) Is.Sum sum λ g.
      by_test (not (is_in_bounds r t)) Is.Bounds bounds λ b.
      by_answer ((Numbers_of o r (ltb-false 5 o h) (ltb-false 30 r k)).finds t (not-false (is_in_bounds r t) b))

located : (o r : ℕ) (t : Triple) → AnsweredOr (1 ∷ 2 ∷ 4 ∷ 5 ∷ []) (located_of o r t)
unfolding located_of with_looks
located o r t = by_step (position o r t tt tt tt tt) λ p. answer

-- ---- corner sums
corner_sum_back : (t : Triple) → AnsweredOr (4 ∷ []) (corner_sum_of t)
unfolding corner_sum_of number_of
corner_sum_back t = by_test (not (good_sum t)) Is.Sum tt λ g. answer

inverse : (p : AB) → AnsweredOr (6 ∷ []) (triple_of p)
inverse p = ⊎_elim (λ h. by_answer h.2) (λ e. rw e (refusal tt)) (inverse_refused p)

-- ---- nodes
axiom_node : (o : ℕ) → AnsweredOr (2 ∷ []) (axiom_node_of o)
unfolding axiom_node_of number_of
axiom_node o = by_test (ltb 5 o) Is.Orientation tt λ h. answer

node : (o r : ℕ) (t : Triple) → AnsweredOr (1 ∷ 2 ∷ 4 ∷ 5 ∷ []) (node_of o r t)
unfolding node_of
node o r t = by_step (position o r t tt tt tt tt) λ p. answer

within : (r : ℕ) (t : Told Cell) → AnsweredOr (7 ∷ 8 ∷ 5 ∷ []) (bounded r t)
unfolding number_of
within r (told c) = by_test (not (is_in_bounds r c.triple)) Is.Bounds tt λ b. answer
within r (refused n) = refusal tt

child : (n : Node) (d : ℕ) → AnsweredOr (7 ∷ 8 ∷ 5 ∷ []) (child_step_of n d)
unfolding child_step_of step_to cell_below_of number_of
child n d =
    by_test (not (can_step n)) Is.Node tt λ g.
    by_test (ltb 3 d) Is.Digit tt λ l.
    by_step (within (n.resolution + 1) (named n.orientation (n.resolution + 1) (child_cell n.frame (curve_place n.orientation 1 d)))) λ c. answer

-- ---- points
-- whoever tells the parity
point_by_lem : {numbers : List ℕ} (tell : Float → Float → ℕ) (r : ℕ) (i j : Float) → T (is_among 1 numbers) → T (is_among 9 numbers) → AnsweredOr numbers (point_by tell r i j)
unfolding number_of
point_by_lem tell r i j resolution far = by_test (ltb 30 r) Is.Resolution resolution λ k. by_test (not (near i && near j)) Is.Point far λ n. answer

point : {numbers : List ℕ} (r : ℕ) (i j : Float) → T (is_among 1 numbers) → T (is_among 9 numbers) → AnsweredOr numbers (point_of r i j)
unfolding point_of
point = point_by_lem Points.parity

exact_point : (r : ℕ) (i j : Float) → AnsweredOr (1 ∷ 9 ∷ []) (exact_point_of r i j)
unfolding exact_point_of
exact_point r i j = point_by_lem exact_parity r i j tt tt

-- ---- grammars
word : (word buffer : List ℕ) → AnsweredOr (10 ∷ []) (count_of (told word) buffer)
word w buffer = by_room buffer tt answer

-- nothing against the text, or a number from 12 to 20
data Judged : Verdict → Type 0 where
  good : Judged fine
  bad : {n line : ℕ} → 12 ≤ n → n ≤ 20 → Judged (fault n line)

by_lines : (n line : ℕ) {next : Verdict} → 12 ≤ n → n ≤ 20 → Judged next → Judged (fault_at n line next)
by_lines n zero h k rest = rest
by_lines n (suc line) h k rest = bad h k

by_rows : (rows : List Row) {next : Verdict} → Judged next → Judged (some_rows rows next)
by_rows [] rest = bad {n = 12} (omega arith) (omega arith)
by_rows (r ∷ rs) rest = by_lines 12 (first bad_shape (r ∷ rs)) (omega arith) (omega arith) rest

judged : (text : List ℕ) → Judged (verdict text)
unfolding verdict text_tests line_tests split_tests
judged text =
    let ls = lines_of text in
    by_rows (rows_of text)
    (by_lines 13 (first bad_motif ls) (omega arith) (omega arith)
    (by_lines 14 (first (λ _. bad_rule ls) ls) (omega arith) (omega arith)
    (by_lines 15 (first (λ _. bad_count ls) ls) (omega arith) (omega arith)
    (by_lines 16 (first (λ _. bad_heading ls) ls) (omega arith) (omega arith)
    (by_lines 17 (first (λ _. bad_draw) ls) (omega arith) (omega arith)
    (by_lines 18 (first (λ _. bad_turns ls) ls) (omega arith) (omega arith)
    (by_lines 19 (first (λ _. bad_net ls) ls) (omega arith) (omega arith)
    (by_lines 20 (first (λ _. bad_split ls) ls) (omega arith) (omega arith) good))))))))

compiler : (text : List ℕ) (table : List ℤ) (start : ℕ) → CompiledOr (compiled_to text table start)
unfolding compiled_in number_of
compiler text table start = go (verdict text) (is_past (length table) start (state_count text)) (judged text)
  where
    go : (v : Verdict) (b : Bool) → Judged v → CompiledOr (unless v (cond b (Compiler.refused 26) (states (state_count text))))
    go fine true good = refl
    go fine false good = tt
    go (fault n line) b (bad h k) = (h, k)

descent : (table : List ℤ) (start n r token s : ℕ) → AnsweredOr (26 ∷ 1 ∷ 22 ∷ 3 ∷ []) (descent_in table start n r token s)
unfolding descent_in descent_of number_of
descent table start n r token s =
    by_test (is_past (length table) start n) Is.Part tt λ p.
    by_test (eqb r 0 || ltb 30 r) Is.Resolution tt λ k.
    by_test (not (good_table (part_of table start n) n token)) Is.Table tt λ g.
    by_test (leb (4 ^ r) s) Is.Position tt λ l. answer

-- within the table it is not refused by 26
pub descent_inside : (part : List ℤ) (n r token s : ℕ) → AnsweredOr (1 ∷ 22 ∷ 3 ∷ []) (descent_of part n r token s)
unfolding descent_of number_of
descent_inside part n r token s =
    by_test (eqb r 0 || ltb 30 r) Is.Resolution tt λ k.
    by_test (not (good_table part n token)) Is.Table tt λ g.
    by_test (leb (4 ^ r) s) Is.Position tt λ l. answer

-- ---- drawings
-- neither of two tests holds
neither : (a b : Bool) → (a || b) ≡ false → (a ≡ false) × (b ≡ false)
neither true b e = absurd (true≢false e)
neither false b e = (refl, e)

drawing : (o r : ℕ) (buffer : List ℤ) → AnsweredOr (23 ∷ 2 ∷ 10 ∷ []) (count_of (draw_call o r) buffer)
unfolding draw_call number_of
drawing o r buffer =
    by_room buffer tt
    (by_test (eqb r 0 || ltb 6 r) Is.Passes tt λ p.
    by_test (ltb 5 o) Is.Orientation tt λ h.
    let n = neither (eqb r 0) (ltb 6 r) p in by_answer (cells_told o r (ltb-false 5 o h) (eqb-false r 0 n.0) (ltb-false 6 r n.1)))

-- ---- codes
writing : (o r s : ℕ) (buffer : List ℕ) → AnsweredOr (1 ∷ 2 ∷ 28 ∷ 3 ∷ 10 ∷ []) (count_of (code_of o r s) buffer)
unfolding code_of number_of
writing o r s buffer =
    by_room buffer tt
    (by_test (ltb 30 r) Is.Resolution tt λ k.
    by_test (ltb 5 o) Is.Orientation tt λ h.
    by_test (is_backward o) Is.Retired tt λ b.
    by_test (leb (4 ^ r) s) Is.Position tt λ l. answer)

reading : (bytes : List ℕ) → AnsweredOr (11 ∷ 1 ∷ 2 ∷ 24 ∷ []) (read_of bytes)
unfolding read_of loose_of number_of
reading bytes =
    let o = value_of (take 3 (all_bits bytes)) in
    let r = value_of (take 5 (drop 3 (all_bits bytes))) in
    by_step
    (by_test (eqb (length bytes) 0) Is.Code tt λ Some.
    by_test (ltb 30 r) Is.Resolution tt λ k.
    by_test (ltb 5 o) Is.Orientation tt λ h.
    by_test (ltb (length bytes) (code_length r)) Is.Code tt λ whole. answer)
    λ x. by_test (ltb 0 (spare_of x.resolution bytes)) Is.Spare tt λ clear. answer

-- ---- folding and unfolding
folds : (o r : ℕ) (positions slice : List ℕ) → AnsweredOr (1 ∷ 2 ∷ 3 ∷ 25 ∷ 10 ∷ []) (valued (λ n. n / 2) (count_of (fold_call o r positions) slice))
unfolding fold_call number_of
folds o r positions slice =
    by_value (λ n. n / 2)
    (by_room slice tt
    (by_test (ltb 30 r) Is.Resolution tt λ k.
    by_test (ltb 5 o) Is.Orientation tt λ h.
    by_test (not (all_below (4 ^ r) positions)) Is.Position tt λ l.
    by_test (not (ascending positions)) Is.Order tt λ a. answer))

unfolds : (o r : ℕ) (pairs slice : List ℕ) → AnsweredOr (1 ∷ 2 ∷ 3 ∷ 25 ∷ 10 ∷ []) (count_of (unfold_call o r pairs) slice)
unfolding unfold_call number_of
unfolds o r pairs slice =
    by_room slice tt
    (by_test (ltb 30 r) Is.Resolution tt λ k.
    by_test (not (shallow r (cells_in pairs))) Is.Resolution tt λ s.
    by_test (ltb 5 o) Is.Orientation tt λ h.
    by_test (not (inside (cells_in pairs))) Is.Position tt λ l.
    by_test (not (ordered r pairs)) Is.Order tt λ a. answer)

-- ---- areas
-- two lists that have to be areas, whatever is said of them then
both_areas : {A : Type 0} {numbers : List ℕ} (a b : List ℕ) {says : Told A} → T (is_among 1 numbers) → T (is_among 3 numbers) → T (is_among 25 numbers) → AnsweredOr numbers says → AnsweredOr numbers (tested a b says)
unfolding tested number_of
both_areas a b resolution position order next =
    by_test (not (shallow 30 (cells_in a) && shallow 30 (cells_in b))) Is.Resolution resolution λ s.
    by_test (not (inside (cells_in a) && inside (cells_in b))) Is.Position position λ l.
    by_test (not (ordered 30 a && ordered 30 b)) Is.Order order λ o. next

areas : (operation : Operation) (a b slice : List ℕ) → AnsweredOr (1 ∷ 3 ∷ 25 ∷ 10 ∷ []) (valued (λ n. n / 2) (count_of (made_call operation a b) slice))
unfolding made_call
areas operation a b slice = by_value (λ n. n / 2) (by_room slice tt (both_areas a b tt tt tt answer))

containing : (a : List ℕ) (m p : ℕ) → AnsweredOr (1 ∷ 3 ∷ 25 ∷ []) (contains_call a m p)
unfolding contains_call
containing a m p = both_areas (m ∷ p ∷ []) a tt tt tt answer

sizes : (a : List ℕ) (r : ℕ) → AnsweredOr (1 ∷ 3 ∷ 25 ∷ []) (size_call a r)
unfolding size_call unfold_call number_of
sizes a r =
    by_value length
    (by_test (ltb 30 r) Is.Resolution tt λ k.
    by_test (not (shallow r (cells_in a))) Is.Resolution tt λ s.
    by_test (not (inside (cells_in a))) Is.Position tt λ l.
    by_test (not (ordered r a)) Is.Order tt λ o. answer)

reports : (o r : ℕ) (triples : List ℤ) (work slice : List ℕ) → AnsweredOr (1 ∷ 2 ∷ 4 ∷ 5 ∷ 25 ∷ 10 ∷ []) (valued (λ n. n / 2) (count_of (report_to o r triples work slice) slice))
unfolding report_to report_call number_of
reports o r triples work slice =
    by_value (λ n. n / 2)
    (by_room slice tt
    (by_step
    (by_test (ltb 30 r) Is.Resolution tt λ k.
    by_test (ltb 5 o) Is.Orientation tt λ h.
    by_test (not (every good_sum (triples_in triples))) Is.Sum tt λ g.
    by_test (not (every (is_in_bounds r) (triples_in triples))) Is.Bounds tt λ b.
    by_test (not (eqb (length triples % 3) 0)) Is.Order tt λ c. answer)
    λ area. by_test (too_short triples work slice) Is.Room tt λ s. answer))

-- ---- mending
mending : (list out : List ℕ) → AnsweredOr (10 ∷ []) (mended_to list out)
unfolding mended_to mend_call number_of
mending list out = by_step (by_room out tt (by_test (ltb (length out) (length list)) Is.Room tt λ room. answer)) λ n. answer

mending_step : (rest out : List ℕ) → AnsweredOr (10 ∷ []) (step_of rest out)
unfolding step_of
mending_step rest out = by_step (by_room out tt answer) λ n. answer

-- ---- treated lists
checking : (list : List ℕ) → AnsweredOr (29 ∷ []) (check_of list)
checking list = by (check_of list) refl
  where
    by : (v : Told TreatedVerdict) → check_of list ≡ v → AnsweredOr (29 ∷ []) v
    by (told a) e = answer
    by (refused n) e = rw (refused_long list e) (refusal tt)

-- ---- polygons
polygon_writing : (r : ℕ) (t : Triple) (buffer : List ℕ) → AnsweredOr (1 ∷ 4 ∷ 5 ∷ 10 ∷ []) (count_of (wkt_of r t) buffer)
unfolding wkt_of number_of
polygon_writing r t buffer =
    by_room buffer tt
    (by_test (ltb 30 r) Is.Resolution tt λ k.
    by_test (not (good_sum t)) Is.Sum tt λ g.
    by_test (not (is_in_bounds r t)) Is.Bounds tt λ b. answer)

by_readable : {A : Type 0} (read : Option A) → AnsweredOr (1 ∷ 27 ∷ 5 ∷ []) (readable read)
unfolding number_of
by_readable (Some v) = answer
by_readable None = refusal tt

corner_read : (text : List ℕ) (at : ℕ) → AnsweredOr (1 ∷ 27 ∷ 5 ∷ []) (corner_at text at)
unfolding corner_at
corner_read text at = by_step (by_readable (decimal_at text at)) λ a. by_step (by_readable (decimal_at text (a.1 + 1))) λ b. answer

abbrev fits_three : Triple → List Test
fits_three t = fits32 t.x (fits32 t.y (fits32 t.z []))

spelled : (text : List ℕ) → AnsweredOr (1 ∷ 27 ∷ 5 ∷ []) (spelled_cell text)
unfolding spelled_cell narrow number_of
spelled text =
    by_step (corner_read text 10) λ p.
    by_step (corner_read text (p.1 + 2)) λ q.
    by_step (by_test (not (pass (fits_three (starting_at (parity_from p.0 q.0) p.0)))) Is.Polygon tt λ n. answer) λ t.
    by_test (not (same_text text (polygon_text t))) Is.Polygon tt λ same. answer

polygon_reading : (r : ℕ) (text : List ℕ) → AnsweredOr (1 ∷ 27 ∷ 5 ∷ []) (cell_of_wkt r text)
unfolding cell_of_wkt number_of
polygon_reading r text =
    by_test (ltb 30 r) Is.Resolution tt λ k.
    by_step (spelled text) λ t.
    by_test (not (is_in_bounds r t)) Is.Bounds tt λ b. answer

-- ---- lines and queries
by_number : {A : Type 0} (read : Option A) → AnsweredOr (21 ∷ []) (number read)
unfolding number_of
by_number (Some v) = answer
by_number None = refusal tt

by_head : (rest : ℕ → ℕ → List (List ℕ) → Told Query) (w : List (List ℕ)) → ((o r : ℕ) → AnsweredOr (21 ∷ []) (rest o r w)) → AnsweredOr (21 ∷ []) (headed rest w)
unfolding headed
by_head rest w answered = by_step (by_number (u8 (get_or w 1 []))) λ o. by_step (by_number (u8 (get_or w 2 []))) λ r. answered o r

line : (line : List ℕ) → AnsweredOr (21 ∷ []) (query_of line)
unfolding query_of number_of
line l =
    let w = words_of l in
    by_test (ltb 64 (length l)) Is.Line tt λ e.
    by_choice (starts 80 4 w) (by_head position_rest w λ o r. by_step (by_number (u64 (get_or w 3 []))) λ s. answer)
    (by_choice (starts 67 6 w) (by_head cell_rest w λ o r. by_step (by_number (i32 (get_or w 3 []))) λ x. by_step (by_number (i32 (get_or w 4 []))) λ y. by_step (by_number (i32 (get_or w 5 []))) λ z. answer)
    (by_choice (starts 82 5 w) (by_head point_rest w λ o r. by_step (by_number (f64 (get_or w 3 []))) λ i. by_step (by_number (f64 (get_or w 4 []))) λ j. answer) (refusal tt)))

query : (q : Query) → AnsweredOr (1 ∷ 2 ∷ 3 ∷ 4 ∷ 5 ∷ 9 ∷ []) (answer_of q)
unfolding answer_of number_of
query (Query.Position o r s) = by_step (cell o r s tt tt tt) λ c. answer
query (Query.Cell o r t) = by_step (position o r t tt tt tt tt) λ p. answer
query (Query.Point o r i j) =
    by_test (ltb 30 r) Is.Resolution tt λ k.
    by_test (ltb 5 o) Is.Orientation tt λ h.
    by_step (point r i j tt tt) λ c. by_step (position o r c.triple tt tt tt tt) λ p. answer

print : (text buffer : List ℕ) → AnsweredOr (10 ∷ []) (count_of (told text) buffer)
print text buffer = by_room buffer tt answer

pub refusals : Refusals
refusals = record {
  domain = domain;
  parity = parity;
  flavor = flavor;
  corner_sum_back = corner_sum_back;
  inverse = inverse;
  cell = λ o r s. cell o r s tt tt tt;
  position = located;
  axiom_node = axiom_node;
  node = node;
  child = child;
  point = λ r i j. point r i j tt tt;
  exact_point = exact_point;
  word = word;
  compiler = compiler;
  descent = descent;
  drawing = drawing;
  writing = writing;
  reading = reading;
  folds = folds;
  unfolds = unfolds;
  areas = areas;
  containing = containing;
  sizes = sizes;
  reports = reports;
  mending = mending;
  mending_step = mending_step;
  checking = checking;
  polygon_writing = polygon_writing;
  polygon_reading = polygon_reading;
  line = line;
  query = query;
  print = print;
}
