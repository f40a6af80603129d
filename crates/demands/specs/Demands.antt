-- WHAT WAS ASKED, over the public definitions alone: a record for each subject, in the order of the requirements, and a field for each sentence.
-- That the functions answer what the definitions say is in their contracts; that the records hold is in proofs/, a theorem for each.
use Rattle.std.specs.Prelude.{◌≡◌, ◌↔◌, Bool, true, false, ◌&&◌, ◌||◌, ℕ, ◌+◌, ◌-◌, ◌*◌, ◌/◌, ◌%◌, ◌^◌, ◌<◌, ◌≤◌, T, eqb, ℤ, pos, negsuc, Float, length, take, drop}
use mathlib.Core.List.{List, [], ◌∷◌, ◌++◌}
use Rattle.std.specs.Float.{fin, binary64}
use Rattle.std.specs.Float.Ieee.{fits}
use Rattle.triple.specs.declared.Triple.{Triple}
use Rattle.triple.specs.Refusals.{Told, told, refused, ◌>>=◌}
use Rattle.triple.specs.Triples.{good_sum, is_in_bounds, parity_of, closed_flavor, flavor_of}
use Rattle.triple.specs.Domain.{domain_of}
use Rattle.triple.specs.Orientations.{is_backward}
use Rattle.triple.specs.Lent.{valued, count_of, after_call, Called, CalledBoth}
use Rattle.turtle.specs.declared.AB.{AB}
use Rattle.turtle.specs.Plane.{◌⊕◌}
use Rattle.turtle.specs.Corners.{corner_sum, corner_sum_of, triple_of, ThreeI32, HasTriple}
use Rattle.tables.specs.Compiler.{Compiled, states, compiled_to, after_compile}
use Rattle.tables.specs.Compiler as Compiler
use Rattle.tables.specs.Descent.{descent_in}
use Rattle.a5.specs.A5.{a5_text}
use Rattle.lsystem.specs.declared.cell.Cell.{Cell}
use Rattle.lsystem.specs.declared.Position.{Position}
use Rattle.lsystem.specs.Cells.{drawn_cell, named, cell_of, position_of}
use Rattle.lsystem.specs.Looks.{located_of}
use Rattle.sketch.specs.Drawings.{draw_call, descended}
use Rattle.nodes.specs.declared.Node.{Node}
use Rattle.nodes.specs.declared.ChildStep.{ChildStep}
use Rattle.nodes.specs.Nodes.{good_node, child_step_of, node_of}
use Rattle.nodes.specs.NodeAnswers.{axiom_node_of}
use Rattle.nodes.specs.NodeWalks.{walked_node, last_step}
use Rattle.curve.specs.declared.PointCell.{PointCell}
use Rattle.curve.specs.Points.{near, floor, parity, clamped, settled, own_triple, point_of}
use Rattle.curve.specs.ExactPoints.{exact_parity, exact_point_of, LiesIn}
use Rattle.code.specs.declared.Reading.{Reading}
use Rattle.code.specs.Codes.{code_length, code_bytes, forward_of, code_of, read_of, Bytes}
use Rattle.fold.specs.Cells.{Cell as WholeCell, Covered, cells_in}
use Rattle.fold.specs.Folds.{has, ascending, fold_call}
use Rattle.fold.specs.Unfolds.{apart, unfold_call}
use Rattle.fold.specs.Foldings.{cells_of, Step, Foldings, Ended, Lone}
use Rattle.area.specs.declared.operation.Operation.{Operation}
use Rattle.area.specs.Areas.{made_call, size_call, contains_call}
use Rattle.report.specs.Reports.{report_to, work_to}
use Rattle.mend.specs.Mends.{longest_code, piece_of, mend_of, changes_of, Sound, Reported, Every, step_of, mend_call, mended_to}
use Rattle.treated.specs.Treated.{check_of}
use Rattle.polygon.specs.Polygons.{cell_corners, ring_text, polygon_text, wkt_of, cell_of_wkt}
use Rattle.query.specs.declared.Query.{Query}
use Rattle.query.specs.Queries.{answer_of}
use Rattle.query.specs.Lines.{query_of}
use Rattle.capi.specs.Calls.{cell_call, CompileCalled}
use Rattle.capi.specs.AreaCalls.{ReportCalled}
use Rattle.demands.specs.Lookups.{Lookups}
use Rattle.demands.specs.Thresholds.{Threshold, Thresholds}
use Rattle.demands.specs.Dozen.{Dozen, moved as moved_to}
use Rattle.demands.specs.Parts.{Grammar, Apart, Parts, TwoGrammars}
use Rattle.demands.specs.TreatedLists.{TreatedLists}
use Rattle.demands.specs.Areas.{AreaDemands, ReportDemands}

-- ---- calls: every call on every input ends with an answer or a numbered refusal
abbrev pub is_among : ℕ → List ℕ → Bool
is_among n [] = false
is_among n (m ∷ ms) = eqb n m || is_among n ms

-- an answer, or a refusal by one of the numbers
pub data AnsweredOr {A : Type 0} (numbers : List ℕ) : Told A → Type 0 where
  answer : {a : A} → AnsweredOr numbers (told a)
  refusal : {n : ℕ} → T (is_among n numbers) → AnsweredOr numbers (refused n)

-- a number of states, a refusal from 12 to 20 with its line, or 26
abbrev pub CompiledOr : Compiled → Type 0
CompiledOr (states n) = Unit
CompiledOr (Compiler.faulty n line) = (12 ≤ n) × (n ≤ 20)
CompiledOr (Compiler.refused n) = n ≡ 26

-- each call's numbers, as they are tested
pub record Refusals : Type 0 where
  -- whether there are such an orientation and such a resolution
  pub domain : (o r : ℕ) → AnsweredOr (1 ∷ 2 ∷ []) (domain_of o r)
  -- a triple's parity
  pub parity : (t : Triple) → AnsweredOr (4 ∷ []) (parity_of t)
  -- a triple's flavor
  pub flavor : (r : ℕ) (t : Triple) → AnsweredOr (1 ∷ 4 ∷ 5 ∷ []) (flavor_of r t)
  -- a triple's corner sum
  pub corner_sum_back : (t : Triple) → AnsweredOr (4 ∷ []) (corner_sum_of t)
  -- the triple that has a corner sum
  pub inverse : (p : AB) → AnsweredOr (6 ∷ []) (triple_of p)
  -- the cell that a position names
  pub cell : (o r s : ℕ) → AnsweredOr (1 ∷ 2 ∷ 3 ∷ []) (cell_of o r s)
  -- the position that names a triple, with the looks of its lookup
  pub position : (o r : ℕ) (t : Triple) → AnsweredOr (1 ∷ 2 ∷ 4 ∷ 5 ∷ []) (located_of o r t)
  -- the node of an orientation's axiom
  pub axiom_node : (o : ℕ) → AnsweredOr (2 ∷ []) (axiom_node_of o)
  -- the node of a triple
  pub node : (o r : ℕ) (t : Triple) → AnsweredOr (1 ∷ 2 ∷ 4 ∷ 5 ∷ []) (node_of o r t)
  -- a child step
  pub child : (n : Node) (d : ℕ) → AnsweredOr (7 ∷ 8 ∷ 5 ∷ []) (child_step_of n d)
  -- a point's cell
  pub point : (r : ℕ) (i j : Float) → AnsweredOr (1 ∷ 9 ∷ []) (point_of r i j)
  -- the same by exact fractions
  pub exact_point : (r : ℕ) (i j : Float) → AnsweredOr (1 ∷ 9 ∷ []) (exact_point_of r i j)
  -- a word, reversed or expanded, written to a buffer
  pub word : (word buffer : List ℕ) → AnsweredOr (10 ∷ []) (count_of (told word) buffer)
  -- a text compiled into a part of a table
  pub compiler : (text : List ℕ) (table : List ℤ) (start : ℕ) → CompiledOr (compiled_to text table start)
  -- a part of a table descended, whoever wrote it
  pub descent : (table : List ℤ) (start n r token s : ℕ) → AnsweredOr (26 ∷ 1 ∷ 22 ∷ 3 ∷ []) (descent_in table start n r token s)
  -- the curve drawn into a buffer
  pub drawing : (o r : ℕ) (buffer : List ℤ) → AnsweredOr (23 ∷ 2 ∷ 10 ∷ []) (count_of (draw_call o r) buffer)
  -- a code written
  pub writing : (o r s : ℕ) (buffer : List ℕ) → AnsweredOr (1 ∷ 2 ∷ 28 ∷ 3 ∷ 10 ∷ []) (count_of (code_of o r s) buffer)
  -- a code read: 11 where it is empty, and after 2 where it is cut short
  pub reading : (bytes : List ℕ) → AnsweredOr (11 ∷ 1 ∷ 2 ∷ 24 ∷ []) (read_of bytes)
  -- a list of positions folded
  pub folds : (o r : ℕ) (positions slice : List ℕ) → AnsweredOr (1 ∷ 2 ∷ 3 ∷ 25 ∷ 10 ∷ []) (valued (λ n. n / 2) (count_of (fold_call o r positions) slice))
  -- pairs unfolded
  pub unfolds : (o r : ℕ) (pairs slice : List ℕ) → AnsweredOr (1 ∷ 2 ∷ 3 ∷ 25 ∷ 10 ∷ []) (count_of (unfold_call o r pairs) slice)
  -- two areas made one
  pub areas : (operation : Operation) (a b slice : List ℕ) → AnsweredOr (1 ∷ 3 ∷ 25 ∷ 10 ∷ []) (valued (λ n. n / 2) (count_of (made_call operation a b) slice))
  -- whether an area covers a cell, and how many cells it covers
  pub containing : (a : List ℕ) (m p : ℕ) → AnsweredOr (1 ∷ 3 ∷ 25 ∷ []) (contains_call a m p)
  pub sizes : (a : List ℕ) (r : ℕ) → AnsweredOr (1 ∷ 3 ∷ 25 ∷ []) (size_call a r)
  -- triples reported
  pub reports : (o r : ℕ) (triples : List ℤ) (work slice : List ℕ) → AnsweredOr (1 ∷ 2 ∷ 4 ∷ 5 ∷ 25 ∷ 10 ∷ []) (valued (λ n. n / 2) (count_of (report_to o r triples work slice) slice))
  -- a list mended, and one step of that
  pub mending : (list out : List ℕ) → AnsweredOr (10 ∷ []) (mended_to list out)
  pub mending_step : (rest out : List ℕ) → AnsweredOr (10 ∷ []) (step_of rest out)
  -- a treated list checked
  pub checking : (list : List ℕ) → AnsweredOr (29 ∷ []) (check_of list)
  -- a polygon written
  pub polygon_writing : (r : ℕ) (t : Triple) (buffer : List ℕ) → AnsweredOr (1 ∷ 4 ∷ 5 ∷ 10 ∷ []) (count_of (wkt_of r t) buffer)
  -- a polygon read
  pub polygon_reading : (r : ℕ) (text : List ℕ) → AnsweredOr (1 ∷ 27 ∷ 5 ∷ []) (cell_of_wkt r text)
  -- the query of a line
  pub line : (line : List ℕ) → AnsweredOr (21 ∷ []) (query_of line)
  -- the answer to a query: the numbers of all three kinds
  pub query : (q : Query) → AnsweredOr (1 ∷ 2 ∷ 3 ∷ 4 ∷ 5 ∷ 9 ∷ []) (answer_of q)
  -- a line printed
  pub print : (text buffer : List ℕ) → AnsweredOr (10 ∷ []) (count_of (told text) buffer)

-- ---- lent buffers: a refused call changes none
pub record LentBuffers : Type 1 where
  -- that of a word, of a drawing, of a code, of what is unfolded, or of a line
  pub buffer : {A : Type 0} (call : Told (List A)) (buffer : List A) (n : ℕ) → count_of call buffer ≡ refused n → after_call call buffer ≡ buffer
  -- the table that is lent to the compiler
  pub table : (text : List ℕ) (table : List ℤ) (start : ℕ) → ((n : ℕ) → compiled_to text table start ≡ states n → ⊥) → after_compile text table start ≡ table
  -- that of a fold
  pub folds : (o r : ℕ) (positions slice : List ℕ) (n : ℕ) → valued (λ n. n / 2) (count_of (fold_call o r positions) slice) ≡ refused n → after_call (fold_call o r positions) slice ≡ slice
  -- that of an operation on areas
  pub areas : (operation : Operation) (a b slice : List ℕ) (n : ℕ) → valued (λ n. n / 2) (count_of (made_call operation a b) slice) ≡ refused n → after_call (made_call operation a b) slice ≡ slice
  -- those of a report, work among them
  pub reports : (o r : ℕ) (triples : List ℤ) (work slice : List ℕ) (n : ℕ) → valued (λ n. n / 2) (count_of (report_to o r triples work slice) slice) ≡ refused n
      → (after_call (report_to o r triples work slice) slice ≡ slice) × (after_call (work_to o r triples work slice) work ≡ work)
  -- the slice of a call from C, where its status is not 0
  pub slice : {A : Type 0} (call : Told (List A)) (slice after : List A) (status : ℕ) → Called call slice status after → (status ≡ 0 → ⊥) → after ≡ slice
  -- both slices of one that has two
  pub slices : {A B : Type 0} (call : Told (List A × List B)) (first x : List A) (second y : List B) (status : ℕ) → CalledBoth call first second status x y → (status ≡ 0 → ⊥) → (x ≡ first) × (y ≡ second)
  -- and both of the one that compiles, whose status has the line at fault too
  pub compiled : (text : List ℕ) (table x : List ℤ) (start : ℕ) (out y : List ℕ) (status : ℕ) → CompileCalled text table start out status x y → (status ≡ 0 → ⊥) → (x ≡ table) × (y ≡ out)
  -- and all three of a report
  pub reported : (o r : ℕ) (triples : List ℤ) (work w pairs x count y : List ℕ) (status : ℕ) → ReportCalled o r triples work pairs count status x y w → (status ≡ 0 → ⊥)
      → (x ≡ pairs) × (y ≡ count) × (w ≡ work)

-- ---- corner sums
pub record CornerSums : Type 0 where
  -- the inverse answers t exactly when t has a sum of 0 or 1 and that corner sum, each coordinate is an i32, and the pair is within 2 ^ 34
  pub answered : (p : AB) (t : Triple) → (triple_of p ≡ told t) ↔ HasTriple p t
  -- it refuses by 6 every other pair
  pub refused_else : (p : AB) → (triple_of p ≡ refused 6) ↔ ((t : Triple) → HasTriple p t → ⊥)
  -- no two triples have one corner sum
  pub unique : (t u : Triple) (p : AB) → corner_sum_of t ≡ told p → corner_sum_of u ≡ told p → t ≡ u

-- ---- position and cell
-- the triple that s names, and the position that t gives back, each without its flavor
abbrev pub triple_named : ℕ → ℕ → ℕ → Told Triple
triple_named o r s = cell_of o r s >>= λ c. told c.triple

abbrev pub position_given : ℕ → ℕ → Triple → Told ℕ
position_given o r t = position_of o r t >>= λ p. told p.s

-- at resolution r in orientation o
pub record Numbering (o r : ℕ) : Type 0 where
  -- from 1 up s names the cell that drawn letter number s of A5's curve hosts, counted from either end and moved as the orientation has it
  pub drawn : (s : ℕ) → 1 ≤ r → s < 4 ^ r → cell_of o r s ≡ named o r (drawn_cell o r s)
  -- every position below 4 ^ r names a triple in bounds
  pub in_bounds : (s : ℕ) → s < 4 ^ r → (t : Triple) × (is_in_bounds r t ≡ true) × (triple_named o r s ≡ told t)
  -- every triple in bounds is named by a position below 4 ^ r
  pub all : (t : Triple) → is_in_bounds r t ≡ true → (s : ℕ) × (s < 4 ^ r) × (triple_named o r s ≡ told t)
  -- exactly once: two positions with one triple are one position
  pub once : (s u : ℕ) (t : Triple) → triple_named o r s ≡ told t → triple_named o r u ≡ told t → s ≡ u
  -- the triple gives its position back, and no other
  pub back : (s : ℕ) (t : Triple) → (triple_named o r s ≡ told t) ↔ (position_given o r t ≡ told s)
  -- a triple is refused exactly when no position names it
  pub refused_unnamed : (t : Triple) → ((n : ℕ) × (position_of o r t ≡ refused n)) ↔ ((s : ℕ) → triple_named o r s ≡ told t → ⊥)
  -- the flavor of a position's cell is the closed formula's
  pub flavor : (s : ℕ) (c : Cell) → cell_of o r s ≡ told c → c.flavor ≡ closed_flavor r c.triple
  -- and so is the one that comes with a triple's position
  pub flavor_back : (t : Triple) (p : Position) → position_of o r t ≡ told p → p.flavor ≡ closed_flavor r t

-- ---- child steps: from the node of the orientation's own axiom, by the digits of s, highest first
pub record ChildSteps (o r s : ℕ) : Type 0 where
  -- r steps arrive at a node that is good and has the walk's orientation and its own level, as had each before it
  pub node : (n : Node) × (walked_node o r s ≡ told n) × (good_node n ≡ true) × (n.orientation ≡ o) × (n.resolution ≡ r)
  -- the last of them reaches exactly the cell that s names
  pub cell : 1 ≤ r → (last_step o r s >>= λ c. told c.cell) ≡ cell_of o r s
  -- the node of that cell is where the walk arrives
  pub arrives : (t : Triple) → position_given o r t ≡ told s → (node_of o r t >>= λ p. told p.node) ≡ walked_node o r s

-- of a step from any node at all that is answered
pub record ChildStepFrom (n : Node) (c : ChildStep) : Type 0 where
  -- its cell is in bounds at the node's resolution plus one
  pub in_bounds : is_in_bounds (n.resolution + 1) c.cell.triple ≡ true
  -- and its node goes on in the same walk: no step leads to another orientation's or resolution's numbering
  pub orientation : c.node.orientation ≡ n.orientation
  pub resolution : c.node.resolution ≡ n.resolution + 1

-- ---- points
pub record Points : Type 0 where
  -- the triple is that of the floors and the parity, a negative floor 0 and what is above the last row taken off parity, m and n
  pub triple : (r : ℕ) (i j : Float) (p : PointCell) → point_of r i j ≡ told p → p.triple ≡ settled (2 ^ r - 1) (clamped (floor i)) (clamped (floor j)) (parity i j)
  -- it is always in bounds
  pub in_bounds : (r : ℕ) (i j : Float) (p : PointCell) → point_of r i j ≡ told p → is_in_bounds r p.triple ≡ true
  -- the point was moved exactly when the triple of its own floors and parity, (-n, m + n + parity, -m), is out of bounds
  pub moved : (r : ℕ) (i j : Float) (p : PointCell) → point_of r i j ≡ told p → (p.moved ≡ true) ↔ (is_in_bounds r (own_triple (floor i) (floor j) (parity i j)) ≡ false)
  -- where it was not, that triple is the answer
  pub unmoved : (r : ℕ) (i j : Float) (p : PointCell) → point_of r i j ≡ told p → p.moved ≡ false → p.triple ≡ own_triple (floor i) (floor j) (parity i j)

-- ---- points by exact fractions
pub record ExactPoints : Type 0 where
  -- where the two parities of two f64 differ, the rounded one is 1 and the exact one is 0
  pub differ : (i j : Float) → fits binary64 i ≡ true → fits binary64 j ≡ true → (near i && near j) ≡ true → (parity i j ≡ exact_parity i j → ⊥) → (parity i j ≡ 1) × (exact_parity i j ≡ 0)
  -- what is refused is what the rounded mode refuses, by the same number
  pub same_refusals : (r : ℕ) (i j : Float) (n : ℕ) → (point_of r i j ≡ refused n) ↔ (exact_point_of r i j ≡ refused n)
  -- the triple is that of the floors and the exact parity, brought into bounds as in the rounded mode
  pub triple : (r : ℕ) (i j : Float) (p : PointCell) → exact_point_of r i j ≡ told p → p.triple ≡ settled (2 ^ r - 1) (clamped (floor i)) (clamped (floor j)) (exact_parity i j)
  -- it is always in bounds
  pub in_bounds : (r : ℕ) (i j : Float) (p : PointCell) → exact_point_of r i j ≡ told p → is_in_bounds r p.triple ≡ true
  -- the point was moved exactly when the triple of its own floors and exact parity is out of bounds
  pub moved : (r : ℕ) (i j : Float) (p : PointCell) → exact_point_of r i j ≡ told p → (p.moved ≡ true) ↔ (is_in_bounds r (own_triple (floor i) (floor j) (exact_parity i j)) ≡ false)
  -- where it was not, that triple is the answer, and the point lies in its triangle
  pub unmoved : (r : ℕ) (i j : Float) (p : PointCell) → exact_point_of r i j ≡ told p → p.moved ≡ false → p.triple ≡ own_triple (floor i) (floor j) (exact_parity i j)
  pub lies_in : (r : ℕ) (i j : Float) (p : PointCell) → exact_point_of r i j ≡ told p → p.moved ≡ false → LiesIn p.triple i j
  -- (-2^-60, 0) at resolution 1 is (0,1,0) in the rounded mode and (0,0,0) here
  pub edge_rounded : point_of 1 (fin true 1 (negsuc 59)) (fin false 0 (pos 0)) ≡ moved_to (pos 0) (pos 1) (pos 0)
  pub edge_exact : exact_point_of 1 (fin true 1 (negsuc 59)) (fin false 0 (pos 0)) ≡ moved_to (pos 0) (pos 0) (pos 0)

-- ---- drawings without tables
pub record DrawingRefusals : Type 0 where
  -- resolution 0 or above 6 is 23, tested first
  pub none : (o : ℕ) (buffer : List ℤ) → count_of (draw_call o 0) buffer ≡ refused 23
  pub deep : (o r : ℕ) (buffer : List ℤ) → 6 < r → count_of (draw_call o r) buffer ≡ refused 23
  -- then an orientation above 5, by 2
  pub orientation : (o r : ℕ) (buffer : List ℤ) → 1 ≤ r → r ≤ 6 → 5 < o → count_of (draw_call o r) buffer ≡ refused 2
  -- and a short buffer last, by 10
  pub room : (o r : ℕ) (buffer : List ℤ) → 1 ≤ r → r ≤ 6 → o ≤ 5 → length buffer < 4 * 4 ^ r → count_of (draw_call o r) buffer ≡ refused 10

-- of every other call
pub record Drawing (o r : ℕ) (buffer : List ℤ) : Type 0 where
  -- it writes triple and flavor of 4 ^ r cells
  pub count : count_of (draw_call o r) buffer ≡ told (4 * 4 ^ r)
  -- in order: entries 4 s to 4 s + 3 are those of the cell that s names
  pub cell : (s : ℕ) → s < 4 ^ r → cell_call o r s ≡ told (take 4 (drop (4 * s) (after_call (draw_call o r) buffer)))
  -- and the same, place by place, as those of the cell that the descent over A5's table gives, wherever the compiler left that table
  pub descent : (table : List ℤ) (start s : ℕ) → start + 41 * 28 ≤ length table → s < 4 ^ r → descended (after_compile a5_text table start) start o r s ≡ told (take 4 (drop (4 * s) (after_call (draw_call o r) buffer)))
  -- entries past the last cell stay
  pub past : drop (4 * 4 ^ r) (after_call (draw_call o r) buffer) ≡ drop (4 * 4 ^ r) buffer

-- ---- position codes: of one that was written in n bytes
pub record Code (o r s : ℕ) (buffer : List ℕ) (n : ℕ) : Type 0 where
  -- its length is 1 + ceil (r / 4)
  pub long : n ≡ 1 + (r + 3) / 4
  -- no byte past it is touched
  pub past : drop n (after_call (code_of o r s) buffer) ≡ drop n buffer
  -- it reads back, whatever follows it, and without the mark
  pub back : read_of (after_call (code_of o r s) buffer) ≡ told (record { orientation = o; resolution = r; s = s; used = n; old = false })

-- a code as it is read, of s in the orientation o at resolution r, whoever wrote it and whatever follows it
pub record CodeRead (o r s : ℕ) : Type 0 where
  -- of UV, UW or WV: as it stands, without the mark
  pub kept : is_backward o ≡ false → (rest : List ℕ) → read_of (code_bytes o r s ++ rest) ≡ told (record { orientation = o; resolution = r; s = s; used = code_length r; old = false })
  -- of VU, WU or VW: in the orientation that runs the same curve forward, with 4 ^ r - 1 - s, and the mark
  pub turned : is_backward o ≡ true → (rest : List ℕ) → read_of (code_bytes o r s ++ rest) ≡ told (record { orientation = forward_of o; resolution = r; s = 4 ^ r - 1 - s; used = code_length r; old = true })
  -- which is one that is written
  pub forward : is_backward (forward_of o) ≡ false
  -- and names the cell that the code's own orientation and position do
  pub cell : is_backward o ≡ true → cell_of (forward_of o) r (4 ^ r - 1 - s) ≡ cell_of o r s

-- a whole code: bytes that are read, and used to the last of them
pub record WholeCode (bytes : List ℕ) (x : Reading) : Type 0 where
  pub small : Bytes bytes
  pub reads : read_of bytes ≡ told x
  pub used : x.used ≡ length bytes

-- two readings with one orientation, one resolution and one position
abbrev pub Alike : Reading → Reading → Type 0
Alike x y = (x.orientation ≡ y.orientation) × (x.resolution ≡ y.resolution) × (x.s ≡ y.s)

pub record WholeCodes : Type 0 where
  -- a whole code is the code of a position in some orientation
  pub own : (bytes : List ℕ) (x : Reading) → WholeCode bytes x → (o s : ℕ) × (o ≤ 5) × (s < 4 ^ x.resolution) × (code_bytes o x.resolution s ≡ bytes)
  -- without the mark, two are read alike exactly when their bytes are the same
  pub one : (a b : List ℕ) (x y : Reading) → WholeCode a x → WholeCode b y → x.old ≡ false → y.old ≡ false → Alike x y ↔ (a ≡ b)
  -- marked or not, two that are read alike name the same cell by their own orientations and positions
  pub same_cell : (o r s p q t : ℕ) (x y : Reading) → o ≤ 5 → r ≤ 30 → s < 4 ^ r → p ≤ 5 → q ≤ 30 → t < 4 ^ q
      → WholeCode (code_bytes o r s) x → WholeCode (code_bytes p q t) y → Alike x y → cell_of o r s ≡ cell_of p q t

-- ---- folding: of a list of positions at resolution r that is folded to these pairs
pub record Folding (o r : ℕ) (positions pairs : List ℕ) : Type 0 where
  -- each number has its partner
  pub paired : length pairs % 2 ≡ 0
  -- where a slice has room for them, the answer is how many pairs they are, and they stand at its front
  pub count : (slice : List ℕ) → length pairs ≤ length slice → valued (λ n. n / 2) (count_of (fold_call o r positions) slice) ≡ told (length (cells_in pairs))
  pub front : (slice : List ℕ) → length pairs ≤ length slice → take (length pairs) (after_call (fold_call o r positions) slice) ≡ pairs
  -- its other entries stay
  pub past : (slice : List ℕ) → drop (length pairs) (after_call (fold_call o r positions) slice) ≡ drop (length pairs) slice
  -- the cells cover the same positions
  pub ground : (s : ℕ) → Covered r (cells_in pairs) s ↔ (has positions s ≡ true)
  -- no four siblings stand among them together
  pub siblings : Lone (cells_in pairs)
  -- no shorter list of whole cells covers the same ground, in whatever order, overlapping or not, and however fine: the ground is told by the
  -- positions of any resolution from r up
  pub shortest : (q : ℕ) → r ≤ q → (cells : List WholeCell) → ((s : ℕ) → Covered q cells s ↔ Covered q (cells_in pairs) s) → length (cells_in pairs) ≤ length cells
  -- they are in curve order: each begins where the one before it ends, or behind that
  pub order : apart r 0 (cells_in pairs) ≡ true
  -- unfolding them to the old resolution gives the list back
  pub back : unfold_call o r pairs ≡ told positions
  -- no other pairs without four siblings unfold to it
  pub only : (others : List ℕ) → unfold_call o r others ≡ told positions → Lone (cells_in others) → others ≡ pairs
  -- folding four children into their parent, again and again, comes there from the single positions
  pub reached : Foldings (cells_in pairs) (cells_of r positions)
  -- in any order it ends there and nowhere else
  pub ends : (last : List WholeCell) → Foldings last (cells_of r positions) → Ended last → last ≡ cells_in pairs
  -- and it ends, since each step takes three cells away
  pub shorter : (cells next : List WholeCell) → Step cells next → length cells ≡ length next + 3

-- ---- unfolding: of pairs that are unfolded to these positions
pub record Unfolding (o r : ℕ) (pairs positions : List ℕ) : Type 0 where
  -- where a slice has room for them, the answer is how many they are, and they stand at its front
  pub count : (slice : List ℕ) → length positions ≤ length slice → count_of (unfold_call o r pairs) slice ≡ told (length positions)
  pub front : (slice : List ℕ) → length positions ≤ length slice → take (length positions) (after_call (unfold_call o r pairs) slice) ≡ positions
  -- its other entries stay
  pub past : (slice : List ℕ) → drop (length positions) (after_call (unfold_call o r pairs) slice) ≡ drop (length positions) slice
  -- they are those that the cells cover
  pub ground : (s : ℕ) → Covered r (cells_in pairs) s ↔ (has positions s ≡ true)
  -- strictly ascending
  pub order : ascending positions ≡ true
  -- folding them gives the pairs back where these were folded, that is, where no four siblings stand among them
  pub back : Lone (cells_in pairs) → fold_call o r positions ≡ told pairs

-- ---- mending a list of codes
pub record Mending (list : List ℕ) : Type 0 where
  -- what is written reads from its beginning to its end as codes without the mark
  pub sound : Sound (mend_of list)
  -- to mend it again changes nothing, and no change is told
  pub again : (mend_of (mend_of list) ≡ mend_of list) × (changes_of (mend_of list) ≡ [])
  -- it is never longer than the list
  pub short : length (mend_of list) ≤ length list
  -- it goes to the front of an output as long as the list, and the bytes past it stay
  pub past : (out : List ℕ) → length list ≤ length out → after_call (mend_call list out) out ≡ mend_of list ++ drop (length (mend_of list)) out
  -- a shorter one is refused by 10, and stays as it was
  pub refused_short : (out : List ℕ) → length out < length list → (mended_to list out ≡ refused 10) × (after_call (mend_call list out) out ≡ out)
  -- each line's offset is where a code or byte begins, and its change is told of that
  pub offsets : Every (Reported list) (changes_of list)
  -- a list of sound codes without the mark comes out as it was
  pub kept : Sound list → mend_of list ≡ list
  -- and of no other list no change is told
  pub unchanged : (changes_of list ≡ []) ↔ Sound list
  -- it may come in parts: nine bytes at the front tell the first step of the whole, and mending goes on behind it
  pub in_parts : (front more : List ℕ) → list ≡ front ++ more → longest_code ≤ length front
      → (piece_of list ≡ piece_of front) × (mend_of list ≡ (piece_of front).bytes ++ mend_of (drop (piece_of front).taken front ++ more))

-- ---- polygons
-- a text is the polygon of a cell: of a triple of three i32 with sum 0 or 1
pub record IsPolygon (text : List ℕ) (t : Triple) : Type 0 where
  pub good : good_sum t ≡ true
  pub three : ThreeI32 t
  pub text_is : text ≡ polygon_text t

pub record Polygons : Type 0 where
  -- the three corners are the cell's own: their sum is its corner sum
  pub corners : (t : Triple) → good_sum t ≡ true → (cell_corners t).p ⊕ (cell_corners t).q ⊕ (cell_corners t).r ≡ corner_sum t
  -- what is exported is their ring, the first of them repeated
  pub ring : (r : ℕ) (t : Triple) (text : List ℕ) → wkt_of r t ≡ told text → text ≡ ring_text (cell_corners t)
  -- in at most 106 bytes
  pub long : (r : ℕ) (t : Triple) (text : List ℕ) → wkt_of r t ≡ told text → length text ≤ 106
  -- import of an export gives the triple back, whatever the buffer held
  pub back : (r : ℕ) (t : Triple) (buffer : List ℕ) (n : ℕ) → count_of (wkt_of r t) buffer ≡ told n → cell_of_wkt r (take n (after_call (wkt_of r t) buffer)) ≡ told t
  -- export of an import gives the text back, byte for byte
  pub forth : (r : ℕ) (text : List ℕ) (t : Triple) → cell_of_wkt r text ≡ told t → wkt_of r t ≡ told text
  -- text that is no cell's polygon, of another spelling or with corners of no cell, is refused by 27
  pub other : (r : ℕ) (text : List ℕ) → r ≤ 30 → ((t : Triple) → IsPolygon text t → ⊥) → cell_of_wkt r text ≡ refused 27
  -- and that of a cell which is not in bounds by 5
  pub outside : (r : ℕ) (text : List ℕ) (t : Triple) → r ≤ 30 → IsPolygon text t → is_in_bounds r t ≡ false → cell_of_wkt r text ≡ refused 5

-- ---- ALL THAT WAS ASKED
pub record Demands : Type 1 where
  -- every call on every input ends with an answer or a numbered refusal
  pub refusals : Refusals
  -- and changes no lent buffer where it is refused
  pub lent_buffers : LentBuffers
  -- for every pair and every triple
  pub corner_sums : CornerSums
  -- at resolutions 0 to 30 and in six orientations
  pub numbering : (o r : ℕ) → o ≤ 5 → r ≤ 30 → Numbering o r
  -- for every triple and every resolution, in every orientation
  pub lookups : Lookups
  -- at resolutions 2 to 30, in six orientations, for every triple in bounds; and for every state of A5's table
  pub threshold : (o r : ℕ) (t : Triple) → o ≤ 5 → 2 ≤ r → r ≤ 30 → is_in_bounds r t ≡ true → Threshold o r t
  pub thresholds : Thresholds
  -- there, for every position
  pub child_steps : (o r s : ℕ) → o ≤ 5 → r ≤ 30 → s < 4 ^ r → ChildSteps o r s
  -- for every node and every digit
  pub child_step : (n : Node) (d : ℕ) (c : ChildStep) → child_step_of n d ≡ told c → ChildStepFrom n c
  -- for every point and every resolution
  pub points : Points
  pub exact_points : ExactPoints
  -- for every text, every table, every start and every number of states that the compiler answers
  pub grammars : (text : List ℕ) (table : List ℤ) (start n : ℕ) → compiled_to text table start ≡ states n → Grammar text table start n
  -- of A5's text it answers 28, in whatever part has the room
  pub a5 : (table : List ℤ) (start : ℕ) → start + 41 * 28 ≤ length table → compiled_to a5_text table start ≡ states 28
  -- for all parts of all tables
  pub parts : Parts
  -- for every two texts, in parts that are apart
  pub two_grammars : (text other : List ℕ) (table : List ℤ) (start n place m : ℕ) → compiled_to text table start ≡ states n → compiled_to other (after_compile text table start) place ≡ states m → Apart start n place m
      → TwoGrammars text other table start n place m
  -- at every resolution, in every orientation, into every buffer
  pub drawing_refusals : DrawingRefusals
  -- with 1 to 6 passes, in six orientations, into every buffer that has the room
  pub drawings : (o r : ℕ) (buffer : List ℤ) → 1 ≤ r → r ≤ 6 → o ≤ 5 → 4 * 4 ^ r ≤ length buffer → Drawing o r buffer
  -- for everything that the writer answers, whatever its buffer held
  pub codes : (o r s : ℕ) (buffer : List ℕ) (n : ℕ) → count_of (code_of o r s) buffer ≡ told n → Code o r s buffer n
  -- for every position in every orientation
  pub codes_read : (o r s : ℕ) → o ≤ 5 → r ≤ 30 → s < 4 ^ r → CodeRead o r s
  -- for every list of bytes
  pub whole_codes : WholeCodes
  -- for every list that is folded
  pub folds : (o r : ℕ) (positions pairs : List ℕ) → fold_call o r positions ≡ told pairs → Folding o r positions pairs
  -- the empty list folds to the empty list
  pub fold_empty : (o r : ℕ) → o ≤ 5 → r ≤ 30 → fold_call o r [] ≡ told []
  -- for all pairs that are unfolded
  pub unfolds : (o r : ℕ) (pairs positions : List ℕ) → unfold_call o r pairs ≡ told positions → Unfolding o r pairs positions
  -- for all areas
  pub areas : AreaDemands
  -- for all triples
  pub reports : ReportDemands
  -- for every list of bytes
  pub mending : (list : List ℕ) → Bytes list → Mending list
  -- for every list
  pub treated_lists : TreatedLists
  -- for every triple, every text and every resolution
  pub polygons : Polygons
  -- the twelve worked examples
  pub dozen : Dozen
