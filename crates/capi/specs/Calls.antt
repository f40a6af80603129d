-- Each call's values, in the order in which it writes them.
use Rattle.std.specs.Prelude.{◌≡◌, cond, List, [], ◌∷◌, ℕ, ◌+◌, ◌*◌, ◌/◌, ltb, ℤ, pos, negsuc, length, Float}
use Rattle.triple.specs.declared.Triple.{Triple}
use Rattle.triple.specs.declared.refusal.Refusal.TheVariants as Is
use Rattle.triple.specs.Refusals.{Told, told, refused, number_of, ◌>>=◌}
use Rattle.turtle.specs.declared.AB.{AB}
use Rattle.turtle.specs.Corners.{corner_sum_of, triple_of}
use Rattle.nodes.specs.declared.Node.{Node}
use Rattle.nodes.specs.declared.ChildStep.{ChildStep}
use Rattle.nodes.specs.declared.Reached.{Reached}
use Rattle.lsystem.specs.Cells.{cell_of, cell_values}
use Rattle.lsystem.specs.Looks.{located_of, located_values}
use Rattle.nodes.specs.Nodes.{child_step_of, node_of}
use Rattle.tables.specs.Descent.{Leaf, descent_in}
use Rattle.curve.specs.declared.PointCell.{PointCell}
use Rattle.curve.specs.Points.{mark_of, point_of}
use Rattle.curve.specs.ExactPoints.{exact_point_of}
use Rattle.code.specs.declared.Reading.{Reading}
use Rattle.code.specs.Codes.{code_of, read_of}
use Rattle.fold.specs.Folds.{fold_call}
use Rattle.fold.specs.Unfolds.{unfold_call}
use Rattle.mend.specs.declared.Change.{Change}
use Rattle.mend.specs.declared.Stepped.{Stepped}
use Rattle.mend.specs.declared.Tally.{Tally}
use Rattle.mend.specs.Mends.{piece_of, changes_of, mend_call}
use Rattle.polygon.specs.Polygons.{wkt_of, cell_of_wkt}
use Rattle.query.specs.Lines.{answer_line}
use Rattle.tables.specs.Compiler.{Compiled, states, faulty, compiled_in, after_compile}
use Rattle.tables.specs.Compiler as Compiler
use Rattle.triple.specs.Lent.{valued, status_of, after_call, counting}

-- x y z
abbrev pub triple_values : Triple → List ℤ
triple_values t = t.x ∷ t.y ∷ t.z ∷ []

-- x y z moved
abbrev pub point_values : PointCell → List ℤ
point_values p = p.triple.x ∷ p.triple.y ∷ p.triple.z ∷ pos (mark_of p) ∷ []

-- orientation resolution motif flip
abbrev pub node_numbers : Node → List ℤ
node_numbers n = pos n.orientation ∷ pos n.resolution ∷ pos n.frame.motif ∷ pos n.frame.flip ∷ []

-- the two positions
abbrev pub node_places : Node → List Float
node_places n = n.frame.pos_a ∷ n.frame.pos_b ∷ []

abbrev pub node_values : Node → List ℤ × List Float
node_values n = (node_numbers n, node_places n)

-- x y z flavor of the cell and then its node's
abbrev pub step_values : ChildStep → List ℤ × List Float
step_values c =
    (c.cell.triple.x ∷ c.cell.triple.y ∷ c.cell.triple.z ∷ pos c.cell.flavor ∷ node_numbers c.node, node_places c.node)

-- a b
abbrev pub pair_values : AB → List ℤ
pair_values p = p.a ∷ p.b ∷ []

-- a b flavor
abbrev pub drawn_values : Leaf → List ℤ
drawn_values l = l.sum.a ∷ l.sum.b ∷ l.flavor ∷ []

-- count
abbrev pub count_values : ℕ → List ℕ
count_values n = n ∷ []

-- o r s count old, 0 or 1
abbrev pub reading_values : Reading → List ℕ
reading_values r = r.orientation ∷ r.resolution ∷ r.s ∷ r.used ∷ cond r.old 1 0 ∷ []

abbrev pub cell_call : ℕ → ℕ → ℕ → Told (List ℤ)
cell_call o r s = valued cell_values (cell_of o r s)

abbrev pub position_call : ℕ → ℕ → ℤ → ℤ → ℤ → Told (List ℕ)
position_call o r x y z = valued located_values (located_of o r (record { x = x; y = y; z = z }))

abbrev pub node_call : ℕ → ℕ → ℤ → ℤ → ℤ → Told (List ℤ × List Float)
node_call o r x y z = valued (λ (p : Reached). node_values p.node) (node_of o r (record { x = x; y = y; z = z }))

-- the node of the numbers that a call is given: a negative motif or flip is no node's
abbrev pub node_given : ℕ → ℕ → ℤ → ℤ → Float → Float → Told Node
node_given o r (pos m) (pos f) a b = told (record { orientation = o; resolution = r; frame = record { motif = m; flip = f; pos_a = a; pos_b = b } })
node_given o r (pos m) (negsuc f) a b = refused (number_of Is.Node)
node_given o r (negsuc m) f a b = refused (number_of Is.Node)

unfoldable pub step_call : ℕ → ℕ → ℤ → ℤ → Float → Float → ℕ → Told (List ℤ × List Float)
step_call o r m f a b d = do
  n ← node_given o r m f a b
  valued step_values (child_step_of n d)

abbrev pub point_call : Float → Float → ℕ → Told (List ℤ)
point_call i j r = valued point_values (point_of r i j)

abbrev pub exact_point_call : Float → Float → ℕ → Told (List ℤ)
exact_point_call i j r = valued point_values (exact_point_of r i j)

abbrev pub corner_call : ℤ → ℤ → ℤ → Told (List ℤ)
corner_call x y z = valued pair_values (corner_sum_of (record { x = x; y = y; z = z }))

abbrev pub triple_call : ℤ → ℤ → Told (List ℤ)
triple_call a b = valued triple_values (triple_of (record { a = a; b = b }))

abbrev pub descend_call : List ℤ → ℕ → ℕ → ℕ → ℕ → ℕ → Told (List ℤ)
descend_call table start count passes token s = valued drawn_values (descent_in table start count passes token s)

abbrev pub read_call : List ℕ → Told (List ℕ)
read_call bytes = valued reading_values (read_of bytes)

-- the code's bytes, and their count
abbrev pub write_call : ℕ → ℕ → ℕ → Told (List ℕ × List ℕ)
write_call o r s = counting (λ n. n) (code_of o r s)

-- the pairs of a fold, and how many they are
abbrev pub folded_call : ℕ → ℕ → List ℕ → Told (List ℕ × List ℕ)
folded_call o r positions = counting (λ n. n / 2) (fold_call o r positions)

-- the positions that pairs cover, and how many they are
abbrev pub unfolded_call : ℕ → ℕ → List ℕ → Told (List ℕ × List ℕ)
unfolded_call o r pairs = counting (λ n. n) (unfold_call o r pairs)

-- written changes
abbrev pub tally_values : Tally → List ℕ
tally_values t = t.written ∷ t.changes ∷ []

-- the mended list, where `out` is as long as the list; its length and the number of changes
abbrev pub mend_both : List ℕ → List ℕ → Told (List ℕ × List ℕ)
mend_both list out = valued (λ bytes. (bytes, tally_values (record { written = length bytes; changes = length (changes_of list) }))) (mend_call list out)

-- a change by its number
unfoldable pub change_number : Change → ℕ
change_number Change.Kept = 0
change_number Change.Spare = 1
change_number Change.Turned = 2
change_number Change.Both = 3
change_number Change.Dropped = 4

-- taken written change
abbrev pub stepped_values : Stepped → List ℕ
stepped_values x = x.taken ∷ x.written ∷ change_number x.change ∷ []

-- what the first step of mending writes; how many bytes it takes and writes, and the change
abbrev pub mend_step_both : List ℕ → Told (List ℕ × List ℕ)
mend_step_both rest = valued (λ bytes. (bytes, stepped_values (record { taken = (piece_of rest).taken; written = length bytes; change = (piece_of rest).change }))) (told (piece_of rest).bytes)

-- a polygon's text, and its length
abbrev pub wkt_write_call : ℕ → ℤ → ℤ → ℤ → Told (List ℕ × List ℕ)
wkt_write_call r x y z = counting (λ n. n) (wkt_of r (record { x = x; y = y; z = z }))

abbrev pub wkt_read_call : ℕ → List ℕ → Told (List ℤ)
wkt_read_call r text = valued triple_values (cell_of_wkt r text)

-- the answer to a line as the program prints it, without LF, and its length
abbrev pub line_call : List ℕ → Told (List ℕ × List ℕ)
line_call line = counting (λ n. n) (told (answer_line line))

-- the number of states, or the refusal's number
abbrev pub compiled_values : Compiled → Told (List ℕ)
compiled_values (states n) = told (count_values n)
compiled_values (faulty n line) = refused n
compiled_values (Compiler.refused n) = refused n

-- the number of the line at fault, from 1; 0 where no line is
abbrev pub fault_line : Compiled → ℕ
fault_line (states n) = 0
fault_line (faulty n line) = line
fault_line (Compiler.refused n) = 0

-- the status: the refusal's number in the low byte, the line at fault in the high byte; 0 where the text is compiled
unfoldable pub compile_status : List ℕ → ℕ → ℕ → List ℕ → ℕ
compile_status text size start out = let c = compiled_in text size start in 256 * fault_line c + status_of (compiled_values c) out

-- the table, which is written where the number of states has a place in the other slice
unfoldable pub table_after : List ℕ → List ℤ → ℕ → List ℕ → List ℤ
table_after text table start out = cond (ltb (length out) 1) table (after_compile text table start)

-- and that other slice
unfoldable pub count_after : List ℕ → ℕ → ℕ → List ℕ → List ℕ
count_after text size start out = after_call (compiled_values (compiled_in text size start)) out

-- the status and both slices afterwards are the compiler's
abbrev pub CompileCalled : List ℕ → List ℤ → ℕ → List ℕ → ℕ → List ℤ → List ℕ → Type 0
CompileCalled text table start out n x y =
    (n ≡ compile_status text (length table) start out) × (x ≡ table_after text table start out) × (y ≡ count_after text (length table) start out)
