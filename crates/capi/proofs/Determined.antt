-- Each contract of this crate allows one result alone: one status, and one content of every slice that is lent to be written.
use mathlib.Core.Path.{◌≡◌, sym, ◌∙◌}
use mathlib.Core.List.{List}
use Prim.Native.Nat.{ℕ}
use lib.IntN.{ℤ}
use lib.Ieee.{Float}
use Rattle.triple.specs.Refusals.{Told}
use Rattle.triple.specs.Lent.{Called, CalledBoth}
use Rattle.sketch.specs.Drawings.{draw_call}
use Rattle.capi.specs.Verdicts.{check_call}
use Rattle.capi.specs.Calls.{cell_call, position_call, node_call, step_call, point_call, exact_point_call, corner_call, triple_call, write_call, read_call, wkt_write_call, wkt_read_call, folded_call, unfolded_call, mend_both, mend_step_both, line_call, descend_call, CompileCalled}
use Rattle.area.specs.declared.operation.Operation.TheVariants as For
use Rattle.capi.specs.AreaCalls.{combined_call, area_contains_call, area_size_call, ReportCalled}

-- ---- whatever the call gives
module _ {A : Type 0} (call : Told (List A)) (slice : List A) where
  called_once : (m n : ℕ) (x y : List A) → Called call slice m x → Called call slice n y → (m ≡ n) × (x ≡ y)
  called_once m n x y p q = (p.0 ∙ sym q.0, p.1 ∙ sym q.1)

module _ {A B : Type 0} (call : Told (List A × List B)) (first : List A) (second : List B) where
  called_both_once : (m n : ℕ) (v w : List A) (x y : List B) → CalledBoth call first second m v x → CalledBoth call first second n w y → (m ≡ n) × (v ≡ w) × (x ≡ y)
  called_both_once m n v w x y p q = (p.0 ∙ sym q.0, p.1 ∙ sym q.1, p.2 ∙ sym q.2)

-- ---- the operations
pub hb_cell_determined : (o r s : ℕ) (out : List ℤ) (m n : ℕ) (x y : List ℤ) → Called (cell_call o r s) out m x → Called (cell_call o r s) out n y → (m ≡ n) × (x ≡ y)
hb_cell_determined o r s = called_once (cell_call o r s)

pub hb_draw_determined : (o r : ℕ) (out : List ℤ) (m n : ℕ) (x y : List ℤ) → Called (draw_call o r) out m x → Called (draw_call o r) out n y → (m ≡ n) × (x ≡ y)
hb_draw_determined o r = called_once (draw_call o r)

pub hb_position_determined : (o r : ℕ) (x y z : ℤ) (out : List ℕ) (m n : ℕ) (v w : List ℕ)
    → Called (position_call o r x y z) out m v → Called (position_call o r x y z) out n w → (m ≡ n) × (v ≡ w)
hb_position_determined o r x y z = called_once (position_call o r x y z)

pub hb_node_determined : (o r : ℕ) (x y z : ℤ) (numbers : List ℤ) (places : List Float) (m n : ℕ) (t u : List ℤ) (v w : List Float)
    → CalledBoth (node_call o r x y z) numbers places m t v → CalledBoth (node_call o r x y z) numbers places n u w → (m ≡ n) × (t ≡ u) × (v ≡ w)
hb_node_determined o r x y z = called_both_once (node_call o r x y z)

pub hb_child_determined : (o r : ℕ) (motif flip : ℤ) (a b : Float) (d : ℕ) (numbers : List ℤ) (places : List Float) (m n : ℕ) (t u : List ℤ) (v w : List Float)
    → CalledBoth (step_call o r motif flip a b d) numbers places m t v → CalledBoth (step_call o r motif flip a b d) numbers places n u w → (m ≡ n) × (t ≡ u) × (v ≡ w)
hb_child_determined o r motif flip a b d = called_both_once (step_call o r motif flip a b d)

pub hb_point_determined : (i j : Float) (r : ℕ) (out : List ℤ) (m n : ℕ) (x y : List ℤ) → Called (point_call i j r) out m x → Called (point_call i j r) out n y → (m ≡ n) × (x ≡ y)
hb_point_determined i j r = called_once (point_call i j r)

pub hb_point_exact_determined : (i j : Float) (r : ℕ) (out : List ℤ) (m n : ℕ) (x y : List ℤ) → Called (exact_point_call i j r) out m x → Called (exact_point_call i j r) out n y → (m ≡ n) × (x ≡ y)
hb_point_exact_determined i j r = called_once (exact_point_call i j r)

pub hb_corner_sum_determined : (x y z : ℤ) (out : List ℤ) (m n : ℕ) (v w : List ℤ) → Called (corner_call x y z) out m v → Called (corner_call x y z) out n w → (m ≡ n) × (v ≡ w)
hb_corner_sum_determined x y z = called_once (corner_call x y z)

pub hb_triple_determined : (a b : ℤ) (out : List ℤ) (m n : ℕ) (x y : List ℤ) → Called (triple_call a b) out m x → Called (triple_call a b) out n y → (m ≡ n) × (x ≡ y)
hb_triple_determined a b = called_once (triple_call a b)

pub hb_code_write_determined : (o r s : ℕ) (bytes out : List ℕ) (m n : ℕ) (v w x y : List ℕ)
    → CalledBoth (write_call o r s) bytes out m v x → CalledBoth (write_call o r s) bytes out n w y → (m ≡ n) × (v ≡ w) × (x ≡ y)
hb_code_write_determined o r s = called_both_once (write_call o r s)

pub hb_code_read_determined : (bytes out : List ℕ) (m n : ℕ) (x y : List ℕ) → Called (read_call bytes) out m x → Called (read_call bytes) out n y → (m ≡ n) × (x ≡ y)
hb_code_read_determined bytes = called_once (read_call bytes)

pub hb_fold_determined : (o r : ℕ) (positions pairs count : List ℕ) (m n : ℕ) (v w x y : List ℕ)
    → CalledBoth (folded_call o r positions) pairs count m v x → CalledBoth (folded_call o r positions) pairs count n w y → (m ≡ n) × (v ≡ w) × (x ≡ y)
hb_fold_determined o r positions = called_both_once (folded_call o r positions)

pub hb_unfold_determined : (o r : ℕ) (pairs positions count : List ℕ) (m n : ℕ) (v w x y : List ℕ)
    → CalledBoth (unfolded_call o r pairs) positions count m v x → CalledBoth (unfolded_call o r pairs) positions count n w y → (m ≡ n) × (v ≡ w) × (x ≡ y)
hb_unfold_determined o r pairs = called_both_once (unfolded_call o r pairs)

pub hb_mend_determined : (list out counts : List ℕ) (m n : ℕ) (v w x y : List ℕ)
    → CalledBoth (mend_both list out) out counts m v x → CalledBoth (mend_both list out) out counts n w y → (m ≡ n) × (v ≡ w) × (x ≡ y)
hb_mend_determined list out = called_both_once (mend_both list out) out

pub hb_mend_step_determined : (rest out counts : List ℕ) (m n : ℕ) (v w x y : List ℕ)
    → CalledBoth (mend_step_both rest) out counts m v x → CalledBoth (mend_step_both rest) out counts n w y → (m ≡ n) × (v ≡ w) × (x ≡ y)
hb_mend_step_determined rest = called_both_once (mend_step_both rest)

pub hb_check_determined : (list out : List ℕ) (m n : ℕ) (x y : List ℕ) → Called (check_call list) out m x → Called (check_call list) out n y → (m ≡ n) × (x ≡ y)
hb_check_determined list = called_once (check_call list)

pub hb_wkt_write_determined : (r : ℕ) (x y z : ℤ) (text out : List ℕ) (m n : ℕ) (t u v w : List ℕ)
    → CalledBoth (wkt_write_call r x y z) text out m t v → CalledBoth (wkt_write_call r x y z) text out n u w → (m ≡ n) × (t ≡ u) × (v ≡ w)
hb_wkt_write_determined r x y z = called_both_once (wkt_write_call r x y z)

pub hb_wkt_read_determined : (r : ℕ) (text : List ℕ) (out : List ℤ) (m n : ℕ) (x y : List ℤ) → Called (wkt_read_call r text) out m x → Called (wkt_read_call r text) out n y → (m ≡ n) × (x ≡ y)
hb_wkt_read_determined r text = called_once (wkt_read_call r text)

pub hb_line_determined : (line text out : List ℕ) (m n : ℕ) (v w x y : List ℕ) → CalledBoth (line_call line) text out m v x → CalledBoth (line_call line) text out n w y → (m ≡ n) × (v ≡ w) × (x ≡ y)
hb_line_determined line = called_both_once (line_call line)

pub hb_descend_determined : (table : List ℤ) (start states passes token s : ℕ) (out : List ℤ) (m n : ℕ) (x y : List ℤ)
    → Called (descend_call table start states passes token s) out m x → Called (descend_call table start states passes token s) out n y → (m ≡ n) × (x ≡ y)
hb_descend_determined table start states passes token s = called_once (descend_call table start states passes token s)

pub hb_compile_determined : (text : List ℕ) (table : List ℤ) (start : ℕ) (out : List ℕ) (m n : ℕ) (v w : List ℤ) (x y : List ℕ)
    → CompileCalled text table start out m v x → CompileCalled text table start out n w y → (m ≡ n) × (v ≡ w) × (x ≡ y)
hb_compile_determined text table start out m n v w x y p q = (p.0 ∙ sym q.0, p.1 ∙ sym q.1, p.2 ∙ sym q.2)

-- ---- areas
pub hb_area_union_determined : (a b pairs count : List ℕ) (m n : ℕ) (v w x y : List ℕ)
    → CalledBoth (combined_call For.Union a b) pairs count m v x → CalledBoth (combined_call For.Union a b) pairs count n w y → (m ≡ n) × (v ≡ w) × (x ≡ y)
hb_area_union_determined a b = called_both_once (combined_call For.Union a b)

pub hb_area_intersection_determined : (a b pairs count : List ℕ) (m n : ℕ) (v w x y : List ℕ)
    → CalledBoth (combined_call For.Intersection a b) pairs count m v x → CalledBoth (combined_call For.Intersection a b) pairs count n w y → (m ≡ n) × (v ≡ w) × (x ≡ y)
hb_area_intersection_determined a b = called_both_once (combined_call For.Intersection a b)

pub hb_area_difference_determined : (a b pairs count : List ℕ) (m n : ℕ) (v w x y : List ℕ)
    → CalledBoth (combined_call For.Difference a b) pairs count m v x → CalledBoth (combined_call For.Difference a b) pairs count n w y → (m ≡ n) × (v ≡ w) × (x ≡ y)
hb_area_difference_determined a b = called_both_once (combined_call For.Difference a b)

pub hb_area_contains_determined : (a : List ℕ) (r s : ℕ) (out : List ℕ) (m n : ℕ) (x y : List ℕ)
    → Called (area_contains_call a r s) out m x → Called (area_contains_call a r s) out n y → (m ≡ n) × (x ≡ y)
hb_area_contains_determined a r s = called_once (area_contains_call a r s)

pub hb_area_size_determined : (a : List ℕ) (r : ℕ) (out : List ℕ) (m n : ℕ) (x y : List ℕ)
    → Called (area_size_call a r) out m x → Called (area_size_call a r) out n y → (m ≡ n) × (x ≡ y)
hb_area_size_determined a r = called_once (area_size_call a r)

pub hb_area_report_determined : (o r : ℕ) (xs : List ℤ) (work pairs count : List ℕ) (m n : ℕ) (p q v w x y : List ℕ)
    → ReportCalled o r xs work pairs count m p v x → ReportCalled o r xs work pairs count n q w y → (m ≡ n) × (p ≡ q) × (v ≡ w) × (x ≡ y)
hb_area_report_determined o r xs work pairs count m n p q v w x y f g = (f.0 ∙ sym g.0, f.1 ∙ sym g.1, f.2 ∙ sym g.2, f.3 ∙ sym g.3)
