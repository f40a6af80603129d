-- WHOLE CODES: each is the code of a position; without the mark they have one spelling; and those that are read alike name one cell.
use mathlib.Core.Path.{◌≡◌, sym, ap, ◌∙◌}
use mathlib.Core.List.{List, [], append-nil}
use Prim.Native.Nat.{ℕ, ◌^◌, ◌≤◌, ◌<◌}
use lib.ListN.{take}
use lib.Seq.{take-length}
use Rattle.code.specs.declared.Reading.{Reading}
use Rattle.code.specs.Codes.{code_bytes, reading_of, read_of}
use Rattle.code.proofs.RoundTrip.{read_back}
use Rattle.code.proofs.Canonical.{own_orientation, own_position, loose_spelled, read_loosely, codes_canonical}
use Rattle.lsystem.specs.Cells.{cell_of}
use Rattle.demands.specs.Demands.{WholeCode, WholeCodes}
use Rattle.triple.proofs.RefusalLaws.{told_same}
use Rattle.demands.proofs.Turned.{reading_names}

own : (bytes : List ℕ) (x : Reading) → WholeCode bytes x → (o s : ℕ) × (o ≤ 5) × (s < 4 ^ x.resolution) × (code_bytes o x.resolution s ≡ bytes)
own bytes x w =
    let l = read_loosely bytes w.reads in
    let e = loose_spelled bytes w.small l.0 in
    (own_orientation bytes, own_position bytes, e.oriented, e.below, e.spelling l.1 ∙ ap (λ (n : ℕ). take n bytes) w.used ∙ take-length bytes)

-- the cell of what is read is the code's own
cell_read : (o r s : ℕ) (x : Reading) → o ≤ 5 → r ≤ 30 → s < 4 ^ r → WholeCode (code_bytes o r s) x → cell_of x.orientation x.resolution x.s ≡ cell_of o r s
cell_read o r s x ho hr hs w =
    let is : x ≡ reading_of o r s = told_same (sym w.reads ∙ ap read_of (sym (append-nil (code_bytes o r s))) ∙ read_back o r s [] ho hr hs) in
    rw is (reading_names o r s ho hs)

pub whole_codes : WholeCodes
whole_codes = record {
  own = own;
  one = λ a b x y m n u v. codes_canonical a b m.small n.small m.reads n.reads u v m.used n.used;
  same_cell = λ o r s p q t x y ho hr hs hp hq ht v w e. sym (cell_read o r s x ho hr hs v) ∙ rw (e.0, e.1, e.2) (cell_read p q t y hp hq ht w);
}
