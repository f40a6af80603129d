-- The twelve worked examples, in order.
use Rattle.std.specs.Prelude.{◌≡◌, true, false, List, [], ◌∷◌, ℕ, ◌-◌, ◌^◌, ℤ, pos, negsuc}
use Rattle.std.specs.Float.{fin}
use Rattle.triple.specs.declared.Triple.{Triple}
use Rattle.triple.specs.Refusals.{Told, told, refused}
use Rattle.turtle.specs.Plane.{ab}
use Rattle.turtle.specs.Corners.{triple_of}
use Rattle.tables.specs.Compiler.{faulty, compiled_to}
use Rattle.lsystem.specs.declared.cell.Cell.{Cell}
use Rattle.lsystem.specs.Cells.{cell_of}
use Rattle.curve.specs.declared.PointCell.{PointCell}
use Rattle.curve.specs.Points.{point_of}
use Rattle.code.specs.Codes.{code_bytes}

abbrev pub triple : ℤ → ℤ → ℤ → Triple
triple x y z = record { x = x; y = y; z = z }

abbrev pub cell : ℤ → ℤ → ℤ → ℕ → Told Cell
cell x y z f = told (record { triple = triple x y z; flavor = f })

abbrev pub moved : ℤ → ℤ → ℤ → Told PointCell
moved x y z = told (record { triple = triple x y z; moved = true })

-- UV is orientation 0, UW 2, WV 5
pub record Dozen : Type 0 where
  -- 1. UV r 1: (0,0,0), (0,1,0), (-1,1,0), (0,1,-1); flavors 0 1 2 2
  pub case_1 : (cell_of 0 1 0 ≡ cell (pos 0) (pos 0) (pos 0) 0) × (cell_of 0 1 1 ≡ cell (pos 0) (pos 1) (pos 0) 1) × (cell_of 0 1 2 ≡ cell (negsuc 0) (pos 1) (pos 0) 2) × (cell_of 0 1 3 ≡ cell (pos 0) (pos 1) (negsuc 0) 2)
  -- 2. UW r 1: (0,0,0), (0,1,0), (0,1,-1), (-1,1,0)
  pub case_2 : (cell_of 2 1 0 ≡ cell (pos 0) (pos 0) (pos 0) 0) × (cell_of 2 1 1 ≡ cell (pos 0) (pos 1) (pos 0) 1) × (cell_of 2 1 2 ≡ cell (pos 0) (pos 1) (negsuc 0) 2) × (cell_of 2 1 3 ≡ cell (negsuc 0) (pos 1) (pos 0) 2)
  -- 3. WV r 1: (-1,1,0), (0,1,0), (0,0,0), (0,1,-1)
  pub case_3 : (cell_of 5 1 0 ≡ cell (negsuc 0) (pos 1) (pos 0) 2) × (cell_of 5 1 1 ≡ cell (pos 0) (pos 1) (pos 0) 1) × (cell_of 5 1 2 ≡ cell (pos 0) (pos 0) (pos 0) 0) × (cell_of 5 1 3 ≡ cell (pos 0) (pos 1) (negsuc 0) 2)
  -- 4. UV r 2, s 3: (0,2,-1), flavor 3
  pub case_4 : cell_of 0 2 3 ≡ cell (pos 0) (pos 2) (negsuc 0) 3
  -- 5. UV r 2, s 5: (-1,3,-1), flavor 1
  pub case_5 : cell_of 0 2 5 ≡ cell (negsuc 0) (pos 3) (negsuc 0) 1
  -- 6. UV r 30, s 4^30 - 1: (0, 1073741823, -1073741823); s 4^30 refused
  pub case_6 : (cell_of 0 30 (4 ^ 30 - 1) ≡ cell (pos 0) (pos 1073741823) (negsuc 1073741822) 2) × (cell_of 0 30 (4 ^ 30) ≡ refused 3)
  -- 7. corner sum (20,-16) is (-1,1,0)
  pub case_7 : triple_of (ab (pos 20) (negsuc 15)) ≡ told (triple (negsuc 0) (pos 1) (pos 0))
  -- 8. corner sum (14,-4) refused
  pub case_8 : triple_of (ab (pos 14) (negsuc 3)) ≡ refused 6
  -- 9. point (2.0, 3.0), r 1: (-1,1,0), moved
  pub case_9 : point_of 1 (fin false 1 (pos 1)) (fin false 3 (pos 0)) ≡ moved (negsuc 0) (pos 1) (pos 0)
  -- 10. point (-0.25, 0.5), r 1: (0,1,0), moved
  pub case_10 : point_of 1 (fin true 1 (negsuc 1)) (fin false 1 (negsuc 0)) ≡ moved (pos 0) (pos 1) (pos 0)
  -- 11. UV r 2 s 6 codes to 02 60; WV r 1 s 3 to A1 C0
  pub case_11 : (code_bytes 0 2 6 ≡ 0x02 ∷ 0x60 ∷ []) × (code_bytes 5 1 3 ≡ 0xA1 ∷ 0xC0 ∷ [])
  -- 12. `A A+++A---AA E` with LF: refusal 20, line 1
  pub case_12 : (table : List ℤ) (start : ℕ) → compiled_to (65 ∷ 32 ∷ 65 ∷ 43 ∷ 43 ∷ 43 ∷ 65 ∷ 45 ∷ 45 ∷ 45 ∷ 65 ∷ 65 ∷ 32 ∷ 69 ∷ 10 ∷ []) table start ≡ faulty 20 1
