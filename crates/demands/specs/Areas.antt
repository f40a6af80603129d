-- WHAT WAS ASKED OF AREAS, over the public definitions alone: what each operation covers, that it is folded, and that no ground is counted twice whatever is united again.
use Rattle.std.specs.Prelude.{◌≡◌, ◌↔◌, ◌⊎◌, Bool, true, ℕ, ◌+◌, ◌≤◌, ℤ, length}
use mathlib.Core.List.{List, [], Memᴰ}
use Rattle.triple.specs.declared.Triple.{Triple}
use Rattle.triple.specs.Refusals.{Told, told, ◌>>=◌}
use Rattle.fold.specs.Cells.{Cell, cell, Covers, Covered, cells_in}
use Rattle.fold.specs.Unfolds.{passes}
use Rattle.fold.specs.Foldings.{Lone}
use Rattle.area.specs.declared.operation.Operation.{Operation}
use Rattle.area.specs.declared.operation.Operation.TheVariants as For
use Rattle.area.specs.Areas.{made_call, size_call, contains_call}
use Rattle.lsystem.specs.Cells.{position_of}
use Rattle.report.specs.Reports.{triples_in, place_in, report_call}

-- a list that passes the three tests of an area
abbrev pub IsArea : List ℕ → Type 0
IsArea a = passes 30 a ≡ 3

abbrev pub union : List ℕ → List ℕ → Told (List ℕ)
union = made_call For.Union

abbrev pub intersection : List ℕ → List ℕ → Told (List ℕ)
intersection = made_call For.Intersection

abbrev pub difference : List ℕ → List ℕ → Told (List ℕ)
difference = made_call For.Difference

-- ---- what an operation writes of two areas
pub record Made (o : Operation) (a b out : List ℕ) : Type 0 where
  -- it is an area, which every call takes
  pub area : IsArea out
  -- no four siblings stand in it: it is folded
  pub folded : Lone (cells_in out)
  -- no shorter list of whole cells covers the same ground, in whatever order, overlapping or not
  pub shortest : (cells : List Cell) → ((s : ℕ) → Covered 30 cells s ↔ Covered 30 (cells_in out) s) → length (cells_in out) ≤ length cells

-- ---- all operations together
pub record AreaDemands : Type 0 where
  -- two lists are taken exactly where both are areas
  pub taken : (o : Operation) (a b : List ℕ) → ((out : List ℕ) × (made_call o a b ≡ told out)) ↔ (IsArea a × IsArea b)
  pub made : (o : Operation) (a b out : List ℕ) → made_call o a b ≡ told out → Made o a b out
  -- what each covers
  pub union_covers : (a b out : List ℕ) → union a b ≡ told out → (s : ℕ) → Covered 30 (cells_in out) s ↔ (Covered 30 (cells_in a) s ⊎ Covered 30 (cells_in b) s)
  pub intersection_covers : (a b out : List ℕ) → intersection a b ≡ told out → (s : ℕ) → Covered 30 (cells_in out) s ↔ (Covered 30 (cells_in a) s × Covered 30 (cells_in b) s)
  pub difference_covers : (a b out : List ℕ) → difference a b ≡ told out → (s : ℕ) → Covered 30 (cells_in out) s ↔ (Covered 30 (cells_in a) s × (Covered 30 (cells_in b) s → ⊥))
  -- a cell is wholly inside where all that it covers is covered
  pub contains_covers : (a : List ℕ) (m p : ℕ) (x : Bool) → contains_call a m p ≡ told x → (x ≡ true) ↔ ((s : ℕ) → Covers 30 (cell m p) s → Covered 30 (cells_in a) s)
  -- a union is idempotent, commutative and associative, as lists
  pub idempotent : (a : List ℕ) → IsArea a → Lone (cells_in a) → union a a ≡ told a
  pub commutative : (a b : List ℕ) → union a b ≡ union b a
  pub associative : (a b c : List ℕ) → IsArea a → IsArea b → IsArea c → (union a b >>= λ u. union u c) ≡ (union b c >>= λ v. union a v)
  -- uniting again is uniting once
  pub again : (a b u : List ℕ) → union a b ≡ told u → union u b ≡ told u
  -- an intersection is commutative too
  pub turned : (a b : List ℕ) → intersection a b ≡ intersection b a
  -- the sizes of a union and an intersection add up to the sizes of both, at every resolution where both have one
  pub sizes : (a b u i : List ℕ) → union a b ≡ told u → intersection a b ≡ told i → (r v w : ℕ) → size_call a r ≡ told v → size_call b r ≡ told w
      → (x : ℕ) × (y : ℕ) × (size_call u r ≡ told x) × (size_call i r ≡ told y) × (x + y ≡ v + w)
  -- difference and intersection with one area part the other: together they are all of it, and they share nothing
  pub parted : (a b d i : List ℕ) → difference a b ≡ told d → intersection a b ≡ told i → (union d i ≡ union a a) × (intersection d i ≡ told [])

-- ---- reports: triples of one orientation and resolution, in any order and repeated or not
pub record ReportDemands : Type 0 where
  -- a report covers the positions of its triples, and no others
  pub covers : (o r : ℕ) (xs : List ℤ) (out : List ℕ) → report_call o r xs ≡ told out → (s : ℕ)
      → Covered r (cells_in out) s ↔ ((t : Triple) × Memᴰ t (triples_in xs) × (place_in (position_of o r t) ≡ s))
  -- it is folded
  pub folded : (o r : ℕ) (xs : List ℤ) (out : List ℕ) → report_call o r xs ≡ told out → Lone (cells_in out)
  -- it is an area, which every call takes
  pub area : (o r : ℕ) (xs : List ℤ) (out : List ℕ) → report_call o r xs ≡ told out → IsArea out
  -- neither order nor repetition matters
  pub unordered : (o r : ℕ) (xs ys : List ℤ) (a b : List ℕ) → report_call o r xs ≡ told a → report_call o r ys ≡ told b
      → ((t : Triple) → Memᴰ t (triples_in xs) ↔ Memᴰ t (triples_in ys)) → a ≡ b
  -- reporting and uniting twice is uniting once, whatever the total was
  pub again : (o r : ℕ) (xs ys : List ℤ) (a b total once : List ℕ) → report_call o r xs ≡ told a → report_call o r ys ≡ told b
      → ((t : Triple) → Memᴰ t (triples_in xs) ↔ Memᴰ t (triples_in ys)) → union total a ≡ told once → union once b ≡ told once
