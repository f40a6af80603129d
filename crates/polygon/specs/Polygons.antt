-- A cell as a polygon of its corners, by document 02: the corners, their text, what a writer gives and what a reader answers.
use Rattle.std.specs.Prelude.{Bool, true, false, not, ◌&&◌, cond, List, [], ◌∷◌, ◌++◌, ℕ, ◌+◌, eqb, pos, negsuc, ◌+ℤ◌, ◌-ℤ◌, Option, Some, None}
use Rattle.std.specs.Int.Signed.{quot_z}
use Rattle.whole.specs.Tests.{equal, pass}
use Rattle.triple.specs.declared.Triple.{Triple}
use Rattle.triple.specs.declared.refusal.Refusal.TheVariants as Is
use Rattle.triple.specs.Refusals.{Told, told, refused, refuse, number_of, ◌>>=◌}
use Rattle.triple.specs.Triples.{sum_of, good_sum, is_in_bounds}
use Rattle.triple.specs.Domain.{at_resolution}
use Rattle.text.specs.Decimals.{integer, decimal_at}
use Rattle.turtle.specs.declared.AB.{AB}
use Rattle.turtle.specs.declared.walk.Corners.{Corners}
use Rattle.turtle.specs.Plane.{ab, ◌⊕◌}
use Rattle.turtle.specs.Corners.{corner_sum, fits32}

-- ---- the corners, in their order, from the corner sum (A, B)
-- parity 0 starts at ((A - 8) / 3, (B + 4) / 3); then come (4, -4) and (4, 0) from there
abbrev pub even_start : AB → AB
even_start s = ab (quot_z (s.a -ℤ pos 8) (pos 3)) (quot_z (s.b +ℤ pos 4) (pos 3))

abbrev pub even_from : AB → Corners
even_from p = record { p = p; q = p ⊕ ab (pos 4) (negsuc 3); r = p ⊕ ab (pos 4) (pos 0) }

-- parity 1 starts at ((A - 4) / 3, (B - 4) / 3); then come (4, 0) and (0, 4) from there
abbrev pub odd_start : AB → AB
odd_start s = ab (quot_z (s.a -ℤ pos 4) (pos 3)) (quot_z (s.b -ℤ pos 4) (pos 3))

abbrev pub odd_from : AB → Corners
odd_from q = record { p = q; q = q ⊕ ab (pos 4) (pos 0); r = q ⊕ ab (pos 0) (pos 4) }

-- THE CORNERS of a triple's cell
unfoldable pub cell_corners : Triple → Corners
cell_corners t = cond (equal (sum_of t) (pos 0)) (even_from (even_start (corner_sum t))) (odd_from (odd_start (corner_sum t)))

-- ---- the text
-- `POLYGON ((`, `, ` and `))`
abbrev pub opening : List ℕ
opening = 80 ∷ 79 ∷ 76 ∷ 89 ∷ 71 ∷ 79 ∷ 78 ∷ 32 ∷ 40 ∷ 40 ∷ []

abbrev pub comma : List ℕ
comma = 44 ∷ 32 ∷ []

abbrev pub closing : List ℕ
closing = 41 ∷ 41 ∷ []

-- a corner `a b`
unfoldable pub corner_text : AB → List ℕ
corner_text p = integer p.a ++ (32 ∷ integer p.b)

-- the ring of corners, the first of them repeated: `POLYGON ((a b, a b, a b, a b))`
unfoldable pub ring_text : Corners → List ℕ
ring_text c = opening ++ (corner_text c.p ++ (comma ++ (corner_text c.q ++ (comma ++ (corner_text c.r ++ (comma ++ (corner_text c.p ++ closing)))))))

-- THE POLYGON of a triple's cell
abbrev pub polygon_text : Triple → List ℕ
polygon_text t = ring_text (cell_corners t)

-- ---- the writer: THE TEXT's bytes; Lent has how many are written, and the buffer afterwards
unfoldable pub wkt_of : ℕ → Triple → Told (List ℕ)
wkt_of r t =
    at_resolution r
    (refuse (not (good_sum t)) Is.Sum
    (refuse (not (is_in_bounds r t)) Is.Bounds
    (told (polygon_text t))))

-- ---- the reader: the triple is taken from the text's first two corners, and its own polygon is then the text, byte for byte, or the text is none
-- what is read, or the refusal of a text that is no cell's polygon
abbrev pub readable : {A : Type 0} → Option A → Told A
readable (Some v) = told v
readable None = refused (number_of Is.Polygon)

-- the corner that stands at a place, two decimals with a byte between them, and the place after it
unfoldable pub corner_at : List ℕ → ℕ → Told (AB × ℕ)
corner_at text at = do
  first ← readable (decimal_at text at)
  second ← readable (decimal_at text (first.1 + 1))
  told (ab first.0 second.0, second.1)

-- the parity by the first two corners: they are level where it is 1
unfoldable pub parity_from : AB → AB → ℕ
parity_from p q = cond (equal p.b q.b) 1 0

-- the triple of sum s whose cell starts at (a, b), if there is one: then 4 y is a, and 4 x is b + 4 s
unfoldable pub starting_at : ℕ → AB → Triple
starting_at s p =
    let x = quot_z p.b (pos 4) +ℤ pos s in
    let y = quot_z p.a (pos 4) in
    record { x = x; y = y; z = pos s -ℤ x -ℤ y }

-- a triple of three i32
unfoldable pub narrow : Triple → Told Triple
narrow t = refuse (not (pass (fits32 t.x (fits32 t.y (fits32 t.z []))))) Is.Polygon (told t)

-- whether two texts are the same
unfoldable pub same_text : List ℕ → List ℕ → Bool
same_text [] [] = true
same_text [] (b ∷ v) = false
same_text (a ∷ u) [] = false
same_text (a ∷ u) (b ∷ v) = eqb a b && same_text u v

-- THE TRIPLE whose polygon a text is
unfoldable pub spelled_cell : List ℕ → Told Triple
spelled_cell text = do
  first ← corner_at text 10
  second ← corner_at text (first.1 + 2)
  t ← narrow (starting_at (parity_from first.0 second.0) first.0)
  refuse (not (same_text text (polygon_text t))) Is.Polygon (told t)

-- THE CELL that a text is at a resolution
unfoldable pub cell_of_wkt : ℕ → List ℕ → Told Triple
cell_of_wkt r text = at_resolution r (spelled_cell text >>= λ t. refuse (not (is_in_bounds r t)) Is.Bounds (told t))
