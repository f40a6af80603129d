-- How large a corner's numbers are, and a polygon's text up to its second corner and from there on.
use Rattle.std.specs.Prelude.{List, ◌++◌, ℕ, ◌<◌, ◌^◌, ℤ, nat_abs}
use Rattle.turtle.specs.declared.AB.{AB}
use Rattle.polygon.specs.Polygons.{opening, comma, closing, corner_text}

-- ten digits at most
pub record Short (z : ℤ) : Type 0 where
  pub size : nat_abs z < 10 ^ 10

-- both numbers have: so has every corner of a cell of three i32
pub record TenDigits (p : AB) : Type 0 where
  pub a : Short p.a
  pub b : Short p.b

unfoldable pub two_corners : AB → AB → List ℕ
two_corners p q = (opening ++ corner_text p) ++ (comma ++ corner_text q)

unfoldable pub rest_text : AB → AB → List ℕ
rest_text r p = ((comma ++ corner_text r) ++ (comma ++ corner_text p)) ++ closing
