-- What a query finds.
use Rattle.std.specs.Prelude.{ℕ}
use Rattle.triple.specs.Refusals.{Told, told, ◌>>=◌}
use Rattle.triple.specs.Domain.{in_domain}
use Rattle.curve.specs.declared.PointCell.{PointCell}
use Rattle.curve.specs.Points.{point_of}
use Rattle.lsystem.specs.Cells.{cell_of, position_of}
use Rattle.query.specs.declared.Query.{Query}
use Rattle.query.specs.declared.Found.{Found}

-- what is found at the cell of a point, which is handed on with its mark
abbrev pub point_found : ℕ → ℕ → PointCell → Told Found
point_found o r c = position_of o r c.triple >>= λ p. told (Found.Point c p)

-- THE ANSWER to a query
unfoldable pub answer_of : Query → Told Found
answer_of (Query.Position o r s) = cell_of o r s >>= λ c. told (Found.Cell c)
answer_of (Query.Cell o r t) = position_of o r t >>= λ p. told (Found.Position p)
answer_of (Query.Point o r i j) =
    in_domain o r (point_of r i j >>= point_found o r)
