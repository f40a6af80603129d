-- The corners of a hull are those of its first places, as many as it counts.
use Rattle.classifier.specs.Shapes.{points_of}
use Rattle.classifier.proofs.Hull.points.Goals as goal

pub returns : goal.returns
unfolding points_of
returns c = rw c.min-n.ensures
