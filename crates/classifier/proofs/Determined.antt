-- The contracts of a hull and of a classifier leave one answer each: what equals the definition's is that.
use mathlib.Core.Path.{◌≡◌, sym, ◌∙◌}
use mathlib.Core.List.{List, map}
use Rattle.classifier.specs.declared.Corner.{Corner}
use Rattle.classifier.specs.declared.Hull.{Hull}
use Rattle.classifier.specs.declared.Placed.{Placed}
use Rattle.classifier.specs.declared.Classifier.{Classifier}
use Rattle.classifier.specs.Hulls.{hull}
use Rattle.classifier.specs.Shapes.{point_of, hull_by, polygons_of, classifier_of}

pub hull_determined : (points : List Corner) {h k : Hull} → h ≡ hull_by (hull (map point_of points)) → k ≡ hull_by (hull (map point_of points)) → h ≡ k
hull_determined points e f = e ∙ sym f

pub classifier_determined : (children : List Placed) {c d : Classifier} → c ≡ classifier_of (polygons_of children) → d ≡ classifier_of (polygons_of children) → c ≡ d
classifier_determined children e f = e ∙ sym f
