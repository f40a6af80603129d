-- `Placed::is_under` asks of each corner what the definition does.
use Rattle.std.proofs.Common.{pos, refl, rules, tests}
use lib.Signed.{le_z}
use Rattle.std.proofs.lemmas.Iterator.{YieldsList-from_slice}
use Rattle.std.proofs.lemmas.Iterator.Search.{all_from_yields_List}
use Rattle.turtle.specs.declared.AB.{AB}
use Rattle.classifier.specs.declared.Corner.{Corner}
use Rattle.classifier.specs.Splits.{value, under}
use Rattle.classifier.specs.Shapes.{point_of}
use Rattle.classifier.proofs.PolygonLaws.{turned, all_corners}
use Rattle.classifier.proofs.Placed.is_under.Goals as goal

pub returns : goal.returns
returns c =
    let t = λ (p : AB). le_z (value c.args.s p) (pos 0) in
    all_corners (under c.args.s) t refl (λ _ _. refl) c.args.self.now _ c.points.ensures
    (all_from_yields_List (λ (p : Corner). t (turned c.args.self.now (point_of p))) _ _ c.all.result c.all.ensures.ran (YieldsList-from_slice c.points.result.now cc) (λ x b q k. search (rules, tests)))
