-- `Separator::value` fits at each step: a line is of 32 bits, and a corner within 768.
use Rattle.std.proofs.Common.{◌∙◌, ap, rules}
use Rattle.turtle.specs.Plane.{ab}
use Rattle.classifier.specs.Splits.{value}
use Rattle.classifier.proofs.LineValueLaws.{along_fits, across_fits, steps_fits, value_fits, value_is}
use Rattle.classifier.proofs.Separator.value.Goals as goal

pub overflow_mul-result : goal.overflow_mul-result
overflow_mul-result c = along_fits c.args.self (ab c.p.inside.a c.p.inside.b) (search rules) (search rules) (search rules) c.p.invariant

pub overflow_mul-result-2 : goal.overflow_mul-result-2
overflow_mul-result-2 c = across_fits c.args.self (ab c.p.inside.a c.p.inside.b) (search rules) (search rules) (search rules) c.p.invariant

pub overflow_add-result : goal.overflow_add-result
overflow_add-result c = steps_fits c.args.self (ab c.p.inside.a c.p.inside.b) (search rules) (search rules) (search rules) c.p.invariant

pub overflow_add-result-2 : goal.overflow_add-result-2
overflow_add-result-2 c = value_fits c.args.self (ab c.p.inside.a c.p.inside.b) (search rules) (search rules) (search rules) c.p.invariant

pub returns : goal.returns
returns c = value_is c.args.self (ab c.p.inside.a c.p.inside.b) (search rules) (search rules) (search rules) c.p.invariant ∙ ap (value c.args.self) c.p.view_is
