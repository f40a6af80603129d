-- `Separator::through` fits at each step, since a corner is within 768.
use Rattle.std.proofs.Common.{◌∙◌}
use Rattle.turtle.specs.Plane.{ab}
use Rattle.classifier.specs.Splits.{line_through}
use Rattle.classifier.proofs.LineValueLaws.{f_fits, s_fits, b_fits, c_fits, c_narrow, line_is}
use Rattle.classifier.proofs.Separator.through.Goals as goal

pub overflow_mul-c : goal.overflow_mul-c
overflow_mul-c c = f_fits (ab c.p.inside.a c.p.inside.b) (ab c.q.inside.a c.q.inside.b) c.p.invariant c.q.invariant

pub overflow_mul-c-2 : goal.overflow_mul-c-2
overflow_mul-c-2 c = s_fits (ab c.p.inside.a c.p.inside.b) (ab c.q.inside.a c.q.inside.b) c.p.invariant c.q.invariant

pub overflow_add-c : goal.overflow_add-c
overflow_add-c c = b_fits (ab c.p.inside.a c.p.inside.b) (ab c.q.inside.a c.q.inside.b) c.p.invariant c.q.invariant

pub overflow_sub-c : goal.overflow_sub-c
overflow_sub-c c = c_fits (ab c.p.inside.a c.p.inside.b) (ab c.q.inside.a c.q.inside.b) c.p.invariant c.q.invariant

pub overflow_cast-result-3 : goal.overflow_cast-result-3
overflow_cast-result-3 c = c_narrow (ab c.p.inside.a c.p.inside.b) (ab c.q.inside.a c.q.inside.b) c.p.invariant c.q.invariant

pub returns : goal.returns
returns c =
    line_is (ab c.p.inside.a c.p.inside.b) (ab c.q.inside.a c.q.inside.b) c.p.invariant c.q.invariant ∙ (λ i. line_through (c.p.view_is i) (c.q.view_is i))
