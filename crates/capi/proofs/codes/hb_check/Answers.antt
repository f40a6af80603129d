-- `hb_check`: the verdict's two numbers are written, or the refusal's number is answered.
use mathlib.Core.Path.{ap, ◌∙◌}
use Rattle.std.specs.Prelude.{Err}
use Rattle.capi.proofs.VerdictLaws.{verdict_good, verdict_faulty, verdict_refused}
use Rattle.capi.proofs.codes.hb_check.Goals as goal

pub returns-in-Ok : goal.returns-in-Ok
returns-in-Ok c = verdict_good _ _ c.check-answer.ensures c.in-Ok.is c.put_verdict.ensures

pub returns-in-Faulty : goal.returns-in-Faulty
returns-in-Faulty c = verdict_faulty _ _ c.check-answer.ensures (c.in-Err.is ∙ ap Err c.in-Faulty.is) c.fault_number.ensures c.put_verdict-in-Faulty.ensures

pub returns-in-Refused : goal.returns-in-Refused
returns-in-Refused c = verdict_refused _ _ c.check-answer.ensures (c.in-Err.is ∙ ap Err c.in-Refused.is) c.number.ensures
