-- `hb_line`: the printer is lent all of the text or, where the length has no place, none; so both slices are written or none is.
use mathlib.Core.Path.{◌∙◌, sym, ap}
use lib.Seq.{length-take-le}
use Rattle.triple.proofs.LentLaws.{valued_same, lent_told, lent_refused}
use Rattle.capi.proofs.queries.hb_line.Goals as goal
use Rattle.triple.specs.Refusals.{said}

pub slice_bounds-answer_line-end-2 : goal.slice_bounds-answer_line-end-2
slice_bounds-answer_line-end-2 c = sym (length-take-le _ _ c.lendable-room.ensures.0)

pub returns-in-Ok : goal.returns-in-Ok
returns-in-Ok c =
    let l = c.lendable-room.ensures in
    lent_told _ _ l.0 l.1 _ (λ n. n) (c.answer_line-answer.ensures.0 ∙ valued_same _) c.answer_line-answer.ensures.1 (ap said c.in-Ok.is) c.put_count.ensures

pub returns-in-Err : goal.returns-in-Err
returns-in-Err c =
    let l = c.lendable-room.ensures in
    lent_refused _ _ l.0 l.1 _ (λ n. n) (c.answer_line-answer.ensures.0 ∙ valued_same _) c.answer_line-answer.ensures.1 (ap said c.in-Err.is) c.number.ensures
