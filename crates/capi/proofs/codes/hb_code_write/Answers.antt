-- `hb_code_write`: the writer is lent all of the bytes or, where the count has no place, none; so both slices are written or none is.
use mathlib.Core.Path.{◌∙◌, sym, ap}
use lib.Seq.{length-take-le}
use Rattle.triple.proofs.LentLaws.{valued_same, lent_told, lent_refused}
use Rattle.capi.proofs.codes.hb_code_write.Goals as goal
use Rattle.triple.specs.Refusals.{said}

pub slice_bounds-write-end-2 : goal.slice_bounds-write-end-2
slice_bounds-write-end-2 c = sym (length-take-le _ _ c.lendable-room.ensures.0)

pub returns-in-Ok : goal.returns-in-Ok
returns-in-Ok c =
    let l = c.lendable-room.ensures in
    lent_told _ _ l.0 l.1 _ (λ n. n) (c.write-answer.ensures.0 ∙ valued_same _) c.write-answer.ensures.1 (ap said c.in-Ok.is) c.put_count.ensures

pub returns-in-Err : goal.returns-in-Err
returns-in-Err c =
    let l = c.lendable-room.ensures in
    lent_refused _ _ l.0 l.1 _ (λ n. n) (c.write-answer.ensures.0 ∙ valued_same _) c.write-answer.ensures.1 (ap said c.in-Err.is) c.number.ensures
