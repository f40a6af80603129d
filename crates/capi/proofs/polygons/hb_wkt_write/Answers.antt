-- `hb_wkt_write`: the writer is lent all of the text or, where the length has no place, none; so both slices are written or none is.
use mathlib.Core.Path.{◌∙◌, sym, ap}
use lib.Seq.{length-take-le}
use borrow.Author.Rules.{rules}
use Rattle.triple.proofs.LentLaws.{valued_same, lent_told, lent_refused}
use Rattle.capi.proofs.SignedLaws.{triple_made, polygon_made}
use Rattle.capi.proofs.polygons.hb_wkt_write.Goals as goal
use Rattle.triple.specs.Refusals.{said}

pub slice_bounds-write-end-2 : goal.slice_bounds-write-end-2
slice_bounds-write-end-2 c = sym (length-take-le _ _ c.lendable-room.ensures.0)

pub returns-in-Ok : goal.returns-in-Ok
returns-in-Ok c =
    let l = c.lendable-room.ensures in
    let g = c.args in
    let k = polygon_made _ _ _ _ (triple_made {x = g.x} {y = g.y} {z = g.z} (search rules) c.new.ensures) c.write-answer.ensures in
    lent_told _ _ l.0 l.1 _ (λ n. n) (k.0 ∙ valued_same _) k.1 (ap said c.in-Ok.is) c.put_count.ensures

pub returns-in-Err : goal.returns-in-Err
returns-in-Err c =
    let l = c.lendable-room.ensures in
    let g = c.args in
    let k = polygon_made _ _ _ _ (triple_made {x = g.x} {y = g.y} {z = g.z} (search rules) c.new.ensures) c.write-answer.ensures in
    lent_refused _ _ l.0 l.1 _ (λ n. n) (k.0 ∙ valued_same _) k.1 (ap said c.in-Err.is) c.number.ensures
