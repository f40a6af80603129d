-- `walk::met`, by the passes left: what is behind has been walked, and the byte at hand has one pass less.
use Rattle.std.proofs.Common.{◌-◌, ◌<◌, sym, refl, ◌∙◌, subst, arith}
use Rattle.std.proofs.lemmas.Iterator.Adapters.{YieldsList-from_rev_slice}
use Rattle.std.proofs.lemmas.Iterator.Consumers.{YieldsList-so_far, YieldsList-turn, YieldsList-end}
use Rattle.sketch.specs.Inside.Pens.{Room}
use Rattle.sketch.proofs.MarkLaws.{way_bare, way_some, way_back, way_along}
use Rattle.sketch.proofs.WalkLaws.{walk_none, walk_end, walk_room, walk_next, along_split, along_more, along_all, back_split, back_more, back_all}
use Rattle.sketch.proofs.walk.+met.Goals as goal

pub stepped-requires : goal.stepped-requires
stepped-requires t c =
    let is = way_bare c.args.b c.args.left c.word_of-word.ensures (sym c.is_empty.ensures ∙ c.if-is_empty.true) in
    subst (λ m. Room m c.args.pen c.args.out.now) is c.requires

pub returns-then-is_empty : goal.returns-then-is_empty
returns-then-is_empty t c =
    let is = way_bare c.args.b c.args.left c.word_of-word.ensures (sym c.is_empty.ensures ∙ c.if-is_empty.true) in
    rw is c.stepped.ensures

pub loop-c-init : goal.loop-c-init
loop-c-init t c = walk_none _ c.args.pen c.args.out.now refl

pub overflow_sub-left : goal.overflow_sub-left
overflow_sub-left t c = way_some c.args.b c.args.left c.word_of-word.ensures (sym c.is_empty.ensures ∙ c.if-is_empty.false)

pub met-p-requires : goal.met-p-requires
met-p-requires t c =
    let w = c.word_of-word.result.now in
    let some_bytes = sym c.is_empty.ensures ∙ c.if-is_empty.false in
    let least = way_some c.args.b c.args.left c.word_of-word.ensures some_bytes in
    let is = way_back c.args.b c.args.left c.word_of-word.ensures some_bytes (sym c.is_ascii_lowercase.ensures.value ∙ c.if-is_ascii_lowercase.true) in
    let less : c.args.left - 1 < t = omega arith in
    let all = YieldsList-from_rev_slice w (cc) in
    let behind = YieldsList-so_far all c.loop-c.yielded _ c.loop-c.yielded_by in
    let turn = YieldsList-turn all c.loop-c.yielded _ c.loop-c.yielded_by _ _ c.in-Some.c c.in-Some.is c.next.ensures.steps in
    (less, walk_room _ _ c.loop-c.invariant refl _ (back_split w c.loop-c.yielded c.in-Some.c c.mirrored.ensures behind turn) (subst (λ m. Room m c.args.pen c.args.out.now) is c.requires))

pub loop-c-preserved : goal.loop-c-preserved
loop-c-preserved t c = walk_next _ _ c.loop-c.invariant refl (back_more c.loop-c.yielded c.in-Some.c c.mirrored.ensures) c.met-p.ensures

pub loop-d-init : goal.loop-d-init
loop-d-init t c = walk_none _ c.args.pen c.args.out.now refl

pub overflow_sub-left-in-loop-d : goal.overflow_sub-left-in-loop-d
overflow_sub-left-in-loop-d t c = way_some c.args.b c.args.left c.word_of-word.ensures (sym c.is_empty.ensures ∙ c.if-is_empty.false)

pub met-p-requires-in-loop-d : goal.met-p-requires-in-loop-d
met-p-requires-in-loop-d t c =
    let w = c.word_of-word.result.now in
    let some_bytes = sym c.is_empty.ensures ∙ c.if-is_empty.false in
    let least = way_some c.args.b c.args.left c.word_of-word.ensures some_bytes in
    let is = way_along c.args.b c.args.left c.word_of-word.ensures some_bytes (sym c.is_ascii_lowercase.ensures.value ∙ c.if-is_ascii_lowercase.false) in
    (omega arith, walk_room _ _ c.loop-d.invariant refl _ (along_split w c.loop-d.d-index c.loop-d-test.true) (subst (λ m. Room m c.args.pen c.args.out.now) is c.requires))

pub loop-d-preserved : goal.loop-d-preserved
loop-d-preserved t c = walk_next _ _ c.loop-d.invariant refl (along_more c.word_of-word.result.now c.loop-d.d-index c.loop-d-test.true) c.met-p-in-loop-d.ensures

pub returns-in-None : goal.returns-in-None
returns-in-None t c =
    let w = c.word_of-word.result.now in
    let is = way_back c.args.b c.args.left c.word_of-word.ensures (sym c.is_empty.ensures ∙ c.if-is_empty.false) (sym c.is_ascii_lowercase.ensures.value ∙ c.if-is_ascii_lowercase.true) in
    let ended = YieldsList-end (YieldsList-from_rev_slice w (cc)) c.loop-c.yielded _ c.loop-c.yielded_by _ _ c.in-None.is c.next.ensures.steps in
    rw is (walk_end (back_all w c.loop-c.yielded ended.0) c.loop-c.invariant)

pub returns-after-loop-d : goal.returns-after-loop-d
returns-after-loop-d t c =
    let w = c.word_of-word.result.now in
    let is = way_along c.args.b c.args.left c.word_of-word.ensures (sym c.is_empty.ensures ∙ c.if-is_empty.false) (sym c.is_ascii_lowercase.ensures.value ∙ c.if-is_ascii_lowercase.false) in
    rw is (walk_end (along_all w c.loop-d.d-index c.loop-d-test.false) c.loop-d.invariant)
