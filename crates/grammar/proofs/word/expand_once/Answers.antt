-- `word::expand_once` writes the word after a pass: after i turns, the words of the first i bytes are at the front.
use mathlib.Core.Path.{refl, sym, ◌∙◌}
use native.Mathlib.Omega.{arith}
use borrow.Author.Tests.{leb-true, leb-false}
use Rattle.triple.proofs.LentLaws.{count_short}
use Rattle.grammar.proofs.ExpandLaws.{passed_none, place_within, word_within, part_within, passed_next, passed_all}
use Rattle.grammar.proofs.word.expand_once.Goals as goal

pub returns-then-not-has_room : goal.returns-then-not-has_room
returns-then-not-has_room c = count_short _ _ refl (leb-false _ _ (sym c.has_room.ensures ∙ c.if-not-has_room.true))

pub loop-b-init : goal.loop-b-init
loop-b-init c = passed_none _ _ _ (leb-true _ _ (sym c.has_room.ensures ∙ c.if-not-has_room.false))

pub slice_bounds-write-count : goal.slice_bounds-write-count
slice_bounds-write-count c = place_within c.loop-b.invariant

pub slice_bounds-write-start : goal.slice_bounds-write-start
slice_bounds-write-start c = place_within c.loop-b.invariant

pub write-at-requires : goal.write-at-requires
write-at-requires c = part_within c.loop-b.invariant c.loop-b-test.true

pub overflow_add-at : goal.overflow_add-at
overflow_add-at c = omega (arith, word_within c.loop-b.invariant c.loop-b-test.true)

pub loop-b-preserved : goal.loop-b-preserved
loop-b-preserved c = passed_next c.loop-b.invariant c.loop-b-test.true c.write-at.ensures

pub shape_of-out : goal.shape_of-out
shape_of-out c = c.loop-b.invariant.kept

pub returns : goal.returns
returns c = passed_all c.loop-b.invariant c.loop-b-test.false
