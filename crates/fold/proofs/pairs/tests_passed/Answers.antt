-- `tests_passed`: what is seen and the rest tell what the whole list tells.
use Rattle.std.proofs.Common.{◌≡◌, ◌∙◌, ◌&&◌, eqb, length, rules}
use Rattle.fold.proofs.PairTestLaws.{reading, and_then, and_else}
use Rattle.fold.proofs.pairs.tests_passed.Goals as goal
use Rattle.fold.proofs.pairs.tests_passed.Goals.{then-seen, else-seen}

pub returns-then-resolution-gt-GREATEST_RESOLUTION : goal.returns-then-resolution-gt-GREATEST_RESOLUTION
returns-then-resolution-gt-GREATEST_RESOLUTION c = search (rules, reading)

pub returns-then-m-resolution : goal.returns-then-m-resolution
returns-then-m-resolution c = search (rules, reading)

pub loop-m-preserved : goal.loop-m-preserved
loop-m-preserved c = search (rules, reading)

pub returns-then-not-seen : goal.returns-then-not-seen
returns-then-not-seen c = search (rules, reading)

pub returns-then-not-is_empty : goal.returns-then-not-is_empty
returns-then-not-is_empty c =
    let k : c.if-seen.value ≡ (c.loop-m.seen.sorted && eqb (length c.as_chunks.result.1.now) 0) =
    elim c.if-seen.branch [ then-seen w ↦ and_then _ _ w.if-seen.true (w.value-is ∙ w.is_empty.ensures) | else-seen w ↦ and_else _ _ w.if-seen.false w.value-is ] in
    search (rules, reading)

pub returns : goal.returns
returns c =
    let k : c.if-seen.value ≡ (c.loop-m.seen.sorted && eqb (length c.as_chunks.result.1.now) 0) =
    elim c.if-seen.branch [ then-seen w ↦ and_then _ _ w.if-seen.true (w.value-is ∙ w.is_empty.ensures) | else-seen w ↦ and_else _ _ w.if-seen.false w.value-is ] in
    search (rules, reading)
