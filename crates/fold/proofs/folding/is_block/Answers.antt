-- `is_block`: the tests of the definition.
use Rattle.std.proofs.Common.{sym, ◌∙◌, rules, tests}
use Rattle.std.proofs.lemmas.Bool.{eqb-true}
use Rattle.fold.proofs.BlockLaws.{blocks}
use Rattle.fold.proofs.folding.is_block.Goals as goal
use Rattle.fold.proofs.folding.is_block.Goals.{then-behind-eq0, else-behind-eq0}

pub overflow_sub-further : goal.overflow_sub-further
overflow_sub-further c = search (rules, blocks)

pub returns-then-positions-i : goal.returns-then-positions-i
returns-then-positions-i c =
    elim c.if-behind-eq0.branch [ then-behind-eq0 w ↦ search (rules, tests, blocks) | else-behind-eq0 w ↦ absurd (w.if-behind-eq0.false (eqb-true _ _ (sym w.value-is ∙ c.if-positions-i.true))) ]

pub returns-else-positions-i : goal.returns-else-positions-i
returns-else-positions-i c =
    elim c.if-behind-eq0.branch [ then-behind-eq0 w ↦ search (rules, tests, blocks) | else-behind-eq0 w ↦ search (rules, tests, blocks) ]
