-- `descend_part`, test by test, and then what the descent reaches.
use mathlib.Core.Path.{◌∙◌}
use native.Mathlib.Omega.{arith}
use Rattle.descent.proofs.LevelStateLaws.{token_below, token_known, passes_none, passes_many, table_bad, place_past, place_drawn, follow_digit}
use Rattle.descent.proofs.descend_part.Goals as goal

pub returns-then-passes-eq0 : goal.returns-then-passes-eq0
returns-then-passes-eq0 c = passes_none _ _ _ _ _ c.if-passes-eq0.true

pub returns-then-passes-gt-GREATEST_RESOLUTION : goal.returns-then-passes-gt-GREATEST_RESOLUTION
returns-then-passes-gt-GREATEST_RESOLUTION c = passes_many _ _ _ _ _ c.if-passes-eq0.false c.if-passes-gt-GREATEST_RESOLUTION.true

pub returns-then-not-is_good_table : goal.returns-then-not-is_good_table
returns-then-not-is_good_table c = table_bad _ _ _ _ _ c.if-passes-eq0.false c.if-passes-gt-GREATEST_RESOLUTION.false c.is_good_table.ensures c.if-not-is_good_table.true-raw

pub returns-then-s-passes-gt0 : goal.returns-then-s-passes-gt0
returns-then-s-passes-gt0 c = place_past _ _ _ _ _ c.if-passes-eq0.false c.if-passes-gt-GREATEST_RESOLUTION.false c.is_good_table.ensures c.if-not-is_good_table.false-raw c.if-s-passes-gt0.true

pub overflow_mul-token : goal.overflow_mul-token
overflow_mul-token c = record { fits = omega (arith, token_below _ _ _ c.is_good_table.ensures c.if-not-is_good_table.false-raw) }

pub reach-p-requires : goal.reach-p-requires
reach-p-requires c = (token_known _ _ _ c.is_good_table.ensures c.if-not-is_good_table.false-raw c.requires, omega arith)

pub returns : goal.returns
returns c =
    place_drawn _ _ _ _ _ c.if-passes-eq0.false c.if-passes-gt-GREATEST_RESOLUTION.false c.is_good_table.ensures c.if-not-is_good_table.false-raw c.if-s-passes-gt0.false
    (c.leaf.ensures ∙ follow_digit _ _ _ _ ∙ c.reach-p.ensures.1.1)
