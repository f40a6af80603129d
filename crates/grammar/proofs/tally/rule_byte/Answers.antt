-- `tally::rule_byte` tells what a byte of a rule is: a turn, a letter of a listed motif, or neither.
use native.Mathlib.Omega.{arith}
use Rattle.grammar.specs.Inside.Places.{lines_by}
use Rattle.grammar.proofs.TallyLaws.{listed_by, rule_left, rule_right, rule_letter, rule_nothing}
use Rattle.grammar.proofs.tally.rule_byte.Goals as goal

pub returns-in-43 : goal.returns-in-43
returns-in-43 c = λ text. rule_left (lines_by text c.args.lines) _ c.in-43.is

pub returns-in-45 : goal.returns-in-45
returns-in-45 c = λ text. rule_right (lines_by text c.args.lines) _ (λ e. omega (arith, c.in-45.is)) c.in-45.is

pub returns-in_default : goal.returns-in_default
returns-in_default c = λ text. rule_letter (lines_by text c.args.lines) _ (λ e. omega arith) (λ e. omega arith) (listed_by text c.args.lines _ c.is_listed.ensures) c.if-is_listed.true

pub returns-in_default-2 : goal.returns-in_default-2
returns-in_default-2 c = λ text. rule_nothing (lines_by text c.args.lines) _ (λ e. omega arith) (λ e. omega arith) (listed_by text c.args.lines _ c.is_listed.ensures) c.if-is_listed.false
