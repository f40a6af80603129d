-- A byte's digit: each arm by the byte that it matched, the rest by `other_byte`.
use borrow.Author.Rules.{rules}
use mathlib.Core.Path.{sym, ap}
use Rattle.text.specs.Digits.{digit_of}
use Rattle.text.proofs.NumberLaws.{other_byte}
use Rattle.text.proofs.number.digit.Goals as goal

pub returns-in-48 : goal.returns-in-48
unfolding digit_of
returns-in-48 c = ap digit_of (sym c.in-48.is)

pub returns-in-49 : goal.returns-in-49
unfolding digit_of
returns-in-49 c = ap digit_of (sym c.in-49.is)

pub returns-in-50 : goal.returns-in-50
unfolding digit_of
returns-in-50 c = ap digit_of (sym c.in-50.is)

pub returns-in-51 : goal.returns-in-51
unfolding digit_of
returns-in-51 c = ap digit_of (sym c.in-51.is)

pub returns-in-52 : goal.returns-in-52
unfolding digit_of
returns-in-52 c = ap digit_of (sym c.in-52.is)

pub returns-in-53 : goal.returns-in-53
unfolding digit_of
returns-in-53 c = ap digit_of (sym c.in-53.is)

pub returns-in-54 : goal.returns-in-54
unfolding digit_of
returns-in-54 c = ap digit_of (sym c.in-54.is)

pub returns-in-55 : goal.returns-in-55
unfolding digit_of
returns-in-55 c = ap digit_of (sym c.in-55.is)

pub returns-in-56 : goal.returns-in-56
unfolding digit_of
returns-in-56 c = ap digit_of (sym c.in-56.is)

pub returns-in-57 : goal.returns-in-57
unfolding digit_of
returns-in-57 c = ap digit_of (sym c.in-57.is)

pub returns-in-65 : goal.returns-in-65
unfolding digit_of
returns-in-65 c = ap digit_of (sym c.in-65.is)

pub returns-in-66 : goal.returns-in-66
unfolding digit_of
returns-in-66 c = ap digit_of (sym c.in-66.is)

pub returns-in-67 : goal.returns-in-67
unfolding digit_of
returns-in-67 c = ap digit_of (sym c.in-67.is)

pub returns-in-68 : goal.returns-in-68
unfolding digit_of
returns-in-68 c = ap digit_of (sym c.in-68.is)

pub returns-in-69 : goal.returns-in-69
unfolding digit_of
returns-in-69 c = ap digit_of (sym c.in-69.is)

pub returns-in-70 : goal.returns-in-70
unfolding digit_of
returns-in-70 c = ap digit_of (sym c.in-70.is)

pub returns-in_default : goal.returns-in_default
unfolding digit_of
returns-in_default c = search (rules, other_byte)
