-- `rounded` meets its contract, from what each step gives.
use borrow.Author.Rules.{rules}
use Rattle.curve.proofs.PointLaws.{rounding}
use Rattle.curve.proofs.rounded.Goals as goal

pub floor_of-floor_i-requires : goal.floor_of-floor_i-requires
floor_of-floor_i-requires c = search (rules, rounding)

pub floor_of-floor_j-requires : goal.floor_of-floor_j-requires
floor_of-floor_j-requires c = search (rules, rounding)

pub parity_by-parity-requires : goal.parity_by-parity-requires
parity_by-parity-requires c = search (rules, rounding)

pub overflow_cast-m : goal.overflow_cast-m
overflow_cast-m c = search (rules, rounding)

pub overflow_cast-n : goal.overflow_cast-n
overflow_cast-n c = search (rules, rounding)

pub settled-requires : goal.settled-requires
settled-requires c = search (rules, rounding)

pub is_moved-requires : goal.is_moved-requires
is_moved-requires c = search (rules, rounding)

pub returns : goal.returns
returns c = search (rules, rounding)
