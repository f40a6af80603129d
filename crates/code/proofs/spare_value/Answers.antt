-- `spare_value`: the last byte of the code, below the size that its spare bits have.
use borrow.Author.Rules.{rules}
use Rattle.code.proofs.SpareLaws.{sparing}
use Rattle.code.proofs.spare_value.Goals as goal

pub bounds-bytes-position_bytes : goal.bounds-bytes-position_bytes
bounds-bytes-position_bytes c = search (rules, sparing)

pub nonzero_rem-result : goal.nonzero_rem-result
nonzero_rem-result c = search (rules, sparing)

pub returns : goal.returns
returns c = search (rules, sparing)
