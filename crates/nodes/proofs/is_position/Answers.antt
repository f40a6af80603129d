-- `is_position` meets its contract: the laws of the test say what each comparison tells.
use Rattle.std.proofs.Common.{◌∙◌, rules}
use lib.Ieee.{of_bits, neg}
use denote.Floats.{passes}
use Rattle.nodes.proofs.NodePositions.{positions}
use Rattle.nodes.proofs.is_position.Goals as goal
use Rattle.nodes.proofs.is_position.Goals.{then-t-x, else-t-x, else-x-via-then-x+else-x-2, else-x-via-else-x}

pub truncating_f64_to_i64-t-requires : goal.truncating_f64_to_i64-t-requires
unfolding of_bits neg
truncating_f64_to_i64-t-requires c = search (rules, positions)

pub int_to_float-t : goal.int_to_float-t
unfolding of_bits neg
int_to_float-t c = search (rules, positions)

pub float_to_bits-t : goal.float_to_bits-t
unfolding of_bits neg
float_to_bits-t c = search (rules, positions)

pub float_to_bits-x : goal.float_to_bits-x
unfolding of_bits neg
float_to_bits-x c = search (rules, positions)

pub nonzero_rem-result : goal.nonzero_rem-result
unfolding of_bits neg
nonzero_rem-result c = search (rules, positions)

pub returns-then-x-2 : goal.returns-then-x-2
unfolding of_bits neg
returns-then-x-2 c = elim c.if-t-x.branch [ then-t-x w ↦ w.result-is ∙ search (rules, positions, passes) | else-t-x w ↦ w.result-is ∙ search (rules, positions, passes) ]

pub returns : goal.returns
unfolding of_bits neg
returns c = elim c.else-x.branch [ else-x-via-then-x+else-x-2 w ↦ search (rules, positions) | else-x-via-else-x w ↦ search (rules, positions) ]
