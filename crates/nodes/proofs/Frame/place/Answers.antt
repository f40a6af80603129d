-- `Frame::place` meets its contract: the casts of good positions lose nothing.
use Rattle.std.proofs.Common.{rules}
use Rattle.nodes.proofs.NodeLaws.{placing}
use Rattle.nodes.proofs.Frame.place.Goals as goal

pub float_to_int-result : goal.float_to_int-result
float_to_int-result c = search (rules, placing)

pub float_to_int-result-2 : goal.float_to_int-result-2
float_to_int-result-2 c = search (rules, placing)

pub overflow_mul-result : goal.overflow_mul-result
overflow_mul-result c = search (rules, placing)

pub overflow_add-result : goal.overflow_add-result
overflow_add-result c = search (rules, placing)

pub returns : goal.returns
returns c = search (rules, placing)
