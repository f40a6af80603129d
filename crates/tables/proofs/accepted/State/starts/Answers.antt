-- `State::starts` adds up the strides.
use mathlib.Core.Path.{◌∙◌}
use native.Mathlib.Omega.{arith}
use Rattle.tables.proofs.FrameLaws.{child_below, starting, sum_small, next_near, signed_near, starting_next, starting_end}
use Rattle.tables.proofs.accepted.State.starts.Goals as goal

pub loop-d-init : goal.loop-d-init
loop-d-init c = starting c.args.self.now.of c.args.self.now.flip c.new-at.ensures

pub stride-requires : goal.stride-requires
stride-requires c = child_below c.args.self.now.of c.loop-d.d (omega arith)

pub sum_of-at-requires : goal.sum_of-at-requires
sum_of-at-requires c = sum_small c.args.self.now.of c.loop-d.invariant c.loop-d-test.true c.stride.ensures

pub signed-requires : goal.signed-requires
signed-requires c = next_near c.args.self.now.of c.loop-d.invariant c.loop-d-test.true c.stride.ensures c.sum_of-at.ensures

pub corner_of-requires : goal.corner_of-requires
corner_of-requires c = signed_near c.args.self.now.of c.loop-d.invariant c.loop-d-test.true c.stride.ensures c.sum_of-at.ensures c.signed.ensures

pub loop-d-preserved : goal.loop-d-preserved
loop-d-preserved c = starting_next c.args.self.now.of c.loop-d.invariant c.loop-d-test.true c.stride.ensures c.sum_of-at.ensures (c.corner_of.ensures ∙ c.signed.ensures)

pub returns : goal.returns
returns c = starting_end c.args.self.now.of c.loop-d.invariant c.loop-d-test.false
