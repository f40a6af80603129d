-- `State::family` has each child's footprint where it starts.
use Rattle.tables.proofs.FrameLaws.{child_below, family_is}
use native.Mathlib.Omega.{arith}
use Rattle.tables.proofs.accepted.State.family.Goals as goal

pub placed-first-requires : goal.placed-first-requires
placed-first-requires c = child_below c.args.self.now.of 0 (omega arith)

pub placed-second-requires : goal.placed-second-requires
placed-second-requires c = child_below c.args.self.now.of 1 (omega arith)

pub placed-third-requires : goal.placed-third-requires
placed-third-requires c = child_below c.args.self.now.of 2 (omega arith)

pub placed-fourth-requires : goal.placed-fourth-requires
placed-fourth-requires c = child_below c.args.self.now.of 3 (omega arith)

pub returns : goal.returns
returns c = family_is c.args.self.now.of c.args.self.now.flip c.args.at c.requires _ _ _ _ c.placed-first.ensures c.placed-second.ensures c.placed-third.ensures c.placed-fourth.ensures
