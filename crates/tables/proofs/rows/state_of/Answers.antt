-- `rows::state_of` is twice the token, and 1 more where flipped.
use Rattle.tables.proofs.StateNumberLaws.{state_is}
use Rattle.tables.proofs.rows.state_of.Goals as goal

pub returns : goal.returns
returns c = state_is c.args.child c.args.flip c.flipped.ensures c.requires c.from.ensures
