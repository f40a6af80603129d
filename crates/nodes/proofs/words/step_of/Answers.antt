-- `words::step_of`: what its word holds is what the table has.
use Rattle.std.proofs.Common.{refl}
use Rattle.nodes.specs.Inside.Words.{step_word}
use Rattle.nodes.proofs.A5Reads.{step_read}
use Rattle.nodes.proofs.words.step_of.Goals as goal

pub returns : goal.returns
unfolding step_word
returns c = step_read _ _ c.requires c.args.digit.one_of_four refl c.spread.ensures c.spread-2.ensures
