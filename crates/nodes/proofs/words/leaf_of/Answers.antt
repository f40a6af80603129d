-- `words::leaf_of`: what its word holds is what the table has.
use Rattle.std.proofs.Common.{refl}
use Rattle.nodes.specs.Inside.Words.{leaf_word}
use Rattle.nodes.proofs.A5Reads.{leaf_read}
use Rattle.nodes.proofs.words.leaf_of.Goals as goal

pub returns : goal.returns
unfolding leaf_word
returns c = leaf_read _ _ c.requires c.args.digit.one_of_four refl c.spread.ensures c.spread-2.ensures c.new.ensures
